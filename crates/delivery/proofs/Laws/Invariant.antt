-- What holds between calls while the device is on, and what a call that keeps it leaves.
use Prim.Native.Nat.{ℕ}
use mathlib.Core.Path.{◌≡◌, sym, subst, ◌∙◌}
use mathlib.Core.Bool.{true, false, false≢true}
use mathlib.Core.List.{List, [], ◌++◌, append-nil}
use lib.ListN.{length}
use Rattle.geometry.specs.declared.Geometry.{Geometry}
use Rattle.geometry.specs.Geometry.{ring_of}
use Rattle.records.specs.declared.Event.{Event}
use Rattle.records.specs.Ring.{read_pointer, has_room}
use Rattle.records.specs.Put.{index_after}
use Rattle.records.proofs.Laws.PutAll.{puts_length}
use Rattle.device.specs.declared.Device.{Device}
use Rattle.device.specs.Revision.{revision_for, revision_of}
use Rattle.device.specs.Call.{is_valid_call}
use Rattle.device.proofs.Laws.Call.{Call, call}
use Rattle.delivery.specs.World.{World, Result, revision_in}
use Rattle.delivery.specs.World as world
use Rattle.delivery.specs.Log.{Item, is_nothing_to_read, number_in}
use Rattle.delivery.specs.Received.{receives}
use Rattle.delivery.specs.Sent.{Sender, sends}
use Rattle.delivery.proofs.Laws.Reads.{Reads, Puts, write_index, current_slot, put_in, reads-put}

-- A call of the device is let through with 0, and its state keeps its rules.
abbrev pub IsCalled : Geometry → World → Type 0
IsCalled geometry world = is_valid_call geometry world.device (length world.area) (length world.page) ≡ true

-- The reader's side goes by the device's revision. What is begun are the records that a revision 1 reader has read since the last FENCE.
pub record Invariant (geometry : Geometry) (world : World) (begun : List Event) (pending : List Item) : Type 0 where
  pub called : IsCalled geometry world
  pub on : world.device.registers.on ≡ true
  pub reads : Reads (revision_in world) geometry world begun pending

pub known : {geometry : Geometry} {world : World} {begun : List Event} {pending : List Item} → Invariant geometry world begun pending
    → Call geometry world.device (length world.area) (length world.page)
known {geometry} {world} h = call geometry world.device (length world.area) (length world.page) h.called

-- What the device's state says of the sender.
abbrev pub sender_of : Device → Sender
sender_of device = record {
  revision = revision_of device.registers;
  refused = device.producer.lost;
  acceleration = device.registers.acceleration;
  position = device.producer.position;
}

-- A call keeps it, and its log is right.
pub record Kept (geometry : Geometry) (before : World) (begun : List Event) (pending : List Item) (next : world.Call) (result : Result)
    : Type 0 where
  pub still : List Item
  pub invariant : Invariant geometry result.world (receives begun result.answer).begun still
  pub log : (receives begun result.answer).items ++ still
      ≡ pending ++ (sends (sender_of before.device) next (number_in result.answer)).items
  pub sender : sender_of result.world.device ≡ (sends (sender_of before.device) next (number_in result.answer)).next
  pub dry : is_nothing_to_read next (number_in result.answer) ≡ true → still ≡ []
  pub not_ten : number_in result.answer ≡ 10 → ⊥

-- a call of the device that sends nothing
pub quiet_kept : {geometry : Geometry} {before after : World} {begun : List Event} {pending : List Item} {next : world.Call} {number : ℕ}
    → (sends (sender_of before.device) next number).items ≡ []
    → sender_of after.device ≡ (sends (sender_of before.device) next number).next
    → is_nothing_to_read next number ≡ false → (number ≡ 10 → ⊥) → Invariant geometry after begun pending
    → Kept geometry before begun pending next (record { answer = world.numbered number; world = after })
quiet_kept {pending = pending} nothing same no_step not_ten holds = record {
  still = pending;
  invariant = holds;
  log = rw nothing (sym (append-nil pending));
  sender = same;
  dry = λ z. absurd (false≢true (sym no_step ∙ z));
  not_ten = not_ten;
}

-- records were put, and the revision is the same
pub appended : (geometry : Geometry) {world : World} {begun : List Event} {pending : List Item} → Invariant geometry world begun pending
    → (records : List Event) (more : List Item) (device : Device) (page : List ℕ)
    → has_room (ring_of geometry) (read_pointer world.area) (write_index world) (length records) ≡ true
    → Puts (revision_in world) geometry (current_slot world) records more device.producer.current_slot device.producer.position
    → device.producer.write_index ≡ index_after (ring_of geometry) (write_index world) records
    → device.registers.client_rev ≡ world.device.registers.client_rev → device.registers.on ≡ true
    → is_valid_call geometry device (length world.area) (length page) ≡ true
    → Invariant geometry (put_in geometry world records device page) begun (pending ++ more)
appended geometry {world} {begun} {pending} h records more device page room puts index same on called =
    let c = known h in
    let after = put_in geometry world records device page in
    record {
      called = rw (puts_length (ring_of geometry) (write_index world) records world.area c.holds c.keeps.write_inside) called;
      on = on;
      reads = subst (λ (rev : ℕ). Reads (revision_for rev) geometry after begun (pending ++ more)) (sym same)
          (reads-put geometry world begun pending (revision_in world) h.reads c.holds records more device page room puts index);
    }
