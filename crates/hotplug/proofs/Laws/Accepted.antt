-- What is known of an add and of a remove that is not refused: no test of its table holds.
use Prim.Native.Nat.{ℕ, ◌<◌}
use mathlib.Core.Path.{◌≡◌, sym, ap, ◌∙◌}
use mathlib.Core.Bool.{Bool, true, false}
use mathlib.Core.List.{List}
use native.Mathlib.Omega.{arith}
use lib.ListN.{length}
use borrow.Author.Tests.{eqb-true, ltb-true, not-false}
use Rattle.answers.proofs.Laws.{none_holds}
use Rattle.bits.specs.Bits.{bit_of}
use Rattle.geometry.specs.declared.Geometry.{Geometry}
use Rattle.geometry.specs.Geometry.{ring_of, slot_count}
use Rattle.geometry.proofs.Laws.Allowed.{sizes}
use Rattle.geometry.proofs.Laws.Slots.{few_slots}
use Rattle.records.specs.declared.Event.{Event}
use Rattle.records.specs.Put.{record_if}
use Rattle.records.proofs.Laws.PutAll.{if_length}
use Rattle.entries.specs.Entry.{is_present}
use Rattle.device.specs.declared.Registers.{Registers}
use Rattle.device.specs.declared.Device.{Device}
use Rattle.device.specs.State.{is_taken}
use Rattle.device.specs.Call.{is_valid_call}
use Rattle.device.specs.Room.{room_refusal}
use Rattle.device.proofs.Laws.Rules.{taken_slot}
use Rattle.device.proofs.Laws.Call.{Call, call}
use Rattle.hotplug.specs.Hotplug.{tells}
use Rattle.hotplug.specs.Add.{add_records, add_answer}
use Rattle.hotplug.specs.Remove.{remove_records, remove_answer}

-- how many records a call puts
pub needed : (registers : Registers) (event : Event) {told : Bool} {count : ℕ} → told ≡ tells registers → count ≡ bit_of told
    → count ≡ length (record_if (tells registers) event)
needed registers event e h = h ∙ ap bit_of e ∙ sym (if_length (tells registers) event)

module _ (geometry : Geometry) (device : Device) (area page : List ℕ) (slot : ℕ) where
  -- what both calls have: a slot in range, which is a bit of the mask
  pub record Accepted : Type 0 where
    pub known : Call geometry device (length area) (length page)
    pub in_range : slot < slot_count geometry
    pub is_bit : slot < 64

  accepted : is_valid_call geometry device (length area) (length page) ≡ true → slot < slot_count geometry → Accepted
  accepted called low =
      let known = call geometry device (length area) (length page) called in
      record { known = known; in_range = low; is_bit = omega (arith, few_slots geometry (sizes geometry known.is_allowed)) }

  -- an add is to a free slot, of a whole entry that is there
  pub record AddAccepted (entry : List ℕ) : Type 0 where
    pub shared : Accepted
    pub free : is_taken device.taken slot ≡ false
    pub entry_size : length entry ≡ geometry.entry_size
    pub present : is_present entry ≡ true
    pub room : room_refusal (ring_of geometry) area device.producer.write_index (length (add_records device slot)) ≡ 0

  pub add_accepted : (entry : List ℕ) → add_answer geometry device area page slot entry ≡ 0 → AddAccepted entry
  unfolding add_answer
  add_accepted entry h =
      let a = none_holds _ _ _ (omega arith) h in
      let b = none_holds _ _ _ (omega arith) a.1 in
      let c = none_holds _ _ _ (omega arith) b.1 in
      let d = none_holds _ _ _ (omega arith) c.1 in
      let e = none_holds _ _ _ (omega arith) d.1 in
      record {
        shared = accepted (not-false _ a.0) (ltb-true slot (slot_count geometry) (not-false _ c.0));
        free = d.0;
        entry_size = eqb-true (length entry) geometry.entry_size (not-false _ b.0);
        present = not-false _ e.0;
        room = e.1;
      }

  -- a remove is of a taken slot
  pub record RemoveAccepted : Type 0 where
    pub shared : Accepted
    pub taken : is_taken device.taken slot ≡ true
    pub room : room_refusal (ring_of geometry) area device.producer.write_index (length (remove_records device slot)) ≡ 0

  pub remove_accepted : remove_answer geometry device area page slot ≡ 0 → RemoveAccepted
  unfolding remove_answer
  remove_accepted h =
      let a = none_holds _ _ _ (omega arith) h in
      let b = none_holds _ _ _ (omega arith) a.1 in
      let called = not-false _ a.0 in
      let taken = not-false _ b.0 in
      record {
        shared = accepted called (taken_slot (call geometry device (length area) (length page) called).keeps slot taken);
        taken = taken;
        room = b.1;
      }
