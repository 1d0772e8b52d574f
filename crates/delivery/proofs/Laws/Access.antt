-- An access that leaves the device on and the read pointer as it was keeps the invariant: it changes nothing of what is pending.
use Prim.Native.Nat.{ℕ}
use mathlib.Core.Path.{◌≡◌, refl, sym, ap, subst}
use mathlib.Core.Bool.{Bool, true, false, false≢true}
use mathlib.Core.List.{List, append-nil}
use native.Mathlib.Omega.{arith}
use native.Mathlib.Decide.{ℕ_discrete}
use lib.Dec.{eqb}
use lib.ListN.{length}
use borrow.Author.Tests.{ne_eqb}
use Rattle.geometry.specs.declared.Geometry.{Geometry}
use Rattle.records.specs.declared.Event.{Event}
use Rattle.revision1_reader.proofs.Laws.Group.{PositionFits}
use Rattle.device.specs.declared.Producer.{Producer}
use Rattle.device.specs.declared.Revision.{Revision}
use Rattle.device.specs.declared.Revision.TheVariants.{One, Two}
use Rattle.device.specs.Revision.{revision_for}
use Rattle.device.specs.Result.{Result}
use Rattle.device.proofs.Laws.Call.{call_with}
use Rattle.access.specs.Access.{access_answer}
use Rattle.registers.specs.Read.{read_of}
use Rattle.registers.specs.Write.{write_of}
use Rattle.registers.proofs.Laws.Keeps.{write_keeps, write_size}
use Rattle.pending.proofs.Laws.Pending.{pending_same}
use Rattle.delivery.specs.World.{World, read, write, revision_in, call}
use Rattle.delivery.specs.Log.{Item}
use Rattle.delivery.specs.Pending.{driver_reader, group_reader}
use Rattle.delivery.specs.Premises.{StaysOn}
use Rattle.delivery.proofs.Laws.Reads.{Reads, left_by}
use Rattle.delivery.proofs.Laws.Invariant.{Invariant, Kept, known, quiet_kept}
use Rattle.delivery.proofs.Laws.Written.{Written, access_not_ten, write_written}

module _ (geometry : Geometry) (world : World) {begun : List Event} {pending : List Item} (h : Invariant geometry world begun pending)
    (offset width : ℕ) where
  -- ---- a read

  read_not_ten : (read_of geometry world.device world.area world.page offset width).answer ≡ 10 → ⊥
  unfolding read_of
  read_not_ten =
      let answer : ℕ = access_answer geometry world.device (length world.area) (length world.page) false offset width in
      elim (ℕ_discrete answer 0) [
        | yes e ↦ rw e (λ z. omega arith)
        | no n ↦ rw (ne_eqb answer 0 n)
            (access_not_ten geometry world.device (length world.area) (length world.page) false offset width)
      ]

  pub read_kept : Kept geometry world begun pending (read offset width) (call geometry world (read offset width))
  unfolding call
  read_kept = record {
    still = pending;
    invariant = h;
    log = sym (append-nil pending);
    sender = refl;
    dry = λ z. absurd (false≢true z);
    not_ten = read_not_ten;
  }

  -- ---- a write

  module _ (value : ℕ) where
    abbrev written : Result
    written = write_of geometry world.device world.area (length world.page) offset width value

    abbrev left : World
    left = left_by world written.outcome.device written.area world.page

    -- the reader sees nothing of it
    same_reads : (revision : Revision) (takes : Bool) → Reads revision geometry world begun pending
        → Written geometry world.device world.area value takes written → StaysOn world left
        → Reads revision geometry left begun pending
    same_reads One takes r w stays = record {
      position = subst (λ (producer : Producer). PositionFits producer.position) (sym w.same_producer) r.position;
      ahead = rw (ap (λ (producer : Producer). producer.write_index) w.same_producer)
          (pending_same group_reader r.ahead stays.same_read_pointer w.same_write w.same_records);
    }
    same_reads Two takes r w stays = record {
      packet_size = r.packet_size;
      is_driver_lem = r.is_driver_lem;
      ahead = rw (
        ap (λ (producer : Producer). producer.write_index) w.same_producer,
        ap (λ (producer : Producer). producer.current_slot) w.same_producer,
      )
          (pending_same (driver_reader geometry) r.ahead stays.same_read_pointer w.same_write w.same_records);
    }

    pub write_kept : StaysOn world (call geometry world (write offset width value)).world
        → Kept geometry world begun pending (write offset width value) (call geometry world (write offset width value))
    unfolding call
    write_kept stays =
        let c = known h in
        let w = write_written geometry world.device world.area h.on value c.keeps.client_rev c.holds (length world.page)
        offset width in
        let keeps = write_keeps geometry world.device c.keeps world.area (length world.page) offset width value in
        let size = write_size geometry world.device world.area (length world.page) offset width value in
        let lost = ap (λ (producer : Producer). producer.lost) w.same_producer in
        let position = ap (λ (producer : Producer). producer.position) w.same_producer in
        quiet_kept refl (rw (lost, position, w.same_client_rev, w.acceleration)) refl w.not_ten
        (record {
          called = rw size (call_with geometry _ c keeps);
          on = stays.on;
          reads = subst (λ (rev : ℕ). Reads (revision_for rev) geometry left begun pending) (sym w.same_client_rev)
              (same_reads (revision_in world) (eqb offset 0x10C) h.reads w stays);
        })
