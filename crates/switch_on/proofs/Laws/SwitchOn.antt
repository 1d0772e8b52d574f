-- The ways out of a switch-on, and that its records always fit.
use Prim.Native.Nat.{ℕ, ◌+◌, ◌-◌, ◌≤◌, ◌<◌}
use mathlib.Core.Path.{◌≡◌, ◌∙◌}
use mathlib.Core.Bool.{Bool, true}
use mathlib.Core.List.{List}
use native.Mathlib.Omega.{arith}
use lib.ListN.{length, length-map}
use borrow.Author.Tests.{le-leb, lt-leb}
use Rattle.geometry.specs.declared.Geometry.{Geometry}
use Rattle.geometry.specs.Geometry.{allowed, ring_length, ring_of, slot_count}
use Rattle.geometry.proofs.Laws.Allowed.{sizes}
use Rattle.geometry.proofs.Laws.Slots.{few_slots}
use Rattle.records.specs.Event.{AllFit}
use Rattle.records.specs.Put.{Put}
use Rattle.device.specs.declared.Device.{Device}
use Rattle.device.specs.declared.Revision.{Revision}
use Rattle.device.specs.declared.Revision.TheVariants as revision
use Rattle.device.specs.Revision.{revision_of}
use Rattle.device.specs.Result.{Outcome}
use Rattle.device.specs.Result.{Result}
use Rattle.switch_on.specs.SwitchOn.{records_at_start, start_records, cleared_pointers, switched_on, started, switch_on}
use Rattle.switch_on.proofs.Laws.Slots.{few_taken, slots_fit}

-- at most one record more than slots
at_most : (revision : Revision) (taken slots : ℕ) → length (records_at_start revision taken slots) ≤ slots + 1
at_most revision.One taken slots = omega arith
at_most revision.Two taken slots = simp length-map (omega (arith, few_taken taken 0 slots))

-- what a write leaves is what a definition says
abbrev pub Leaves : Outcome → List ℕ → Result → Type 0
Leaves outcome after result = (outcome ≡ result.outcome) × (after ≡ result.area)

module _ (geometry : Geometry) (device : Device) (area : List ℕ) (interrupts : Bool) {count : ℕ}
    (counted : count ≡ length (start_records geometry device)) where
  pub no_room_lem : ring_length geometry - 1 < count
      → Leaves (record { answer = 7; device = device }) area (switch_on geometry device area interrupts)
  unfolding switch_on
  no_room_lem h =
      let test = lt-leb (length (start_records geometry device)) (ring_length geometry - 1) (omega arith) in
      (rw test, rw test)

  pub starts : count ≤ ring_length geometry - 1 → {cleared after : List ℕ} {index : ℕ} {new : Device} → cleared ≡ cleared_pointers area
      → Put (ring_of geometry) 0 (start_records geometry device) cleared after index → new ≡ switched_on interrupts index device
      → Leaves (record { answer = 0; device = new }) after (switch_on geometry device area interrupts)
  unfolding switch_on
  starts h clear put d =
      let test = le-leb (length (start_records geometry device)) (ring_length geometry - 1) (omega arith) in
      (rw (test, d, put.ends), put.holds ∙ rw (test, clear))

-- ---- for every allowed geometry

module _ (geometry : Geometry) (device : Device) (sized : allowed geometry ≡ true) where
  -- the records of a start fit into the empty ring
  pub start_fits : length (start_records geometry device) ≤ ring_length geometry - 1
  start_fits =
      let s = sizes geometry sized in
      omega (arith, at_most (revision_of device.registers) device.taken (slot_count geometry), few_slots geometry s)

  -- so a switch-on is never refused
  pub always_starts : (area : List ℕ) (interrupts : Bool) → switch_on geometry device area interrupts
      ≡ started geometry device area interrupts
  unfolding switch_on
  always_starts area interrupts = rw (le-leb (length (start_records geometry device)) (ring_length geometry - 1) start_fits)

  -- the numbers of its records are within the widths of an event's fields
  pub start_events_fit : AllFit (start_records geometry device)
  start_events_fit = go (revision_of device.registers)
    where
      go : (revision : Revision) → AllFit (records_at_start revision device.taken (slot_count geometry))
      go revision.One = tt
      go revision.Two = (
        record { kind_fits = omega arith; code_fits = omega arith; value_fits = omega arith },
        slots_fit device.taken 0 (slot_count geometry) (omega (arith, few_slots geometry (sizes geometry sized))),
      )
