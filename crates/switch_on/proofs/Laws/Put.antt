-- The records of a start, put one after the other.
use Prim.Native.Nat.{ℕ, suc, ◌+◌, ◌-◌, ◌≤◌, ◌<◌}
use mathlib.Core.Path.{◌≡◌}
use mathlib.Core.List.{List}
use native.Mathlib.Omega.{arith}
use native.Mathlib.Nat.{sub-zero}
use native.Mathlib.Numerals.{add-one}
use lib.ListN.{length}
use Rattle.geometry.specs.declared.Ring.{Ring}
use Rattle.records.specs.Ring.{Holds}
use Rattle.records.specs.Put.{Put}
use Rattle.records.proofs.Laws.Remains.{Remains, remains_begin, remains_go_on, remains_end}
use Rattle.switch_on.specs.SwitchOn.{taken_from}
use Rattle.switch_on.proofs.Laws.Slots.{slot_records, slot_record, records_more}

-- ---- the loop over the slots: those from `slot` on remain

-- the records of the slots from `slot` on remain
abbrev pub SlotsRemain : Ring → ℕ → ℕ → ℕ → List ℕ → List ℕ → ℕ → ℕ → Type 0
SlotsRemain ring index taken slots start area at slot =
    Remains ring index (slot_records taken 0 slots) start area at (slot_records taken slot (slots - slot))

module _ (ring : Ring) (index taken slots : ℕ) (start : List ℕ) where
  pub slots_begin : Holds (length start) ring → index < ring.length → SlotsRemain ring index taken slots start start index 0
  slots_begin h k = rw sub-zero (remains_begin ring index (slot_records taken 0 slots) start h k)

  module _ {area : List ℕ} {at slot : ℕ} (remain : SlotsRemain ring index taken slots start area at slot) where
    pub slots_go_on : slot < slots → {after : List ℕ} {next : ℕ} → Put ring at (slot_record taken slot) area after next
        → length after ≡ length area
        → SlotsRemain ring index taken slots start after next (slot + 1)
    slots_go_on h put kept =
        let left : slots - slot ≡ suc (slots - suc slot) = omega arith in
        rw add-one (remains_go_on ring index (slot_records taken 0 slots) start (rw (left, records_more) at remain) put kept)

    pub slots_end : slots ≤ slot → Put ring index (slot_records taken 0 slots) start area at
    unfolding taken_from
    slots_end h =
        let over : slots - slot ≡ 0 = omega arith in
        remains_end ring index (slot_records taken 0 slots) start (rw over at remain)
