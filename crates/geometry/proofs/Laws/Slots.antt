-- Slots of the entry page: how many there are, and where their entries lie.
use Prim.Native.Nat.{ℕ, suc, ◌+◌, ◌*◌, ◌≤◌, ◌<◌}
use mathlib.Core.Path.{◌≡◌}
use native.Mathlib.Omega.{arith}
use native.Mathlib.Nat.{le-div_iff_mul-le, div-lt_iff_lt-mul, mul_comm, mul-add, mul-one}
use native.Mathlib.Decide.{dec_le}
use native.Mathlib.Numerals.{add-one}
use lib.Dec.{leb, ltb}
use borrow.Author.Tests.{le-leb, lt-leb}
use Rattle.geometry.specs.Geometry.{slot_count, entry_place}
use Rattle.geometry.specs.declared.Geometry.{Geometry}
use Rattle.geometry.proofs.Laws.Allowed.{Sizes}

module _ (geometry : Geometry) (sized : Sizes geometry) where
  -- the entries of so many slots end within the page
  slots_inside : (count : ℕ) → count ≤ slot_count geometry → geometry.entry_size * count ≤ 4096
  slots_inside count h =
      let k : count * geometry.entry_size ≤ 4096 = (le-div_iff_mul-le {k = geometry.entry_size} (omega arith)).0 h in
      rw mul_comm k

  slots_past : (count : ℕ) → slot_count geometry < count → 4096 < geometry.entry_size * count
  slots_past count high =
      let k : 4096 < count * geometry.entry_size = (div-lt_iff_lt-mul {k = geometry.entry_size} (omega arith)).0 high in
      rw mul_comm k

  pub entry_inside : (slot : ℕ) → slot < slot_count geometry → entry_place geometry slot + geometry.entry_size ≤ 4096
  entry_inside slot h = omega
      (arith, slots_inside (slot + 1) (omega arith), mul-add geometry.entry_size slot 1, mul-one geometry.entry_size)

  pub few_slots : slot_count geometry ≤ 60
  few_slots =
      let k : 4096 < 61 * geometry.entry_size = omega arith in
      let l : slot_count geometry < 61 = (div-lt_iff_lt-mul {k = geometry.entry_size} (omega arith)).1 k in
      omega arith

  -- there are so many slots if their entries end within the page
  pub slots_test : (count : ℕ) → leb (geometry.entry_size * count) 4096 ≡ leb count (slot_count geometry)
  slots_test count = elim (dec_le count (slot_count geometry)) [
    | yes low ↦ rw (le-leb count (slot_count geometry) low) (le-leb (geometry.entry_size * count) 4096 (slots_inside count low))
    | no high ↦ rw (lt-leb count (slot_count geometry) (omega (arith, high)))
        (lt-leb (geometry.entry_size * count) 4096 (slots_past count (omega (arith, high))))
  ]

  -- a slot is in range if there is one slot more than its number says
  pub slot_test : (slot : ℕ) → leb (geometry.entry_size * (slot + 1)) 4096 ≡ ltb slot (slot_count geometry)
  slot_test slot = rw add-one (slots_test (suc slot))
