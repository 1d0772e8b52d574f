-- Laws of a lookup: where it finds an entry, and that no byte beyond an entry's first 68 matters.
use Prim.Native.Nat.{ℕ, ◌+◌, ◌-◌, ◌≤◌, ◌<◌}
use mathlib.Core.Path.{◌≡◌, refl}
use mathlib.Core.Bool.{Bool, true, false}
use mathlib.Core.List.{List}
use native.Mathlib.Omega.{arith}
use lib.Dec.{ltb, eqb}
use lib.ListN.{length, take, drop}
use borrow.Author.Tests.{eqb-true, ltb-true, not-false}
use Rattle.copying.proofs.Laws.Agree.{agree_stretch}
use Rattle.answers.specs.Refusals.{first_refusal}
use Rattle.answers.proofs.Laws.{none_holds}
use Rattle.geometry.specs.declared.Geometry.{Geometry}
use Rattle.geometry.specs.Geometry.{allowed, slot_count, entry_place}
use Rattle.geometry.proofs.Laws.Allowed.{sizes}
use Rattle.geometry.proofs.Laws.Slots.{entry_inside}
use Rattle.entries.specs.Entry.{entry_at}
use Rattle.entries.specs.Lookup.{lookup_answer, lookup_part, SameEntries}

-- the 68 bytes from a slot's place on
pub known_part : (geometry : Geometry) (page : List ℕ) (slot : ℕ) {start : ℕ} → start ≡ entry_place geometry slot
    → take (start + 68 - start) (drop start page) ≡ entry_at geometry page slot
known_part geometry page slot {start} e =
    let n : start + 68 - start ≡ 68 = omega arith in
    rw (n, e)

-- an entry's known bytes lie in the page
pub known_inside : (geometry : Geometry) (slot : ℕ) → allowed geometry ≡ true → slot < slot_count geometry
    → entry_place geometry slot + 68 ≤ 4096
known_inside geometry slot ok h =
    let s = sizes geometry ok in
    omega (arith, entry_inside geometry s slot h, s.entry_low)

-- a lookup that is not refused found an entry in the page
pub found_inside : (geometry : Geometry) (page : List ℕ) (slot : ℕ) → lookup_answer geometry page slot ≡ 0
    → entry_place geometry slot + 68 ≤ length page
found_inside geometry page slot h =
    let a = none_holds _ _ _ (omega arith) h in
    let b = none_holds _ _ _ (omega arith) a.1 in
    let c = none_holds _ _ _ (omega arith) b.1 in
    let size : length page ≡ 4096 = eqb-true (length page) 4096 (not-false _ b.0) in
    let low = ltb-true slot (slot_count geometry) (not-false _ c.0) in
    omega (arith, known_inside geometry slot (not-false (allowed geometry) a.0) low)

-- ---- what a driver doesn't know of a page changes no lookup

module _ (geometry : Geometry) (left right : List ℕ) (slot : ℕ) (same : SameEntries geometry left right) where
  same_entry : allowed geometry ≡ true → length left ≡ 4096 → slot < slot_count geometry
      → entry_at geometry left slot ≡ entry_at geometry right slot
  same_entry ok size low =
      let n = known_inside geometry slot ok low in
      agree_stretch left right (entry_place geometry slot) 68 (same.same_entries slot low)
      (omega (arith, n)) (omega (arith, n, same.same_length))

  Same : Type 0
  Same =
      (lookup_answer geometry left slot ≡ lookup_answer geometry right slot)
      × (lookup_part geometry left slot ≡ lookup_part geometry right slot)

  pub same_lookup : (lookup_answer geometry left slot ≡ lookup_answer geometry right slot)
      × (lookup_part geometry left slot ≡ lookup_part geometry right slot)
  unfolding first_refusal Same
  same_lookup = go (allowed geometry) (eqb (length left) 4096) (ltb slot (slot_count geometry)) refl refl refl
    where
      go : (a b c : Bool) → allowed geometry ≡ a → eqb (length left) 4096 ≡ b → ltb slot (slot_count geometry) ≡ c → Same
      go false b c p q r = (rw p, rw p)
      go true false c p q r = (rw (p, ← same.same_length, q), rw (p, ← same.same_length, q))
      go true true false p q r = (rw (p, ← same.same_length, q, r), rw (p, ← same.same_length, q, r))
      go true true true p q r =
          let e = same_entry p (eqb-true (length left) 4096 q) (ltb-true slot (slot_count geometry) r) in
          (rw (← same.same_length, e), rw (← same.same_length, e))
