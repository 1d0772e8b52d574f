-- Where a place lies: what is known of an offset from what stands there.
use Prim.Native.Nat.{ℕ, ◌+◌, ◌≤◌, ◌<◌}
use mathlib.Core.Path.{◌≡◌, refl, sym, ap, ◌∙◌}
use mathlib.Core.Bool.{Bool, true, false, ◌&&◌, cond, false≢true}
use mathlib.Core.List.{List, [], ◌∷◌}
use native.Mathlib.Omega.{arith}
use native.Mathlib.Decide.{dec_lt}
use lib.Dec.{eqb}
use borrow.Author.Tests.{lt-ltb, le-ltb, ltb-true, ltb-false}
use Rattle.answers.proofs.Choice.{either}
use Rattle.geometry.specs.declared.Geometry.{Geometry}
use Rattle.geometry.specs.Geometry.{area_length}
use Rattle.geometry.proofs.Laws.Allowed.{both}
use Rattle.access.specs.declared.Place.{Place}
use Rattle.access.specs.declared.Place.TheVariants.{Magic, Rev, Control, EventSize, Npages, Acceleration, Isr, ConfSize, ClientRev}
use Rattle.access.specs.declared.Place.TheVariants.{ReadPtr, EventArea, EntryPage, Nothing}
use Rattle.access.specs.Place.{registers, place_in, place_of}

-- places of the first page
is_first : Place → Bool
is_first Magic = true
is_first Rev = true
is_first Control = true
is_first EventSize = true
is_first Npages = true
is_first Acceleration = true
is_first Isr = true
is_first ConfSize = true
is_first ClientRev = true
is_first ReadPtr = false
is_first EventArea = false
is_first EntryPage = false
is_first Nothing = true

all_first : List (ℕ × Place) → Bool
all_first [] = true
all_first ((at, place) ∷ rest) = is_first place && all_first rest

-- a table of registers gives places of the first page only
in_table : (table : List (ℕ × Place)) (offset : ℕ) → all_first table ≡ true → is_first (place_in table offset) ≡ true
unfolding is_first all_first place_in
in_table [] offset h = refl
in_table ((at, place) ∷ rest) offset h =
    let all = both (is_first place) (all_first rest) h in
    either (λ (p : Place). is_first p ≡ true) (eqb offset at) (λ same. all.0) (λ other. in_table rest offset all.1)

never_first : (offset : ℕ) (place : Place) → is_first place ≡ false → place_in registers offset ≡ place → ⊥
unfolding is_first all_first
never_first offset place h e = false≢true (sym h ∙ ap is_first (sym e) ∙ in_table registers offset refl)

-- behind it, the tests decide
is_area : (pointer area : Bool) → cond pointer ReadPtr (cond area EventArea EntryPage) ≡ EventArea → area ≡ true
is_area true area e = let z : ◌≡◌ {A = ℕ} 0 1 = cc in absurd (omega arith)
is_area false true e = refl
is_area false false e = let z : ◌≡◌ {A = ℕ} 0 1 = cc in absurd (omega arith)

is_page : (pointer area : Bool) → cond pointer ReadPtr (cond area EventArea EntryPage) ≡ EntryPage → area ≡ false
is_page true area e = let z : ◌≡◌ {A = ℕ} 0 1 = cc in absurd (omega arith)
is_page false true e = let z : ◌≡◌ {A = ℕ} 0 1 = cc in absurd (omega arith)
is_page false false e = refl

module _ (geometry : Geometry) (offset : ℕ) where
  -- behind the first page
  behind : (place : Place) → is_first place ≡ false → place_of geometry offset ≡ place → 0x1000 ≤ offset
  unfolding place_of
  behind place h e = elim (dec_lt offset 0x1000) [
    | yes low ↦ absurd (never_first offset place h (rw (lt-ltb offset 0x1000 low) at e))
    | no high ↦ omega arith
  ]

  pub area_begins : place_of geometry offset ≡ EventArea → 0x1000 ≤ offset
  unfolding is_first
  area_begins e = behind EventArea refl e

  pub area_ends : place_of geometry offset ≡ EventArea → offset < 0x1000 + area_length geometry
  unfolding place_of
  area_ends e =
      ltb-true offset (0x1000 + area_length geometry) (is_area (eqb offset 0x1000) _ (rw (le-ltb offset 0x1000 (area_begins e)) at e))

  pub page_begins : place_of geometry offset ≡ EntryPage → 0x1000 + area_length geometry ≤ offset
  unfolding place_of is_first
  page_begins e =
      let high = le-ltb offset 0x1000 (behind EntryPage refl e) in
      ltb-false offset (0x1000 + area_length geometry) (is_page (eqb offset 0x1000) _ (rw high at e))
