-- Entry lookup (01, "The driver's side"): 1, then 6 if the slot is out of range or its evbits bit 0 is clear.
use Rattle.std.specs.Prelude.{ℕ, ◌<◌, ◌≡◌, Bool, not, cond, List, [], ◌∷◌, ltb, eqb, length}
use Rattle.answers.specs.Answers.{done, invalid, bad_slot}
use Rattle.answers.specs.Refusals.{first_refusal}
use Rattle.copying.specs.Copying.{Agree}
use Rattle.geometry.specs.declared.Geometry.{Geometry}
use Rattle.geometry.specs.Geometry.{allowed, entry_page_length, slot_count, entry_place}
use Rattle.entries.specs.Entry.{known_length, is_present, entry_at}

abbrev pub lookup_refusals : Geometry → List ℕ → ℕ → List (Bool × ℕ)
lookup_refusals geometry page slot =
    (not (allowed geometry), invalid)
    ∷ (not (eqb (length page) entry_page_length), invalid)
    ∷ (not (ltb slot (slot_count geometry)), bad_slot)
    ∷ (not (is_present (entry_at geometry page slot)), bad_slot)
    ∷ []

abbrev pub lookup_answer : Geometry → List ℕ → ℕ → ℕ
lookup_answer geometry page slot = first_refusal (lookup_refusals geometry page slot)

-- The slot's 68 bytes of the page; where that is refused, none.
abbrev pub lookup_part : Geometry → List ℕ → ℕ → List ℕ
lookup_part geometry page slot = cond (eqb (lookup_answer geometry page slot) done) (entry_at geometry page slot) []

-- Two pages that are the same to a driver: it knows the first 68 bytes of each entry.
pub record SameEntries (geometry : Geometry) (left right : List ℕ) : Type 0 where
  pub same_length : length left ≡ length right
  pub same_entries : (slot : ℕ) → slot < slot_count geometry → Agree left right (entry_place geometry slot) known_length
