-- Laws of a loop that reads a number byte by byte.
use Prim.Native.Nat.{ℕ, suc, ◌+◌, ◌≤◌, ◌<◌}
use mathlib.Core.Path.{◌≡◌, refl}
use mathlib.Core.List.{List, [], ◌∷◌}
use native.Mathlib.Omega.{arith}
use native.Mathlib.Numerals.{add-one}
use lib.ListN.{length, get_or, drop, drop_of_length-le}
use lib.Seq.{drop-cons}
use Rattle.std.specs.Prelude.{Ok, Err}
use Rattle.decimals.specs.declared.BadText.{BadText}
use Rattle.decimals.specs.Numbers.{Number, bad_at, next_number, unless_bad, read_rest, read_number}

pub empty_is_bad : (text : List ℕ) → length text ≡ 0 → read_number text ≡ bad_at 0
unfolding read_number
empty_is_bad [] h = refl
empty_is_bad (byte ∷ rest) h = absurd (omega arith)

pub reading_begins : (text : List ℕ) → (length text ≡ 0 → ⊥) → read_rest 0 0 text ≡ read_number text
unfolding read_number
reading_begins [] h = absurd (h refl)
reading_begins (byte ∷ rest) h = refl

module _ (text : List ℕ) (place value : ℕ) (whole : Number) (reading : read_rest place value (drop place text) ≡ whole) where
  next_byte : place < length text
      → unless_bad (next_number place value (get_or text place 0)) (λ next. read_rest (suc place) next (drop (suc place) text)) ≡ whole
  unfolding read_rest
  next_byte h = rw (drop-cons text place 0 h) at reading

  pub reading_goes_on : {next : ℕ} → place < length text → next_number place value (get_or text place 0) ≡ Ok next
      → read_rest (place + 1) next (drop (place + 1) text) ≡ whole
  reading_goes_on h said = rw add-one (rw said at (next_byte h))

  pub reading_spoiled : {bad : BadText} → place < length text → next_number place value (get_or text place 0) ≡ Err bad → Err bad ≡ whole
  reading_spoiled h said = rw said at (next_byte h)

  pub reading_ends : length text ≤ place → Ok value ≡ whole
  unfolding read_rest
  reading_ends h = rw (drop_of_length-le text {i = place} h) at reading
