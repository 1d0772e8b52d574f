-- 01's number of a text: it is 12 just where the text breaks one of the rules.
use Prim.Native.Nat.{ℕ, suc, ◌≤◌, ◌<◌}
use mathlib.Core.Path.{◌≡◌, refl, ap, ◌∙◌}
use mathlib.Core.Bool.{Bool, true, false, not, cond, ◌&&◌, and-false, or-true}
use Rattle.std.proofs.lemmas.Bool.{or_parts}
use mathlib.Core.List.{List, [], ◌∷◌}
use native.Mathlib.Omega.{arith}
use lib.Dec.{ltb, eqb}
use lib.ListN.{length}
use borrow.Author.Tests.{lt-ltb, le-ltb, eq-eqb, ne_eqb, ltb-true, ltb-false, eqb-true, eqb-false}
use Rattle.answers.specs.Answers.{bad_setting}
use Rattle.answers.specs.Refusals.{first_refusal}
use Rattle.std.specs.Prelude.{Ok, Err}
use Rattle.decimals.specs.Numbers.{with_digit, no_digit, follows_zero, too_large, spoils, next_number, read_rest, read_number}
use Rattle.decimals.specs.Numbers.{Number, answer_of, all_digits, said_by, has_leading_zero, text_refusals}
use Rattle.decimals.proofs.Laws.Step.{later-fine}
use Rattle.decimals.proofs.Laws.Exact.{accepted-length}

-- more digits don't make a number smaller
grows : (value : ℕ) (text : List ℕ) → value ≤ said_by value text
unfolding said_by
grows value [] = omega arith
grows value (byte ∷ rest) = omega (arith, grows (with_digit value byte) rest)

either_way : (test : Bool) (number : ℕ) → number ≡ cond test number number
either_way true number = refl
either_way false number = refl

-- ---- the bytes after the first

abbrev rest_refusals : ℕ → List ℕ → List (Bool × ℕ)
rest_refusals value text = (not (all_digits text), bad_setting) ∷ (too_large (said_by value text), bad_setting) ∷ []

abbrev RestAnswer : ℕ → ℕ → List ℕ → Type 0
RestAnswer place value text = answer_of (read_rest place value text) ≡ first_refusal (rest_refusals value text)

rest_answer : (text : List ℕ) (place value : ℕ) → 0 < value → value ≤ 4294967295 → RestAnswer (suc place) value text
unfolding read_rest next_number spoils all_digits said_by first_refusal
rest_answer [] place value some small = rw (le-ltb 4294967295 value small)
rest_answer (byte ∷ rest) place value some small =
    go (rest_answer rest (suc place) (with_digit value byte)) (no_digit byte) refl (too_large (with_digit value byte)) refl
  where
    go : (0 < with_digit value byte → with_digit value byte ≤ 4294967295 → RestAnswer (suc (suc place)) (with_digit value byte) rest)
        → (other : Bool) → no_digit byte ≡ other → (large : Bool) → too_large (with_digit value byte) ≡ large
        → RestAnswer (suc place) value (byte ∷ rest)
    go goes_on true e large l = rw e
    go goes_on false e true l =
        let over : 4294967295 < with_digit value byte = ltb-true 4294967295 (with_digit value byte) l in
        let more : 4294967295 < said_by (with_digit value byte) rest = omega (arith, grows (with_digit value byte) rest) in
        rw (e, later-fine (suc place) value (omega arith) some, l, lt-ltb 4294967295 (said_by (with_digit value byte) rest) more)
        (either_way (not (all_digits rest)) bad_setting)
    go goes_on false e false l =
        rw (e, later-fine (suc place) value (omega arith) some, l)
        (goes_on (omega arith) (ltb-false 4294967295 (with_digit value byte) l))

-- ---- the whole text

-- the rules that a text with a byte and at most ten may break
abbrev later_refusals : List ℕ → List (Bool × ℕ)
later_refusals text =
    (not (all_digits text), bad_setting) ∷ (has_leading_zero text, bad_setting) ∷ (too_large (said_by 0 text), bad_setting) ∷ []

abbrev Answered : List ℕ → Type 0
Answered text = answer_of (read_rest 0 0 text) ≡ first_refusal (later_refusals text)

no_digit-first : (byte : ℕ) (rest : List ℕ) → no_digit byte ≡ true → Answered (byte ∷ rest)
unfolding read_rest next_number spoils all_digits first_refusal
no_digit-first byte rest e = rw e

module _ (byte : ℕ) (digit : no_digit byte ≡ false) where
  range : (48 ≤ byte) × (byte ≤ 57)
  range =
      let parts = or_parts (ltb byte 48) (ltb 57 byte) digit in
      (ltb-false byte 48 parts.0, ltb-false 57 byte parts.1)

  small : too_large (with_digit 0 byte) ≡ false
  small = le-ltb 4294967295 (with_digit 0 byte) (omega (arith, range.1))

  alone : Answered (byte ∷ [])
  unfolding read_rest next_number spoils follows_zero all_digits said_by first_refusal
  alone = rw (digit, small, and-false (eqb byte 48))

  zero_first : (next : ℕ) (rest : List ℕ) → eqb byte 48 ≡ true → Answered (byte ∷ next ∷ rest)
  unfolding read_rest next_number spoils follows_zero all_digits said_by first_refusal
  zero_first next rest e =
      let nothing : with_digit 0 byte ≡ 0 = omega (arith, eqb-true byte 48 e) in
      let several = lt-ltb 1 (length (byte ∷ next ∷ rest)) (omega arith) in
      rw (digit, small, e, eq-eqb (with_digit 0 byte) 0 nothing, or-true (no_digit next), several)
      (either_way (not (not (no_digit next) && all_digits rest)) bad_setting)

  other_first : (rest : List ℕ) → eqb byte 48 ≡ false → Answered (byte ∷ rest)
  unfolding read_rest next_number spoils follows_zero all_digits said_by first_refusal
  other_first rest e =
      let some : 0 < with_digit 0 byte = omega (arith, range.0, eqb-false byte 48 e) in
      rw (digit, small, e) (rest_answer rest 0 (with_digit 0 byte) some (omega (arith, range.1)))

first_digit : (byte : ℕ) (rest : List ℕ) (zero : Bool) → eqb byte 48 ≡ zero → no_digit byte ≡ false → Answered (byte ∷ rest)
first_digit byte [] zero e digit = alone byte digit
first_digit byte (next ∷ rest) true e digit = zero_first byte digit next rest e
first_digit byte (next ∷ rest) false e digit = other_first byte digit (next ∷ rest) e

first_byte : (byte : ℕ) (rest : List ℕ) (other : Bool) → no_digit byte ≡ other → Answered (byte ∷ rest)
first_byte byte rest true e = no_digit-first byte rest e
first_byte byte rest false e = first_digit byte rest (eqb byte 48) refl e

too_long : (text : List ℕ) (number : Number) → read_number text ≡ number → 10 < length text → answer_of number ≡ bad_setting
too_long text (Ok value) e long = let few = accepted-length text value e in absurd (omega (arith, few.1))
too_long text (Err bad) e long = refl

text_answer : (text : List ℕ) → answer_of (read_number text) ≡ first_refusal (text_refusals text)
unfolding read_number first_refusal
text_answer [] = refl
text_answer (byte ∷ rest) = go (ltb 10 (length (byte ∷ rest))) refl
  where
    go : (long : Bool) → ltb 10 (length (byte ∷ rest)) ≡ long
        → answer_of (read_number (byte ∷ rest)) ≡ first_refusal (text_refusals (byte ∷ rest))
    go true e =
        rw (ne_eqb (length (byte ∷ rest)) 0 (λ z. omega arith), e)
        (too_long (byte ∷ rest) (read_number (byte ∷ rest)) refl (ltb-true 10 (length (byte ∷ rest)) e))
    go false e = rw (ne_eqb (length (byte ∷ rest)) 0 (λ z. omega arith), e) (first_byte byte rest (no_digit byte) refl)

-- What a text is answered, by its number and whole.
pub answered : (text : List ℕ) {number : Number} → number ≡ read_number text
    → (answer_of number ≡ first_refusal (text_refusals text)) × (number ≡ read_number text)
answered text e = (ap answer_of e ∙ text_answer text, e)
