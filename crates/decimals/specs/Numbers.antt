-- Numbers as text (01, "kbdif ring and nodes"): 1 to 10 digits, no sign, no leading zero but "0", at most 4294967295.
-- A text is read from its first byte on, up to the first byte that spoils it. An eleventh digit is among these: it makes the number too
-- large.
use Rattle.std.specs.Prelude.{ℕ, suc, ◌+◌, ◌-◌, ◌*◌, Bool, true, not, cond, ◌&&◌, ◌||◌, List, [], ◌∷◌, Result, Ok, Err}
use Rattle.std.specs.Prelude.{ltb, eqb, length, get_or}
use Rattle.answers.specs.Answers.{done, bad_setting}
use Rattle.decimals.specs.declared.BadText.{BadText}

-- What a text says: a number, or nothing, with the place of the first byte that spoils the text.
abbrev pub Number : Type 0
Number = Result ℕ BadText

-- A text that is spoiled at a place.
abbrev pub bad_at : ℕ → Number
bad_at place = Err (record { place = place })

-- The number with one more digit.
abbrev pub with_digit : ℕ → ℕ → ℕ
with_digit value byte = value * 10 + (byte - 48)

-- A byte below "0" or above "9".
abbrev pub no_digit : ℕ → Bool
no_digit byte = ltb byte 48 || ltb 57 byte

-- A byte after a leading zero: there are digits before it, and they say 0.
unfoldable pub follows_zero : ℕ → ℕ → Bool
follows_zero place value = not (eqb place 0) && eqb value 0

abbrev pub too_large : ℕ → Bool
too_large value = ltb 4294967295 value

-- What spoils a text at a place, where the bytes before it are digits and say a number.
unfoldable pub spoils : ℕ → ℕ → ℕ → Bool
spoils place value byte = no_digit byte || (follows_zero place value || too_large (with_digit value byte))

-- What the text says up to a byte, which stands at a place.
unfoldable pub next_number : ℕ → ℕ → ℕ → Number
next_number place value byte = cond (spoils place value byte) (bad_at place) (Ok (with_digit value byte))

-- A text that is spoiled stays so.
abbrev pub unless_bad : Number → (ℕ → Number) → Number
unless_bad (Ok value) go_on = go_on value
unless_bad (Err bad) go_on = Err bad

-- What the text says, where its bytes before a place say a number and the rest is still to be read.
unfoldable pub read_rest : ℕ → ℕ → List ℕ → Number
read_rest place value [] = Ok value
read_rest place value (byte ∷ rest) = unless_bad (next_number place value byte) (λ next. read_rest (suc place) next rest)

-- The number that a text says, or the place of the first byte that spoils it. An empty text is bad at its length.
unfoldable pub read_number : List ℕ → Number
read_number [] = bad_at 0
read_number (byte ∷ rest) = read_rest 0 0 (byte ∷ rest)

-- 01's number of each: a text that says a number is 0, a bad one 12.
abbrev pub answer_of : Number → ℕ
answer_of (Ok value) = done
answer_of (Err bad) = bad_setting

-- ---- which texts are bad

unfoldable pub all_digits : List ℕ → Bool
all_digits [] = true
all_digits (byte ∷ rest) = not (no_digit byte) && all_digits rest

-- What digits say, behind digits that say a number.
unfoldable pub said_by : ℕ → List ℕ → ℕ
said_by value [] = value
said_by value (byte ∷ rest) = said_by (with_digit value byte) rest

-- "0" has none.
abbrev pub has_leading_zero : List ℕ → Bool
has_leading_zero text = eqb (get_or text 0 0) 48 && ltb 1 (length text)

-- 1 to 10 digits, no sign, no leading zero but "0", at most 4294967295: all else is 12.
abbrev pub text_refusals : List ℕ → List (Bool × ℕ)
text_refusals text =
    (eqb (length text) 0, bad_setting)
    ∷ (ltb 10 (length text), bad_setting)
    ∷ (not (all_digits text), bad_setting)
    ∷ (has_leading_zero text, bad_setting)
    ∷ (too_large (said_by 0 text), bad_setting)
    ∷ []
