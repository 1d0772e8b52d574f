-- The reader is right both ways: the texts that it accepts are the decimals of the numbers below 2^32, each with its number.
use Prim.Native.Nat.{ℕ, zero, suc, ◌+◌, ◌-◌, ◌*◌, ◌/◌, ◌%◌, ◌^◌, ◌≤◌, ◌<◌}
use mathlib.Core.Path.{◌≡◌, refl, sym, ap, ◌∙◌}
use mathlib.Core.Logic.{◌↔◌}
use mathlib.Core.List.{List, [], ◌∷◌, ◌++◌, append_assoc, append-nil}
use native.Mathlib.Omega.{arith}
use native.Mathlib.Decide.{dec_lt}
use native.Mathlib.Nat.{add-zero}
use lib.ListN.{length, length-append}
use Rattle.text.specs.Text.{decimal}
use Rattle.text.proofs.Laws.Digits.{decimal-length}
use Rattle.std.specs.Prelude.{Ok, Err}
use Rattle.decimals.specs.Numbers.{Number, next_number, unless_bad, read_rest, read_number}
use Rattle.text.proofs.Laws.Decimal.{decimal_one, decimal_more}
use Rattle.decimals.proofs.Laws.Step.{Digit, is_digit, some_before, digit_accepted, first_fine, later-fine}
use Rattle.decimals.proofs.Laws.Reading.{reading_begins}

-- where the rest was read, one byte more was
went_on : (number : Number) (go_on : ℕ → Number) (value : ℕ) → unless_bad number go_on ≡ Ok value
    → (next : ℕ) × (number ≡ Ok next) × (go_on next ≡ Ok value)
went_on (Ok next) go_on value h = (next, refl, h)
went_on (Err bad) go_on value h = absurd cc

-- ---- what is accepted is a number in decimal

module _ {value byte next : ℕ} (digit : Digit value byte next) where
  byte_text : 48 + (byte - 48) ≡ byte
  byte_text = omega arith

  more_text : 0 < value → decimal next ≡ decimal value ++ (byte ∷ [])
  more_text some =
      let more : next ≡ value * 10 + (byte - 48) = digit.more in
      rw more (decimal_more value (byte - 48) (omega arith) some (omega arith) ∙ rw byte_text)

  first_text : value ≡ 0 → decimal next ≡ byte ∷ []
  first_text none =
      let same : next ≡ byte - 48 = omega (arith, digit.more) in
      rw same (decimal_one (byte - 48) (omega arith) ∙ rw byte_text)

rest_accepted : (text : List ℕ) (place value n : ℕ) → value < 2 ^ 32 → read_rest (suc place) value text ≡ Ok n
    → (n < 2 ^ 32) × (decimal value ++ text ≡ decimal n)
unfolding read_rest
rest_accepted [] place value n small h = let same : value ≡ n = cc in (omega arith, append-nil (decimal value) ∙ ap decimal same)
rest_accepted (byte ∷ rest) place value n small h =
    let more = went_on (next_number (suc place) value byte) _ n h in
    let next : ℕ = more.0 in
    let digit : Digit value byte next = is_digit (suc place) value byte next more.1 in
    let some : 0 < value = some_before place value byte next more.1 in
    let tail = rest_accepted rest (suc place) next n digit.small more.2 in
    (tail.0, sym (append_assoc (decimal value) (byte ∷ []) rest) ∙ rw (more_text digit some) at tail.1)

accepted : (text : List ℕ) (n : ℕ) → read_number text ≡ Ok n → (n < 2 ^ 32) × (text ≡ decimal n)
unfolding read_number read_rest
accepted [] n h = absurd cc
accepted (byte ∷ rest) n h =
    let more = went_on (next_number 0 0 byte) _ n h in
    let next : ℕ = more.0 in
    let digit : Digit 0 byte next = is_digit 0 0 byte next more.1 in
    let tail = rest_accepted rest 0 next n digit.small more.2 in
    (tail.0, rw (first_text digit refl) at tail.1)

-- ---- a number in decimal is accepted

read_more : (text : List ℕ) (place value n byte next : ℕ) → read_rest place value text ≡ Ok n
    → next_number (place + length text) n byte ≡ Ok next
    → read_rest place value (text ++ (byte ∷ [])) ≡ Ok next
unfolding read_rest
read_more [] place value n byte next h said = let same : value ≡ n = cc in rw (same, ← add-zero place, said)
read_more (first ∷ rest) place value n byte next h said =
    let more = went_on (next_number place value first) _ n h in
    let place-moves : suc place + length rest ≡ place + length (first ∷ rest) = omega arith in
    rw more.1 (read_more rest (suc place) more.0 n byte next more.2 (rw place-moves said))

-- the text isn't empty, and its digits are read
Reads : ℕ → Type 0
Reads n = (0 < length (decimal n)) × (read_rest 0 0 (decimal n) ≡ Ok n)

one_digit : (n : ℕ) → n < 10 → Reads n
unfolding Reads read_rest
one_digit n one =
    let said : next_number 0 0 (48 + n) ≡ Ok (0 * 10 + n) = digit_accepted 0 0 n one (omega arith) (first_fine 0) in
    let same : 0 * 10 + n ≡ n = omega arith in
    rw (decimal_one n one) (omega arith, rw (said, same))

more_digits : (value digit : ℕ) → digit < 10 → 0 < value → value * 10 + digit < 2 ^ 32 → Reads value → Reads (value * 10 + digit)
unfolding Reads
more_digits value digit one some small (long, read) =
    rw (decimal_more value digit one some small) (
      omega (arith, length-append (decimal value) ((48 + digit) ∷ [])),
      read_more (decimal value) 0 0 value (48 + digit) (value * 10 + digit) read
          (digit_accepted (0 + length (decimal value)) value digit one small
          (later-fine (0 + length (decimal value)) value (omega arith) some)),
    )

-- by the number of times that ten can be taken out
decimal-reads : (bound n : ℕ) → n ≤ bound → n < 2 ^ 32 → Reads n
decimal-reads zero n h small = one_digit n (omega arith)
decimal-reads (suc bound) n h small =
    elim (dec_lt n 10) [
      | yes one ↦ one_digit n one
      | no several ↦
          let parts : n / 10 * 10 + n % 10 ≡ n = omega arith in
          rw parts at (more_digits (n / 10) (n % 10) (omega arith) (omega arith) (omega arith)
          (decimal-reads bound (n / 10) (omega arith) (omega arith)))
    ]

-- Exactly the decimals of 0 to 4294967295 are accepted, and each says its number.
pub read_exactly : (text : List ℕ) (n : ℕ) → (read_number text ≡ Ok n) ↔ ((n < 2 ^ 32) × (text ≡ decimal n))
unfolding Reads
read_exactly text n = (
  accepted text n,
  λ right.
      let reads = decimal-reads n n (omega arith) right.0 in
      rw right.1 (sym (reading_begins (decimal n) (omega (arith, reads.0))) ∙ reads.1),
)

-- what was written is read back
pub read_back : (n : ℕ) → n < 2 ^ 32 → read_number (decimal n) ≡ Ok n
read_back n small = (read_exactly (decimal n) n).1 (small, refl)

pub accepted-length : (text : List ℕ) (n : ℕ) → read_number text ≡ Ok n → (1 ≤ length text) × (length text ≤ 10)
unfolding Reads
accepted-length text n said =
    let right = (read_exactly text n).0 said in
    rw right.1 ((decimal-reads n n (omega arith) right.0).0, decimal-length n)
