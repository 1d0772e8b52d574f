-- A number in decimal, with one more digit; and that this is how the library prints a number.
use Prim.Native.Nat.{ℕ, suc, ◌+◌, ◌*◌, ◌/◌, ◌%◌, ◌^◌, ◌≤◌, ◌<◌}
use mathlib.Core.Path.{◌≡◌, refl, sym}
use mathlib.Core.Bool.{Bool, true, false, cond}
use mathlib.Core.List.{List, [], ◌∷◌, ◌++◌}
use native.Mathlib.Omega.{arith}
use native.Mathlib.Decide.{dec_lt}
use lib.Dec.{ltb}
use borrow.Author.Tests.{lt-ltb, le-ltb}
use Rattle.std.specs.Fmt.{decimal as printed_text}
use Rattle.std.proofs.lemmas.Fmt.{decimal_by_steps}
use Rattle.text.specs.Text.{digits, digit_count, decimal}

suc-cond : (test : Bool) (few more : ℕ) → suc (cond test few more) ≡ cond test (suc few) (suc more)
suc-cond true few more = refl
suc-cond false few more = refl

module _ (value digit : ℕ) (one : digit < 10) where
  -- a number is below a bound where it is below ten times the bound with one more digit
  bound_moves : (bound : ℕ) → ltb (value * 10 + digit) (bound * 10) ≡ ltb value bound
  bound_moves bound =
      elim (dec_lt value bound) [
        | yes below ↦ rw (lt-ltb value bound below, lt-ltb (value * 10 + digit) (bound * 10) (omega arith))
        | no above ↦ rw (le-ltb value bound (omega arith), le-ltb (value * 10 + digit) (bound * 10) (omega arith))
      ]

  module _ (some : 0 < value) (small : value * 10 + digit < 2 ^ 32) where
    digit_count_more : digit_count (value * 10 + digit) ≡ suc (digit_count value)
    unfolding digit_count
    digit_count_more =
        rw (
          le-ltb (value * 10 + digit) 10 (omega arith),
          bound_moves 10,
          bound_moves 100,
          bound_moves 1000,
          bound_moves 10000,
          bound_moves 100000,
          bound_moves 1000000,
          bound_moves 10000000,
          bound_moves 100000000,
          lt-ltb value 1000000000 (omega arith),
        ) (simp suc-cond)

    pub decimal_more : decimal (value * 10 + digit) ≡ decimal value ++ ((48 + digit) ∷ [])
    unfolding digits
    decimal_more =
        let front : (value * 10 + digit) / 10 ≡ value = omega arith in
        let last : (value * 10 + digit) % 10 ≡ digit = omega arith in
        rw (digit_count_more, front, last)

pub decimal_one : (digit : ℕ) → digit < 10 → decimal digit ≡ (48 + digit) ∷ []
unfolding digits digit_count
decimal_one digit one =
    let last : digit % 10 ≡ digit = omega arith in
    rw (lt-ltb digit 10 one, last)

one_more : (n : ℕ) (front : List ℕ) → 10 ≤ n → (n / 10 < 2 ^ 32 → front ≡ decimal (n / 10)) → n < 2 ^ 32
    → front ++ ((48 + n % 10) ∷ []) ≡ decimal n
one_more n front several before small =
    let parts : n / 10 * 10 + n % 10 ≡ n = omega arith in
    let small-parts : n / 10 * 10 + n % 10 < 2 ^ 32 = omega arith in
    rw (before (omega arith)) (sym (rw parts at (decimal_more (n / 10) (n % 10) (omega arith) (omega arith) small-parts)))

pub printed : (n : ℕ) → n < 2 ^ 32 → printed_text n ≡ decimal n
printed n small =
    decimal_by_steps (λ n text. n < 2 ^ 32 → text ≡ decimal n) (λ n one below. sym (decimal_one n one)) one_more n (omega arith) small
