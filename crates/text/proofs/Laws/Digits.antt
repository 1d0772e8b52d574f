-- Laws of numbers in decimal: how long their text is, and that as many digits as it takes are the number.
use Prim.Native.Nat.{ℕ, zero, suc, ◌+◌, ◌/◌, ◌%◌, ◌≤◌}
use mathlib.Core.Path.{◌≡◌, refl, ap, ◌∙◌}
use mathlib.Core.Bool.{Bool, true, false, cond}
use mathlib.Core.List.{List, [], ◌∷◌}
use native.Mathlib.Omega.{arith}
use native.Mathlib.Numerals.{add-one}
use lib.Dec.{ltb}
use lib.ListN.{length, length-append}
use Rattle.copying.specs.Copying.{overwrite}
use Rattle.text.specs.Text.{digits, digit_count, decimal}

pub digits-length : (count value : ℕ) → length (digits count value) ≡ count
unfolding digits
digits-length zero value = refl
digits-length (suc count) value =
    length-append (digits count (value / 10)) ((48 + value % 10) ∷ [])
    ∙ ap (λ (n : ℕ). n + 1) (digits-length count (value / 10))
    ∙ add-one count

at_most_ten : (test : Bool) (few more : ℕ) → few ≤ 10 → more ≤ 10 → cond test few more ≤ 10
at_most_ten true few more h k = h
at_most_ten false few more h k = k

digit_count_bound : (value : ℕ) → digit_count value ≤ 10
unfolding digit_count
digit_count_bound value =
    at_most_ten (ltb value 10) 1 _ (omega arith)
    (at_most_ten (ltb value 100) 2 _ (omega arith)
    (at_most_ten (ltb value 1000) 3 _ (omega arith)
    (at_most_ten (ltb value 10000) 4 _ (omega arith)
    (at_most_ten (ltb value 100000) 5 _ (omega arith)
    (at_most_ten (ltb value 1000000) 6 _ (omega arith)
    (at_most_ten (ltb value 10000000) 7 _ (omega arith)
    (at_most_ten (ltb value 100000000) 8 _ (omega arith)
    (at_most_ten (ltb value 1000000000) 9 10 (omega arith) (omega arith)))))))))

pub decimal-length : (value : ℕ) → length (decimal value) ≤ 10
decimal-length value = rw (digits-length (digit_count value) value) (digit_count_bound value)

-- as many digits as the number takes
pub decimal-written : (start : List ℕ) (at : ℕ) (bytes : List ℕ) (count value : ℕ)
    → count ≡ digit_count value → bytes ≡ overwrite start at (digits count value) → bytes ≡ overwrite start at (decimal value)
decimal-written start at bytes count value counted written = rw counted at written
