-- Text in a buffer, and numbers as text: unsigned decimals in ASCII, with the fewest digits (01, "The listing").
use Rattle.std.specs.Prelude.{ℕ, zero, suc, ◌+◌, ◌/◌, ◌%◌, ◌≡◌, cond, List, [], ◌∷◌, ◌++◌, ltb, length}
use Rattle.copying.specs.Copying.{overwrite}

-- The last `count` decimal digits of a number, the most significant first.
unfoldable pub digits : ℕ → ℕ → List ℕ
digits zero value = []
digits (suc count) value = digits count (value / 10) ++ ((48 + value % 10) ∷ [])

-- How many digits a 32-bit number takes: as few as hold it, and one for 0.
unfoldable pub digit_count : ℕ → ℕ
digit_count value =
    cond (ltb value 10) 1
    (cond (ltb value 100) 2
    (cond (ltb value 1000) 3
    (cond (ltb value 10000) 4
    (cond (ltb value 100000) 5
    (cond (ltb value 1000000) 6
    (cond (ltb value 10000000) 7
    (cond (ltb value 100000000) 8
    (cond (ltb value 1000000000) 9 10))))))))

-- A number in decimal, with no zeros in front.
abbrev pub decimal : ℕ → List ℕ
decimal value = digits (digit_count value) value

-- A text was put into a buffer from `at` on and ends at `end`. No other byte changed.
pub record Written (before : List ℕ) (at : ℕ) (text after : List ℕ) (end : ℕ) : Type 0 where
  pub ends : end ≡ at + length text
  pub holds : after ≡ overwrite before at text
