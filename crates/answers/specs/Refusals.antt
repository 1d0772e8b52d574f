-- An order of refusals is a table: tests, each with the number that it answers.
use Rattle.std.specs.Prelude.{ℕ, Bool, cond, List, [], ◌∷◌}
use Rattle.answers.specs.Answers.{done}

-- The number of the first test that holds, and 0 where none does.
unfoldable pub first_refusal : List (Bool × ℕ) → ℕ
first_refusal [] = done
first_refusal ((test, number) ∷ rest) = cond test number (first_refusal rest)
