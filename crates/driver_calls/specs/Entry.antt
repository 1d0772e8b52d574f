-- An entry copied out. C has no part of a lent page to hand back, and a copy can't change while the caller reads it.
use Rattle.std.specs.Prelude.{ℕ, Bool, not, cond, List, ◌∷◌, eqb, length}
use Rattle.answers.specs.Answers.{done, invalid}
use Rattle.answers.specs.Refusals.{first_refusal}
use Rattle.geometry.specs.declared.Geometry.{Geometry}
use Rattle.entries.specs.Entry.{known_length, entry_at}
use Rattle.entries.specs.Lookup.{lookup_refusals}

-- The output must have the length of an entry's known bytes: 1 otherwise. Then as for a lookup.
abbrev pub entry_copy_refusals : Geometry → List ℕ → ℕ → List ℕ → List (Bool × ℕ)
entry_copy_refusals geometry page slot out = (not (eqb (length out) known_length), invalid) ∷ lookup_refusals geometry page slot

unfoldable pub entry_copy_answer : Geometry → List ℕ → ℕ → List ℕ → ℕ
entry_copy_answer geometry page slot out = first_refusal (entry_copy_refusals geometry page slot out)

-- A refusal leaves the output as it was.
unfoldable pub copied_entry : Geometry → List ℕ → ℕ → List ℕ → List ℕ
copied_entry geometry page slot out = cond (eqb (entry_copy_answer geometry page slot out) done) (entry_at geometry page slot) out
