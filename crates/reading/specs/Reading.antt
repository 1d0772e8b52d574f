-- What a step and a copy-out are lent, and when they are refused (01, "The driver's side").
use Rattle.std.specs.Prelude.{ℕ, Bool, ◌&&◌, List, [], ◌∷◌, leb, eqb}
use Rattle.answers.specs.Answers.{bad_index, nothing_to_read}
use Rattle.answers.specs.Refusals.{first_refusal}
use Rattle.geometry.specs.declared.Geometry.{Geometry}
use Rattle.geometry.specs.declared.Ring.{Ring}
use Rattle.geometry.specs.Geometry.{allowed, area_length}

-- The geometry is allowed and the event area has its length; 1 otherwise.
unfoldable pub is_valid_area : Geometry → ℕ → Bool
is_valid_area geometry size = allowed geometry && eqb size (area_length geometry)

-- r or w at or above R is 10; r = w is 11.
abbrev pub reading_refusals : Ring → ℕ → ℕ → List (Bool × ℕ)
reading_refusals ring read write =
    (leb ring.length read, bad_index)
    ∷ (leb ring.length write, bad_index)
    ∷ (eqb read write, nothing_to_read)
    ∷ []

unfoldable pub reading_refusal : Ring → ℕ → ℕ → ℕ
reading_refusal ring read write = first_refusal (reading_refusals ring read write)
