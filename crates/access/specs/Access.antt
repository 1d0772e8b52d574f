-- Which accesses are refused (01, "Numbers a caller can get"): 1, 2, 4, and 3 for a write. 7 at switch-on comes after these.
use Rattle.std.specs.Prelude.{ℕ, ◌%◌, Bool, not, ◌&&◌, List, [], ◌∷◌, leb, eqb}
use Rattle.answers.specs.Answers.{invalid, bad_access, read_only, no_register}
use Rattle.answers.specs.Refusals.{first_refusal}
use Rattle.geometry.specs.declared.Geometry.{Geometry}
use Rattle.geometry.specs.Geometry.{bar_length}
use Rattle.device.specs.declared.Device.{Device}
use Rattle.device.specs.Call.{is_valid_call}
use Rattle.access.specs.Place.{place_of, is_read_only, is_nothing}

-- Accesses are 4 bytes wide, at a multiple of 4, within the BAR, and at a register; writes not at a read-only place.
abbrev pub access_refusals : Bool → Geometry → Bool → ℕ → ℕ → List (Bool × ℕ)
access_refusals valid geometry writes offset width =
    (not valid, invalid)
    ∷ (not (eqb width 4), bad_access)
    ∷ (not (eqb (offset % 4) 0), bad_access)
    ∷ (leb (bar_length geometry) offset, bad_access)
    ∷ (is_nothing (place_of geometry offset), no_register)
    ∷ (writes && is_read_only (place_of geometry offset), read_only)
    ∷ []

unfoldable pub access_answer : Geometry → Device → ℕ → ℕ → Bool → ℕ → ℕ → ℕ
access_answer geometry device area_size page_size writes offset width =
    first_refusal (access_refusals (is_valid_call geometry device area_size page_size) geometry writes offset width)
