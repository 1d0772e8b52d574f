-- The number that a step answers (01, "Numbers a caller can get"): 1, 10, 11 where no record was read, and 9 for one that was.
use Rattle.std.specs.Prelude.{ℕ, Bool, true, false, not, ◌&&◌, ◌||◌, List, [], ◌∷◌, ◌++◌, length}
use Rattle.answers.specs.Answers.{invalid, malformed}
use Rattle.answers.specs.Refusals.{first_refusal}
use Rattle.geometry.specs.declared.Geometry.{Geometry}
use Rattle.geometry.specs.Geometry.{ring_of}
use Rattle.records.specs.Ring.{read_pointer, write_pointer}
use Rattle.records.specs.Unread.{record_at}
use Rattle.reading.specs.Reading.{reading_refusals}
use Rattle.assembly.specs.declared.Driver.{Driver}
use Rattle.assembly.specs.declared.Kind.{Kind}
use Rattle.assembly.specs.declared.Kind.TheVariants.{SynReport, SynDropped, DevSet, DevConf}
use Rattle.assembly.specs.declared.Kind.TheVariants.{DevReset, DevResetAll, BadDevSet, BadDev, Other}
use Rattle.assembly.specs.Kind.{kind_of}
use Rattle.driver.specs.Step.{is_valid_step}

-- A DEV record with a wrong value or code, and a report that ends a packet which was spoiled or had over 32 events.
abbrev pub is_malformed : Kind → Driver → Bool
is_malformed SynReport driver = not driver.ignoring && (driver.spoiled || driver.overlong)
is_malformed SynDropped driver = false
is_malformed DevSet driver = false
is_malformed DevConf driver = false
is_malformed DevReset driver = false
is_malformed DevResetAll driver = false
is_malformed BadDevSet driver = true
is_malformed BadDev driver = true
is_malformed Other driver = false

-- The order of refusals: 1, 10, 11, then 9.
abbrev pub step_refusals : Geometry → Driver → List ℕ → List ℕ → List (Bool × ℕ)
step_refusals geometry driver area packet =
    (not (is_valid_step geometry driver (length area) (length packet)), invalid)
    ∷ (reading_refusals (ring_of geometry) (read_pointer area) (write_pointer area)
    ++ ((is_malformed (kind_of geometry (record_at (ring_of geometry) area (read_pointer area))) driver, malformed) ∷ []))

abbrev pub step_answer : Geometry → Driver → List ℕ → List ℕ → ℕ
step_answer geometry driver area packet = first_refusal (step_refusals geometry driver area packet)
