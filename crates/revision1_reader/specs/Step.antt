-- The step of a revision 1 reader (02, E1): 1, 10, 11 as the driver's; then one record is taken, r advances modulo R, and the record's
-- 8 bytes are handed back. The reader has no state of its own.
use Rattle.std.specs.Prelude.{ℕ, Bool, not, cond, List, ◌∷◌, Result, Ok, Err, length}
use Rattle.answers.specs.Answers.{done, invalid}
use Rattle.answers.specs.declared.Refusal.{Refusal}
use Rattle.answers.specs.Refusal.{number_of}
use Rattle.answers.specs.Refusals.{first_refusal}
use Rattle.geometry.specs.declared.Geometry.{Geometry}
use Rattle.geometry.specs.Geometry.{ring_of}
use Rattle.records.specs.declared.Event.{Event}
use Rattle.records.specs.Ring.{read_pointer, write_pointer, with_read_pointer, next_index}
use Rattle.reading.specs.Oldest.{Oldest}
use Rattle.reading.specs.Oldest as oldest
use Rattle.reading.specs.Reading.{is_valid_area, reading_refusals}
use Rattle.reading.specs.Oldest.{oldest_of}
use Rattle.revision1_reader.specs.declared.Taken.{Taken}

-- A record's 8 bytes: flags, revision and data (001).
abbrev pub taken_as : Event → Taken
taken_as event = record { answer = done; flags = event.kind; revision = event.code; «data» = event.value }

-- Zeros where none was taken.
abbrev pub refused_with : ℕ → Taken
refused_with answer = record { answer = answer; flags = 0; revision = 0; «data» = 0 }

-- What the code hands back, as the bytes of a record with a number.
abbrev pub taken_of : Result Event Refusal → Taken
taken_of (Ok event) = taken_as event
taken_of (Err refusal) = refused_with (number_of refusal)

-- The order of refusals: 1, 10, 11.
abbrev pub take_refusals : Geometry → List ℕ → List (Bool × ℕ)
take_refusals geometry area =
    (not (is_valid_area geometry (length area)), invalid)
    ∷ reading_refusals (ring_of geometry) (read_pointer area) (write_pointer area)

abbrev pub take_answer : Geometry → List ℕ → ℕ
take_answer geometry area = first_refusal (take_refusals geometry area)

-- What a step leaves: what it hands back, and the event area.
pub record TakeResult : Type 0 where
  pub taken : Taken
  pub area : List ℕ

-- Where no record was read, the step ends with that answer and changes nothing.
abbrev pub take_on : Geometry → List ℕ → Oldest → TakeResult
take_on geometry area (oldest.Record index event) = record {
  taken = taken_as event;
  area = with_read_pointer area (next_index (ring_of geometry) index);
}
take_on geometry area (oldest.Refused number) = record { taken = refused_with number; area = area }

unfoldable pub take_of : Geometry → List ℕ → TakeResult
take_of geometry area =
    cond (is_valid_area geometry (length area))
    (take_on geometry area (oldest_of (ring_of geometry) area))
    (take_on geometry area (oldest.Refused invalid))
