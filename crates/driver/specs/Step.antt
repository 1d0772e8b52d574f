-- A driver's step (01, "The driver's side"): 1, 10, 11; then one record is read, and r advances modulo R.
use Rattle.std.specs.Prelude.{ℕ, Bool, ◌&&◌, ◌||◌, cond, List, leb, eqb, length}
use Rattle.answers.specs.Answers.{invalid}
use Rattle.geometry.specs.declared.Geometry.{Geometry}
use Rattle.geometry.specs.Geometry.{ring_of}
use Rattle.records.specs.Ring.{with_read_pointer, next_index}
use Rattle.assembly.specs.declared.Driver.{Driver}
use Rattle.assembly.specs.Told.{Stepped}
use Rattle.assembly.specs.Told as told
use Rattle.reading.specs.Oldest.{Oldest}
use Rattle.reading.specs.Oldest as oldest
use Rattle.records.specs.Codes.{no_slot, unknown_slot}
use Rattle.records.specs.Event.{most_events}
use Rattle.assembly.specs.Kind.{is_slot}
use Rattle.assembly.specs.Transition.{tells, receive}
use Rattle.assembly.specs.Collect.{packet_length, collected}
use Rattle.reading.specs.Reading.{is_valid_area}
use Rattle.reading.specs.Oldest.{oldest_of}

-- At most 32 events are held, and the slot is none, unknown or in range.
unfoldable pub is_driver : Geometry → Driver → Bool
is_driver geometry driver =
    leb driver.held most_events
    && (eqb driver.slot no_slot || (eqb driver.slot unknown_slot || is_slot geometry driver.slot))

-- A step is refused with 1 for the geometry, a length that is lent or the driver's state.
unfoldable pub is_valid_step : Geometry → Driver → ℕ → ℕ → Bool
is_valid_step geometry driver area_size packet_size =
    is_valid_area geometry area_size && (eqb packet_size packet_length && is_driver geometry driver)

-- What a step leaves: what it tells with the driver's state, the event area, and the events that the driver holds.
pub record StepResult : Type 0 where
  pub stepped : Stepped
  pub area : List ℕ
  pub packet : List ℕ

-- Where no record was read, the step ends with that answer and changes nothing.
abbrev pub step_on : Geometry → Driver → List ℕ → List ℕ → Oldest → StepResult
step_on geometry driver area packet (oldest.Record index event) = record {
  stepped = receive geometry event driver;
  area = with_read_pointer area (next_index (ring_of geometry) index);
  packet = collected driver (receive geometry event driver).driver event packet;
}
step_on geometry driver area packet (oldest.Refused number) = record {
  stepped = tells (told.Refused number) driver;
  area = area;
  packet = packet;
}

unfoldable pub step_of : Geometry → Driver → List ℕ → List ℕ → StepResult
step_of geometry driver area packet =
    cond (is_valid_step geometry driver (length area) (length packet))
    (step_on geometry driver area packet (oldest_of (ring_of geometry) area))
    (step_on geometry driver area packet (oldest.Refused invalid))
