-- What an add and a remove share: whether a record is put, and what such a call leaves.
use Rattle.std.specs.Prelude.{ℕ, Bool, ◌&&◌, cond, List, eqb}
use Rattle.answers.specs.Answers.{done}
use Rattle.geometry.specs.declared.Geometry.{Geometry}
use Rattle.geometry.specs.Geometry.{ring_of}
use Rattle.records.specs.declared.Event.{Event}
use Rattle.records.specs.Put.{put_records, index_after}
use Rattle.device.specs.declared.Registers.{Registers}
use Rattle.device.specs.declared.Device.{Device}
use Rattle.device.specs.Result.{Outcome}
use Rattle.device.specs.Revision.{is_revision2}
use Rattle.device.specs.Setters.{with_write_index}
use Rattle.device.specs.Result.{outcome_of}

-- While on in revision 2 the call puts one record, and else none (01; 02, E1).
abbrev pub tells : Registers → Bool
tells registers = registers.on && is_revision2 registers

-- The state after these records are put.
abbrev pub after_records : Geometry → List Event → Device → Device
after_records geometry records device = with_write_index (index_after (ring_of geometry) device.producer.write_index records) device

-- The event area after these records are put.
abbrev pub area_after : Geometry → Device → List Event → List ℕ → List ℕ
area_after geometry device records area = put_records (ring_of geometry) device.producer.write_index records area

-- What a call leaves: its answer with the state, the event area, the entry page.
pub record HotplugResult : Type 0 where
  pub outcome : Outcome
  pub area : List ℕ
  pub page : List ℕ

-- A refusal changes no state and no byte.
abbrev pub unless_refused : ℕ → Device → List ℕ → List ℕ → HotplugResult → HotplugResult
unless_refused answer device area page accepted =
    cond (eqb answer done) accepted (record { outcome = outcome_of answer device; area = area; page = page })
