-- The events of the packet that a driver collects (01, "The driver's side"): 32 of 8 bytes, one after the other, in a buffer that is lent.
use Rattle.std.specs.Prelude.{ℕ, ◌*◌, cond, List, ltb}
use Rattle.copying.specs.Copying.{overwrite}
use Rattle.geometry.specs.declared.Geometry.{Geometry}
use Rattle.records.specs.declared.Event.{Event}
use Rattle.records.specs.Event.{most_events, event_bytes}
use Rattle.assembly.specs.declared.Driver.{Driver}
use Rattle.assembly.specs.Transition.{receive}

abbrev pub packet_length : ℕ
packet_length = most_events * 8

-- An event that joined the packet, so that one more is held, stands behind the others. No other byte changes.
unfoldable pub collected : Driver → Driver → Event → List ℕ → List ℕ
collected before after event packet =
    cond (ltb before.held after.held) (overwrite packet (before.held * 8) (event_bytes event)) packet

-- A driver with its buffer.
pub record Collector : Type 0 where
  pub driver : Driver
  pub packet : List ℕ

-- One record.
abbrev pub collect : Geometry → Event → Collector → Collector
collect geometry event collector = record {
  driver = (receive geometry event collector.driver).driver;
  packet = collected collector.driver (receive geometry event collector.driver).driver event collector.packet;
}
