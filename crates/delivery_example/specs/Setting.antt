-- What both runs speak of: the geometry, the devices in their slots, the world before any call, and packets as bytes.
use Rattle.std.specs.Prelude.{ℕ, List, [], ◌∷◌, ◌++◌, replicate}
use Rattle.words.specs.Words.{set_u32}
use Rattle.geometry.specs.declared.Geometry.{Geometry}
use Rattle.records.specs.declared.Event.{Event}
use Rattle.records.specs.Event.{event_bytes}
use Rattle.assembly.specs.Transition.{fresh_driver}
use Rattle.device.specs.State.{fresh_device}
use Rattle.delivery.specs.World.{World}

-- One page of records of 64 bytes: a ring of 63, so 62 records fit.
abbrev pub small : Geometry
small = record { pages = 1; record_size = 64; entry_size = 256 }

-- A mouse: SYN and REL are used.
abbrev pub mouse : List ℕ
mouse = set_u32 (replicate 256 0) 40 5

-- Nothing was called yet. The event area and the driver's buffer hold bytes of before.
abbrev pub unused : World
unused = record {
  device = fresh_device;
  area = replicate 4096 7;
  page = replicate 4096 0;
  collector = record { driver = fresh_driver; packet = replicate 256 7 };
}

-- An event of a type and code, with its value.
abbrev pub event : ℕ → ℕ → ℕ → Event
event kind code value = record { kind = kind; code = code; value = value }

-- A packet is lent as bytes.
abbrev pub bytes : List Event → List ℕ
bytes [] = []
bytes (first ∷ rest) = event_bytes first ++ bytes rest
