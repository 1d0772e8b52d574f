-- What is pending for the reader, by the revision, and what records that are put add to it.
use Prim.Native.Nat.{ℕ, ◌<◌}
use mathlib.Core.Path.{◌≡◌}
use mathlib.Core.Bool.{true}
use mathlib.Core.List.{List, [], ◌++◌}
use lib.ListN.{length}
use Rattle.geometry.specs.declared.Geometry.{Geometry}
use Rattle.geometry.specs.Geometry.{ring_length, ring_of}
use Rattle.records.specs.declared.Event.{Event}
use Rattle.records.specs.Event.{AllFit}
use Rattle.records.specs.Ring.{Holds, read_pointer, has_room}
use Rattle.records.specs.Put.{put_records, index_after}
use Rattle.assembly.specs.Collect.{packet_length, Collector}
use Rattle.driver.specs.Step.{is_driver}
use Rattle.revision1_records.specs.declared.Position.{Position}
use Rattle.revision1_reader.proofs.Laws.Group.{PositionFits}
use Rattle.device.specs.declared.Device.{Device}
use Rattle.device.specs.declared.Revision.{Revision}
use Rattle.device.specs.declared.Revision.TheVariants.{One, Two}
use Rattle.pending.proofs.Laws.Pending.{Pending, pending_is, pending_put}
use Rattle.delivery.specs.World.{World}
use Rattle.delivery.specs.Log.{Item}
use Rattle.delivery.specs.Pending.{driver_reader, group_reader, pending_in}
use Rattle.delivery.proofs.Laws.Groups as groups
use Rattle.delivery.proofs.Laws.Holding.{Holding}
use Rattle.delivery.proofs.Laws.Runs.{Runs}

abbrev pub write_index : World → ℕ
write_index world = world.device.producer.write_index

abbrev pub current_slot : World → ℕ
current_slot world = world.device.producer.current_slot

-- Revision 2: the unread records will give the driver what is pending, and leave it at the device's current slot with nothing begun.
pub record Driving (geometry : Geometry) (world : World) (pending : List Item) : Type 0 where
  pub packet_size : length world.collector.packet ≡ packet_length
  pub is_driver_lem : is_driver geometry world.collector.driver ≡ true
  pub ahead : Pending (driver_reader geometry) (ring_of geometry) world.area (write_index world) world.collector pending
      (Holding (current_slot world) [])

-- Revision 1: the unread records end with a FENCE, so they leave no group begun. The position is of 16 bits.
pub record Taking (geometry : Geometry) (world : World) (begun : List Event) (pending : List Item) : Type 0 where
  pub position : PositionFits world.device.producer.position
  pub ahead : Pending group_reader (ring_of geometry) world.area (write_index world) begun pending (groups.Begun [])

abbrev pub Reads : Revision → Geometry → World → List Event → List Item → Type 0
Reads One geometry world begun pending = Taking geometry world begun pending
Reads Two geometry world begun pending = Driving geometry world pending

-- The position that packets complete.
abbrev pub PositionIn : Revision → Position → Type 0
PositionIn One position = PositionFits position
PositionIn Two position = Unit {0}

-- ---- what follows in both revisions

module _ (geometry : Geometry) (world : World) (begun : List Event) (pending : List Item) where
  pub reads_inside : (revision : Revision) → Reads revision geometry world begun pending → read_pointer world.area < ring_length geometry
  reads_inside One h = h.ahead.read_inside
  reads_inside Two h = h.ahead.read_inside

  pub reads_pending : (revision : Revision) → Reads revision geometry world begun pending
      → pending_in revision geometry world begun ≡ pending
  reads_pending One h = pending_is group_reader h.ahead
  reads_pending Two h = pending_is (driver_reader geometry) h.ahead

  pub reads_position : (revision : Revision) → Reads revision geometry world begun pending
      → PositionIn revision world.device.producer.position
  reads_position One h = h.position
  reads_position Two h = tt

-- ---- records that are put

-- These records fit, give these items, and leave the driver at another slot with nothing begun.
pub record DriverPuts (geometry : Geometry) (current : ℕ) (records : List Event) (more : List Item) (slot : ℕ) : Type 0 where
  pub fits : AllFit records
  pub runs : (collector : Collector) → Holding current [] collector → Runs geometry collector records more slot []

-- These records fit, give these items, and leave no group begun. The position that they leave is of 16 bits.
pub record GroupPuts (records : List Event) (more : List Item) (position : Position) : Type 0 where
  pub fits : AllFit records
  pub position_fits : PositionFits position
  pub runs : (begun : List Event) → groups.Begun [] begun → groups.Runs begun records more []

abbrev pub Puts : Revision → Geometry → ℕ → List Event → List Item → ℕ → Position → Type 0
Puts One geometry current records more slot position = GroupPuts records more position
Puts Two geometry current records more slot position = DriverPuts geometry current records more slot

-- A world after a call of the device.
abbrev pub left_by : World → Device → List ℕ → List ℕ → World
left_by world device area page = record { device = device; area = area; page = page; collector = world.collector }

-- What a put leaves of a world.
abbrev pub put_in : Geometry → World → List Event → Device → List ℕ → World
put_in geometry world records device page =
    left_by world device (put_records (ring_of geometry) (write_index world) records world.area) page

module _ (geometry : Geometry) (world : World) (begun : List Event) (pending : List Item) where
  pub reads-put : (revision : Revision) → Reads revision geometry world begun pending → Holds (length world.area) (ring_of geometry)
      → (records : List Event) (more : List Item) (device : Device) (page : List ℕ)
      → has_room (ring_of geometry) (read_pointer world.area) (write_index world) (length records) ≡ true
      → Puts revision geometry (current_slot world) records more device.producer.current_slot device.producer.position
      → device.producer.write_index ≡ index_after (ring_of geometry) (write_index world) records
      → Reads revision geometry (put_in geometry world records device page) begun (pending ++ more)
  reads-put One h holds records more device page room puts index = record {
    position = puts.position_fits;
    ahead = rw index (pending_put group_reader h.ahead records more holds puts.fits room puts.runs);
  }
  reads-put Two h holds records more device page room puts index = record {
    packet_size = h.packet_size;
    is_driver_lem = h.is_driver_lem;
    ahead = rw index (pending_put (driver_reader geometry) h.ahead records more holds puts.fits room puts.runs);
  }

-- ---- the device's state changes, but not its end of the ring

pub reads_state : (revision : Revision) (geometry : Geometry) (world : World) (begun : List Event) (pending : List Item) (device : Device)
    → Reads revision geometry world begun pending → device.producer.write_index ≡ write_index world
    → device.producer.current_slot ≡ current_slot world → device.producer.position ≡ world.device.producer.position
    → Reads revision geometry (left_by world device world.area world.page) begun pending
reads_state One geometry world begun pending device h index current position = record {
  position = rw position h.position;
  ahead = rw index h.ahead;
}
reads_state Two geometry world begun pending device h index current position = record {
  packet_size = h.packet_size;
  is_driver_lem = h.is_driver_lem;
  ahead = rw (index, current) h.ahead;
}
