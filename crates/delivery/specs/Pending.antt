-- What the reader hasn't received yet: what it will make of the unread records.
use Rattle.std.specs.Prelude.{List, map}
use Rattle.geometry.specs.declared.Geometry.{Geometry}
use Rattle.geometry.specs.Geometry.{ring_of}
use Rattle.records.specs.declared.Event.{Event}
use Rattle.assembly.specs.Transition.{receive}
use Rattle.assembly.specs.Collect.{Collector, collect}
use Rattle.revision1_reader.specs.Groups.{groups_ended, begun_after}
use Rattle.device.specs.declared.Revision.{Revision}
use Rattle.device.specs.declared.Revision.TheVariants.{One, Two}
use Rattle.pending.specs.Reader.{Reader, pending_for}
use Rattle.delivery.specs.World.{World}
use Rattle.delivery.specs.Log.{Item, group}
use Rattle.delivery.specs.Received.{told_by}

-- ---- the driver

-- What the driver gives for a record.
abbrev pub give : Geometry → Event → Collector → List Item
give geometry event collector = told_by (receive geometry event collector.driver).told (collect geometry event collector).packet

-- The driver, with the buffer of its packet, as a reader.
abbrev pub driver_reader : Geometry → Reader
driver_reader geometry = record { State = Collector; Item = Item; next = collect geometry; give = give geometry }

-- ---- the reader of revision 1

-- The groups that a record ends.
abbrev pub groups : Event → List Event → List Item
groups event begun = map group (groups_ended event begun)

-- What it has begun, the records since the last FENCE, stands for a state.
abbrev pub group_reader : Reader
group_reader = record { State = List Event; Item = Item; next = begun_after; give = groups }

-- ---- by the revision

abbrev pub pending_in : Revision → Geometry → World → List Event → List Item
pending_in One geometry world begun = pending_for group_reader (ring_of geometry) world.area begun
pending_in Two geometry world begun = pending_for (driver_reader geometry) (ring_of geometry) world.area world.collector
