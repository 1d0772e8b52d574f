-- What becomes of a packet by the revision that the device serves (01, "Writing records"; 02, E1): whether it has a form, its records,
-- and what it leaves of the device's end of the ring.
use Rattle.std.specs.Prelude.{ℕ, Bool, true, false, List}
use Rattle.records.specs.declared.Event.{Event}
use Rattle.packet_records.specs.Packet.{records_for}
use Rattle.revision1_records.specs.declared.Position.{Position}
use Rattle.revision1_gestures.specs.Gesture.{gesture_of}
use Rattle.revision1_gestures.specs.Form.{has_form}
use Rattle.revision1_records.specs.Records.{position_after, group_of}
use Rattle.device.specs.declared.Device.{Device}
use Rattle.device.specs.declared.Revision.{Revision}
use Rattle.device.specs.declared.Revision.TheVariants.{One, Two}

-- In revision 2 every event that an entry offers can be told.
abbrev pub is_formed : Revision → ℕ → List Event → Bool
is_formed One acceleration events = has_form acceleration (gesture_of events)
is_formed Two acceleration events = true

-- The lost mark is shown, and the slot named, in revision 2 alone.
abbrev pub records_in : Revision → Device → ℕ → List Event → List Event
records_in One device slot events = group_of device.registers.acceleration device.producer.position events
records_in Two device slot events = records_for device.producer.lost device.producer.current_slot slot events

-- The lost mark is cleared where it was shown.
abbrev pub lost_after : Revision → Bool → Bool
lost_after One lost = lost
lost_after Two lost = false

-- The slot is current where it was named.
abbrev pub current_after : Revision → ℕ → ℕ → ℕ
current_after One current slot = current
current_after Two current slot = slot

-- The position is kept for the next packet that misses an axis.
abbrev pub position_in : Revision → Position → List Event → Position
position_in One last events = position_after last (gesture_of events)
position_in Two last events = last
