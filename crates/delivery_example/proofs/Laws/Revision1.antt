-- The theorem of delivery applied to the run in revision 1: its premises are computed, but that the calls belong, which mostly holds in any
-- world.
use mathlib.Core.Path.{refl}
use mathlib.Core.List.{◌++◌}
use Rattle.copying.specs.Copying.{overwrite}
use Rattle.answers.specs.Refusals.{first_refusal}
use Rattle.geometry.specs.Geometry.{is_record_size, is_entry_size, allowed}
use Rattle.bits.specs.Bits.{bit}
use Rattle.records.specs.Event.{event_bytes, event_at, events_from}
use Rattle.records.specs.Ring.{put_record}
use Rattle.records.specs.Put.{put_records, index_after}
use Rattle.revision1_records.specs.Flags.{button_flag}
use Rattle.revision1_motion.specs.Scaling.{is_in_range, scaled}
use Rattle.revision1_gestures.specs.Gesture.{all_known, values_of, last_or, button_count, gesture_of}
use Rattle.revision1_gestures.specs.Form.{has_form}
use Rattle.revision1_records.specs.Records.{button_records, parts_of}
use Rattle.revision1_reader.specs.Step.{take_of}
use Rattle.revision1_reader.specs.Groups.{groups_ended, begun_after}
use Rattle.entries.specs.Offer.{offers_code, is_offered}
use Rattle.reading.specs.Reading.{is_valid_area, reading_refusal}
use Rattle.reading.specs.Oldest.{oldest_of}
use Rattle.device.specs.Revision.{revision_for}
use Rattle.device.specs.State.{client_rev_rule, current_rule, is_device}
use Rattle.device.specs.Call.{is_valid_pages, is_valid_call}
use Rattle.packets.specs.Packet.{all_offered}
use Rattle.packets.specs.Rule.{packet_answer, packet_of}
use Rattle.hotplug.specs.Add.{add_answer, add_of}
use Rattle.access.specs.Access.{access_answer}
use Rattle.access.specs.Place.{place_in, place_of}
use Rattle.switch_on.specs.SwitchOn.{taken_from, switch_on}
use Rattle.registers.specs.Write.{control_of, acceleration_of, write_of}
use Rattle.delivery.specs.World.{World, packet, call}
use Rattle.delivery.specs.Log.{after}
use Rattle.delivery.specs.Premises.{AllBelong}
use Rattle.delivery.proofs.Laws.Delivery.{delivery}
use Rattle.delivery_example.specs.Setting.{small, bytes}
use Rattle.delivery_example.specs.Revision1.{before, start, relative, press, turned, upwards, sideways, released}
use Rattle.delivery_example.specs.Revision1.{sending, full, reads, last, calls, InRevision1}
use Rattle.delivery_example.proofs.Laws.Belong.{is_packet, belong_then, steps}

-- ---- the calls belong

-- the writes of ACCELERATION leave the device on and the read pointer where it was
sending-belongs : AllBelong small start sending
unfolding overwrite first_refusal is_record_size is_entry_size allowed bit event_bytes event_at events_from put_record put_records
    index_after
    button_flag is_in_range scaled all_known values_of last_or button_count gesture_of has_form button_records parts_of offers_code
    is_offered
    revision_for client_rev_rule current_rule is_device is_valid_pages is_valid_call all_offered packet_answer packet_of add_answer add_of
    access_answer place_in place_of taken_from switch_on control_of acceleration_of write_of call
sending-belongs = (
  is_packet (relative 7 4294967291),
  (
    is_packet press,
    (
      record { on = refl; same_read_pointer = refl },
      (is_packet turned, (record { on = refl; same_read_pointer = refl }, (is_packet upwards, (is_packet sideways, tt)))),
    ),
  ),
)

full-belongs : (world : World) → AllBelong small world full
full-belongs world = (is_packet released, (is_packet released, (tt, tt)))

last-belongs : (world : World) → AllBelong small world last
last-belongs world = (is_packet (relative 19 0), steps small 3 (call small world (packet 9 (bytes (relative 19 0)))).world)

-- The worlds between.
abbrev after_sending : World
after_sending = after small start sending

abbrev after_full : World
after_full = after small after_sending full

all_belong : AllBelong small start calls
all_belong =
    belong_then small sending (full ++ (reads ++ last)) start sending-belongs
    (belong_then small full (reads ++ last) after_sending (full-belongs after_sending)
    (belong_then small reads last after_full (steps small 44 after_full) (last-belongs (after small after_full reads))))

-- ---- the run

pub in_revision_1 : InRevision1
unfolding overwrite first_refusal is_record_size is_entry_size allowed bit event_bytes event_at events_from put_record put_records
    index_after
    button_flag is_in_range scaled all_known values_of last_or button_count gesture_of has_form button_records parts_of take_of groups_ended
    begun_after
    offers_code is_offered is_valid_area reading_refusal oldest_of revision_for client_rev_rule current_rule is_device is_valid_pages
    is_valid_call
    all_offered packet_answer packet_of add_answer add_of access_answer place_in place_of taken_from switch_on control_of acceleration_of
    write_of call
in_revision_1 = record {
  is_allowed = refl;
  is_off = refl;
  is_on = refl;
  is_revision_1 = refl;
  all_belong = all_belong;
  after_list = delivery small refl before tt refl 0x100 4 1 refl calls all_belong;
  is_answered = refl;
  is_received = refl;
  is_sent = refl;
  ends_dry = refl;
}
