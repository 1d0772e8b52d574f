-- The cases, by computation.
use mathlib.Core.Path.{refl}
use Rattle.answers.specs.Refusals.{first_refusal}
use Rattle.copying.specs.Copying.{overwrite}
use Rattle.bits.specs.Bits.{bit}
use Rattle.geometry.specs.Geometry.{is_record_size, is_entry_size, allowed}
use Rattle.records.specs.Event.{event_bytes, event_at, events_from}
use Rattle.records.specs.Ring.{put_record}
use Rattle.records.specs.Put.{put_records, index_after}
use Rattle.entries.specs.Offer.{offers_code, is_offered}
use Rattle.revision1_motion.specs.Scaling.{is_in_range, scaled}
use Rattle.revision1_gestures.specs.Gesture.{all_known, values_of, last_or, button_count, gesture_of}
use Rattle.revision1_gestures.specs.Form.{has_form}
use Rattle.revision1_records.specs.Records.{button_records, parts_of}
use Rattle.device.specs.Revision.{revision_for}
use Rattle.device.specs.State.{client_rev_rule, current_rule, is_device}
use Rattle.device.specs.Call.{is_valid_pages, is_valid_call}
use Rattle.packets.specs.Packet.{all_offered}
use Rattle.packets.specs.Rule.{packet_answer, packet_of}
use Rattle.access.specs.Access.{access_answer}
use Rattle.access.specs.Place.{place_in, place_of}
use Rattle.switch_on.specs.SwitchOn.{taken_from, switch_on}
use Rattle.registers.specs.Write.{control_of, write_of}
use Rattle.cases.specs.Cases.{cases, cases_in_revision1, AllRight, Cases}

in_revision_2 : AllRight cases
unfolding first_refusal overwrite bit is_record_size is_entry_size allowed event_bytes event_at events_from put_record put_records
    index_after offers_code is_offered revision_for client_rev_rule current_rule is_device is_valid_pages is_valid_call all_offered
    packet_answer packet_of
    access_answer place_in place_of taken_from switch_on control_of write_of
in_revision_2 = (
  refl,
  (
    refl,
    (
      refl,
      (
        refl,
        (
          refl,
          (
            refl,
            (refl, (refl, (refl, (refl, (refl, (refl, (refl, (refl, (refl, (refl, (refl, (refl, (refl, (refl, (refl, tt))))))))))))))),
          ),
        ),
      ),
    ),
  ),
)

in_revision_1 : AllRight cases_in_revision1
unfolding first_refusal overwrite bit is_record_size is_entry_size allowed event_bytes event_at events_from put_record put_records
    index_after is_in_range scaled all_known values_of last_or button_count gesture_of has_form button_records parts_of offers_code
    is_offered
    revision_for client_rev_rule current_rule is_device is_valid_pages is_valid_call all_offered packet_answer packet_of access_answer
    place_in
    place_of taken_from switch_on control_of write_of
in_revision_1 = (
  refl,
  (refl, (refl, (refl, (refl, (refl, (refl, (refl, (refl, (refl, (refl, (refl, (refl, (refl, (refl, (refl, (refl, tt)))))))))))))))),
)

pub all_right : Cases
all_right = (in_revision_2, in_revision_1)
