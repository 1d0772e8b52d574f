-- The records that a packet gives in revision 1 (02, E1), where it has these parts, in this order:
--
--   | part                                    | flags                                     | data                        |
--   | X or Y relative                         | RELATIVE                                  | both scaled, a missing one 0 |
--   | X or Y absolute                         | ABSOLUTE                                  | both, a missing one as last put |
--   | buttons, in packet order                | LEFT, RIGHT, MIDDLE_BUTTON_DOWN or _UP    | 0                           |
--   | vertical wheel                          | VWHEEL                                    | its 32 bits as they are     |
--   | always                                  | FENCE                                     | 0                           |
use Rattle.std.specs.Prelude.{ℕ, ◌+◌, Bool, ◌||◌, cond, List, [], ◌∷◌, ◌++◌}
use Rattle.bits.specs.Bits.{bit_of}
use Rattle.records.specs.declared.Event.{Event}
use Rattle.records.specs.Put.{record_if}
use Rattle.revision1_gestures.specs.declared.Axis.{Axis}
use Rattle.revision1_gestures.specs.declared.Gesture.{Gesture}
use Rattle.revision1_records.specs.declared.Position.{Position}
use Rattle.revision1_records.specs.Flags.{ABSOLUTE, RELATIVE, VWHEEL, flagged, halves, fence, button_flag}
use Rattle.revision1_motion.specs.Scaling.{scaled}
use Rattle.revision1_gestures.specs.Gesture.{is_button, gesture_of}

-- The position at switch-on.
abbrev pub origin : Position
origin = record { x = 0; y = 0 }

abbrev pub value_or : ℕ → Axis → ℕ
value_or other axis = cond axis.given axis.value other

-- The position that a packet leaves: a missing axis as last put.
abbrev pub position_after : Position → Gesture → Position
position_after last gesture = record {
  x = value_or last.x gesture.absolute_x;
  y = value_or last.y gesture.absolute_y;
}

abbrev pub has_relative : Gesture → Bool
has_relative gesture = gesture.relative_x.given || gesture.relative_y.given

abbrev pub has_absolute : Gesture → Bool
has_absolute gesture = gesture.absolute_x.given || gesture.absolute_y.given

-- A missing one is 0.
abbrev pub relative_record : ℕ → Gesture → Event
relative_record acceleration gesture =
    flagged RELATIVE
    (halves (scaled acceleration gesture.relative_x.value) (scaled acceleration gesture.relative_y.value))

abbrev pub absolute_record : Position → Event
absolute_record position = flagged ABSOLUTE (halves position.x position.y)

abbrev pub button_record : Event → Event
button_record event = flagged (button_flag event.code event.value) 0

unfoldable pub button_records : List Event → List Event
button_records [] = []
button_records (event ∷ rest) = record_if (is_button event) (button_record event) ++ button_records rest

abbrev pub wheel_record : Axis → Event
wheel_record wheel = flagged VWHEEL wheel.value

-- All but the FENCE.
unfoldable pub parts_of : ℕ → Position → List Event → List Event
parts_of acceleration last events =
    let gesture = gesture_of events in
    record_if (has_relative gesture) (relative_record acceleration gesture)
    ++ (record_if (has_absolute gesture) (absolute_record (position_after last gesture))
    ++ (button_records events
    ++ record_if gesture.wheel.given (wheel_record gesture.wheel)))

abbrev pub group_of : ℕ → Position → List Event → List Event
group_of acceleration last events = parts_of acceleration last events ++ (fence ∷ [])

-- How many records these are.
abbrev pub record_count : Gesture → ℕ
record_count gesture =
    bit_of (has_relative gesture) + bit_of (has_absolute gesture) + gesture.buttons + bit_of gesture.wheel.given + 1
