-- A packet read event by event: what it has so far, and with one event more. One that can't have a form is read no further.
use Rattle.std.specs.Prelude.{ℕ, ◌+◌, ◌≡◌, true, false, ◌&&◌, cond}
use Rattle.bits.specs.Bits.{bit_of}
use Rattle.records.specs.declared.Event.{Event}
use Rattle.records.specs.Codes.{ev_rel, ev_abs, rel_x, rel_y, rel_wheel, abs_x, abs_y}
use Rattle.revision1_gestures.specs.declared.Axis.{Axis}
use Rattle.revision1_gestures.specs.declared.Gesture.{Gesture}
use Rattle.revision1_gestures.specs.Gesture.{is, is_button, is_known}
use Rattle.revision1_gestures.specs.Form.{is_plain}

abbrev pub missing : Axis
missing = record { given = false; repeated = false; value = 0 }

-- Nothing was read yet.
abbrev pub unread : Gesture
unread = record {
  relative_x = missing;
  relative_y = missing;
  absolute_x = missing;
  absolute_y = missing;
  wheel = missing;
  buttons = 0;
  known = true;
}

-- An event without a form was read.
abbrev pub with_unknown : Gesture → Gesture
with_unknown gesture = record {
  relative_x = gesture.relative_x;
  relative_y = gesture.relative_y;
  absolute_x = gesture.absolute_x;
  absolute_y = gesture.absolute_y;
  wheel = gesture.wheel;
  buttons = gesture.buttons;
  known = false;
}

-- An axis that the packet didn't have yet.
abbrev pub once : ℕ → Axis
once value = record { given = true; repeated = false; value = value }

-- What was read, unless the axis was given before: then the packet has an event without a form.
abbrev pub unless_given : Axis → Gesture → Gesture → Gesture
unless_given axis gesture after = cond axis.given (with_unknown gesture) after

abbrev pub axis_with : ℕ → ℕ → Event → Axis → Axis
axis_with kind code event axis =
    cond (is kind code event) (record { given = true; repeated = axis.given; value = event.value }) axis

unfoldable pub gesture_with : Event → Gesture → Gesture
gesture_with event gesture = record {
  relative_x = axis_with ev_rel rel_x event gesture.relative_x;
  relative_y = axis_with ev_rel rel_y event gesture.relative_y;
  absolute_x = axis_with ev_abs abs_x event gesture.absolute_x;
  absolute_y = axis_with ev_abs abs_y event gesture.absolute_y;
  wheel = axis_with ev_rel rel_wheel event gesture.wheel;
  buttons = gesture.buttons + bit_of (is_button event);
  known = gesture.known && is_known event;
}

-- Read on while the packet is plain; else it has an event that isn't known.
unfoldable pub read_with : Event → Gesture → Gesture
read_with event gesture = cond (is_plain (gesture_with event gesture)) (gesture_with event gesture) (with_unknown gesture)

-- What was read tells a packet's gesture: it is that one, or neither is plain.
abbrev pub Tells : Gesture → Gesture → Type 0
Tells read whole = (is_plain read ≡ is_plain whole) × (is_plain whole ≡ true → read ≡ whole)
