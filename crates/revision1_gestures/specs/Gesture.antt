-- What a packet has that revision 1 can tell (02, E1): X and Y, relative and absolute, the vertical wheel, and buttons.
use Rattle.std.specs.Prelude.{ℕ, ◌+◌, Bool, true, ◌&&◌, ◌||◌, cond, List, [], ◌∷◌, leb, eqb, length}
use Rattle.bits.specs.Bits.{bit_of}
use Rattle.records.specs.declared.Event.{Event}
use Rattle.records.specs.Codes.{ev_key, ev_rel, ev_abs, rel_x, rel_y, rel_wheel, abs_x, abs_y, btn_left, btn_middle}
use Rattle.revision1_gestures.specs.declared.Axis.{Axis}
use Rattle.revision1_gestures.specs.declared.Gesture.{Gesture}

-- ---- which events have a form

abbrev pub is : ℕ → ℕ → Event → Bool
is kind code event = eqb event.kind kind && eqb event.code code

-- Left, right or middle.
abbrev pub is_button : Event → Bool
is_button event = eqb event.kind ev_key && (leb btn_left event.code && leb event.code btn_middle)

abbrev pub is_known : Event → Bool
is_known event =
    is ev_rel rel_x event
    || (is ev_rel rel_y event
    || (is ev_abs abs_x event
    || (is ev_abs abs_y event
    || (is ev_rel rel_wheel event || is_button event))))

unfoldable pub all_known : List Event → Bool
all_known [] = true
all_known (event ∷ rest) = is_known event && all_known rest

-- ---- the axes and the wheel

-- The values of the events of a type and code, in packet order.
unfoldable pub values_of : ℕ → ℕ → List Event → List ℕ
values_of kind code [] = []
values_of kind code (event ∷ rest) = cond (is kind code event) (event.value ∷ values_of kind code rest) (values_of kind code rest)

-- The last of them, or another number where there is none.
unfoldable pub last_or : ℕ → List ℕ → ℕ
last_or other [] = other
last_or other (value ∷ rest) = last_or value rest

-- Whether it is there, whether it is there more than once, and its value, 0 where it is missing.
abbrev pub axis_of : List ℕ → Axis
axis_of values = record { given = leb 1 (length values); repeated = leb 2 (length values); value = last_or 0 values }

-- ---- the whole

unfoldable pub button_count : List Event → ℕ
button_count [] = 0
button_count (event ∷ rest) = bit_of (is_button event) + button_count rest

unfoldable pub gesture_of : List Event → Gesture
gesture_of events = record {
  relative_x = axis_of (values_of ev_rel rel_x events);
  relative_y = axis_of (values_of ev_rel rel_y events);
  absolute_x = axis_of (values_of ev_abs abs_x events);
  absolute_y = axis_of (values_of ev_abs abs_y events);
  wheel = axis_of (values_of ev_rel rel_wheel events);
  buttons = button_count events;
  known = all_known events;
}
