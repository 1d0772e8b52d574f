-- A packet read event by event is the packet as a whole: each axis by itself, over its type and code, and the rest as sums.
use Prim.Native.Nat.{ℕ, ◌+◌}
use mathlib.Core.Path.{◌≡◌, refl, ◌∙◌}
use mathlib.Core.Bool.{Bool, true, false, ◌&&◌, and_assoc, and-true}
use mathlib.Core.List.{List, [], ◌∷◌}
use native.Mathlib.Omega.{arith}
use native.Mathlib.Nat.{add_assoc, add-zero}
use borrow.Author.Tests.{le-leb}
use lib.ListN.{length}
use Rattle.bits.specs.Bits.{bit_of}
use Rattle.records.specs.declared.Event.{Event}
use Rattle.records.specs.Codes.{ev_rel, ev_abs, rel_x, rel_y, rel_wheel, abs_x, abs_y}
use Rattle.revision1_gestures.specs.declared.Axis.{Axis}
use Rattle.revision1_gestures.specs.declared.Gesture.{Gesture}
use Rattle.revision1_gestures.specs.Gesture.{is, is_button, is_known, all_known, values_of, last_or, axis_of, button_count, gesture_of}
use Rattle.revision1_gestures.specs.Scan.{missing, unread, axis_with, gesture_with}

-- ---- one axis

-- An axis with these events more.
abbrev pub axis_from : ℕ → ℕ → Axis → List Event → Axis
axis_from kind code axis [] = axis
axis_from kind code axis (event ∷ rest) = axis_from kind code (axis_with kind code event axis) rest

-- An axis with these values more.
abbrev valued : Axis → List ℕ → Axis
valued axis [] = axis
valued axis (value ∷ rest) = valued (record { given = true; repeated = axis.given; value = value }) rest

by_values : (kind code : ℕ) (axis : Axis) (events : List Event) → axis_from kind code axis events ≡ valued axis (values_of kind code events)
unfolding values_of
by_values kind code axis [] = refl
by_values kind code axis (event ∷ rest) = go (is kind code event) refl (λ now. by_values kind code now rest)
  where
    go : (test : Bool) → is kind code event ≡ test → ((now : Axis) → axis_from kind code now rest ≡ valued now (values_of kind code rest))
        → axis_from kind code axis (event ∷ rest) ≡ valued axis (values_of kind code (event ∷ rest))
    go true e others = rw e (others (record { given = true; repeated = axis.given; value = event.value }))
    go false e others = rw e (others axis)

-- once repeated, only the value changes
repeated : (value : ℕ) (values : List ℕ)
    → valued (record { given = true; repeated = true; value = value }) values
    ≡ record { given = true; repeated = true; value = last_or value values }
unfolding last_or
repeated value [] = refl
repeated value (other ∷ rest) = repeated other rest

axis_of_lem : (values : List ℕ) → valued missing values ≡ axis_of values
unfolding last_or
axis_of_lem [] = refl
axis_of_lem (value ∷ []) = refl
axis_of_lem (value ∷ (other ∷ rest)) =
    let one = le-leb 1 (length (value ∷ (other ∷ rest))) (omega arith) in
    let two = le-leb 2 (length (value ∷ (other ∷ rest))) (omega arith) in
    rw (one, two) (repeated other rest)

axis_whole : (kind code : ℕ) (events : List Event) → axis_from kind code missing events ≡ axis_of (values_of kind code events)
axis_whole kind code events = by_values kind code missing events ∙ axis_of_lem (values_of kind code events)

-- ---- the whole

-- A gesture with these events more.
abbrev pub scanned : Gesture → List Event → Gesture
scanned gesture events = record {
  relative_x = axis_from ev_rel rel_x gesture.relative_x events;
  relative_y = axis_from ev_rel rel_y gesture.relative_y events;
  absolute_x = axis_from ev_abs abs_x gesture.absolute_x events;
  absolute_y = axis_from ev_abs abs_y gesture.absolute_y events;
  wheel = axis_from ev_rel rel_wheel gesture.wheel events;
  buttons = gesture.buttons + button_count events;
  known = gesture.known && all_known events;
}

pub scan_all : (events : List Event) → scanned unread events ≡ gesture_of events
unfolding gesture_of
scan_all events =
    let none_yet : 0 + button_count events ≡ button_count events = omega arith in
    rw (
      axis_whole ev_rel rel_x events,
      axis_whole ev_rel rel_y events,
      axis_whole ev_abs abs_x events,
      axis_whole ev_abs abs_y events,
      axis_whole ev_rel rel_wheel events,
      none_yet,
    )

pub scan_one : (gesture : Gesture) (event : Event) (rest : List Event)
    → scanned (gesture_with event gesture) rest ≡ scanned gesture (event ∷ rest)
unfolding gesture_with button_count all_known
scan_one gesture event rest =
    rw (
      add_assoc gesture.buttons (bit_of (is_button event)) (button_count rest),
      and_assoc gesture.known (is_known event) (all_known rest),
    )

pub scan_none : (gesture : Gesture) → scanned gesture [] ≡ gesture
unfolding button_count all_known
scan_none gesture = rw (add-zero, and-true)
