-- Which packets have a revision 1 form (02, E1). One without is refused with 8.
use Rattle.std.specs.Prelude.{ℕ, Bool, not, ◌&&◌, ◌||◌, leb}
use Rattle.revision1_gestures.specs.declared.Gesture.{Gesture}
use Rattle.revision1_motion.specs.Scaling.{is_in_range}

-- An axis or the wheel comes more than once.
abbrev pub is_repeated : Gesture → Bool
is_repeated gesture =
    gesture.relative_x.repeated
    || (gesture.relative_y.repeated
    || (gesture.absolute_x.repeated || (gesture.absolute_y.repeated || gesture.wheel.repeated)))

-- Every event has a form, and none but a button comes again.
abbrev pub is_plain : Gesture → Bool
is_plain gesture = gesture.known && not (is_repeated gesture)

-- Scaled motion is from -32768 to 32767.
abbrev pub is_motion : ℕ → Gesture → Bool
is_motion acceleration gesture =
    is_in_range acceleration gesture.relative_x.value && is_in_range acceleration gesture.relative_y.value

-- An absolute position is from 0 to 65535.
abbrev pub is_position : Gesture → Bool
is_position gesture = leb gesture.absolute_x.value 65535 && leb gesture.absolute_y.value 65535

-- Every event has a form, none is repeated but buttons, and every value fits.
unfoldable pub has_form : ℕ → Gesture → Bool
has_form acceleration gesture =
    gesture.known && (not (is_repeated gesture) && (is_motion acceleration gesture && is_position gesture))
