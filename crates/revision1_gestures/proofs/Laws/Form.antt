-- What is known of a packet with a form.
use Prim.Native.Nat.{ℕ}
use mathlib.Core.Path.{◌≡◌}
use mathlib.Core.Bool.{true, not}
use Rattle.geometry.proofs.Laws.Allowed.{both}
use Rattle.revision1_gestures.specs.declared.Gesture.{Gesture}
use Rattle.revision1_gestures.specs.Form.{is_repeated, is_motion, is_position, has_form}

pub form_position : (acceleration : ℕ) (gesture : Gesture) → has_form acceleration gesture ≡ true → is_position gesture ≡ true
unfolding has_form
form_position acceleration gesture h =
    let a = both gesture.known _ h in
    let b = both (not (is_repeated gesture)) _ a.1 in
    (both (is_motion acceleration gesture) (is_position gesture) b.1).1
