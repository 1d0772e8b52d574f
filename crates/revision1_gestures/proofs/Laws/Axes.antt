-- One event of an axis, read: an axis that was given would be repeated, and a new one leaves the packet plain.
use mathlib.Core.Path.{◌≡◌, refl, sym, ◌∙◌}
use mathlib.Core.Bool.{Bool, true, false, and-true}
use native.Mathlib.Nat.{add-zero}
use Rattle.records.specs.declared.Event.{Event}
use Rattle.records.specs.Codes.{ev_rel, ev_abs, rel_x, rel_y, rel_wheel, abs_x, abs_y}
use Rattle.revision1_gestures.specs.declared.Gesture.{Gesture}
use Rattle.revision1_gestures.specs.Scan.{gesture_with, with_unknown, read_with, once, unless_given}
use Rattle.revision1_gestures.specs.Form.{is_plain}
use Rattle.revision1_gestures.proofs.Laws.Plain.{Plain, plain_parts, reads_on, stops}

module _ (event : Event) (gesture : Gesture) (now : is_plain gesture ≡ true) where
  pub relative_x_read : event.kind ≡ ev_rel → event.code ≡ rel_x
      → unless_given gesture.relative_x gesture (record gesture { relative_x = once event.value }) ≡ read_with event gesture
  unfolding gesture_with
  relative_x_read kind code = go gesture.relative_x.given refl
    where
      plain : Plain gesture
      plain = plain_parts gesture now

      after : Gesture
      after = record gesture { relative_x = once event.value }

      go : (given : Bool) → gesture.relative_x.given ≡ given → unless_given gesture.relative_x gesture after ≡ read_with event gesture
      go true g =
          let left : unless_given gesture.relative_x gesture after ≡ with_unknown gesture = rw g in
          left ∙ sym (stops event gesture
          (rw (kind, code, g, plain.knows)))
      go false g =
          let left : unless_given gesture.relative_x gesture after ≡ after = rw g in
          left ∙ sym (reads_on event gesture
          (rw (kind, code, g, plain.knows, plain.relative_y, plain.absolute_x, plain.absolute_y, plain.wheel))
          ∙ rw (kind, code, g, and-true gesture.known, add-zero gesture.buttons))

  pub relative_y_read : event.kind ≡ ev_rel → event.code ≡ rel_y
      → unless_given gesture.relative_y gesture (record gesture { relative_y = once event.value }) ≡ read_with event gesture
  unfolding gesture_with
  relative_y_read kind code = go gesture.relative_y.given refl
    where
      plain : Plain gesture
      plain = plain_parts gesture now

      after : Gesture
      after = record gesture { relative_y = once event.value }

      go : (given : Bool) → gesture.relative_y.given ≡ given → unless_given gesture.relative_y gesture after ≡ read_with event gesture
      go true g =
          let left : unless_given gesture.relative_y gesture after ≡ with_unknown gesture = rw g in
          left ∙ sym (stops event gesture
          (rw (kind, code, g, plain.knows, plain.relative_x)))
      go false g =
          let left : unless_given gesture.relative_y gesture after ≡ after = rw g in
          left ∙ sym (reads_on event gesture
          (rw (kind, code, g, plain.knows, plain.relative_x, plain.absolute_x, plain.absolute_y, plain.wheel))
          ∙ rw (kind, code, g, and-true gesture.known, add-zero gesture.buttons))

  pub wheel_read : event.kind ≡ ev_rel → event.code ≡ rel_wheel
      → unless_given gesture.wheel gesture (record gesture { wheel = once event.value }) ≡ read_with event gesture
  unfolding gesture_with
  wheel_read kind code = go gesture.wheel.given refl
    where
      plain : Plain gesture
      plain = plain_parts gesture now

      after : Gesture
      after = record gesture { wheel = once event.value }

      go : (given : Bool) → gesture.wheel.given ≡ given → unless_given gesture.wheel gesture after ≡ read_with event gesture
      go true g =
          let left : unless_given gesture.wheel gesture after ≡ with_unknown gesture = rw g in
          left ∙ sym (stops event gesture
          (rw (kind, code, g, plain.knows, plain.relative_x, plain.relative_y, plain.absolute_x, plain.absolute_y)))
      go false g =
          let left : unless_given gesture.wheel gesture after ≡ after = rw g in
          left ∙ sym (reads_on event gesture
          (rw (kind, code, g, plain.knows, plain.relative_x, plain.relative_y, plain.absolute_x, plain.absolute_y))
          ∙ rw (kind, code, g, and-true gesture.known, add-zero gesture.buttons))

  pub absolute_x_read : event.kind ≡ ev_abs → event.code ≡ abs_x
      → unless_given gesture.absolute_x gesture (record gesture { absolute_x = once event.value }) ≡ read_with event gesture
  unfolding gesture_with
  absolute_x_read kind code = go gesture.absolute_x.given refl
    where
      plain : Plain gesture
      plain = plain_parts gesture now

      after : Gesture
      after = record gesture { absolute_x = once event.value }

      go : (given : Bool) → gesture.absolute_x.given ≡ given → unless_given gesture.absolute_x gesture after ≡ read_with event gesture
      go true g =
          let left : unless_given gesture.absolute_x gesture after ≡ with_unknown gesture = rw g in
          left ∙ sym (stops event gesture
          (rw (kind, code, g, plain.knows, plain.relative_x, plain.relative_y)))
      go false g =
          let left : unless_given gesture.absolute_x gesture after ≡ after = rw g in
          left ∙ sym (reads_on event gesture
          (rw (kind, code, g, plain.knows, plain.relative_x, plain.relative_y, plain.absolute_y, plain.wheel))
          ∙ rw (kind, code, g, and-true gesture.known, add-zero gesture.buttons))

  pub absolute_y_read : event.kind ≡ ev_abs → event.code ≡ abs_y
      → unless_given gesture.absolute_y gesture (record gesture { absolute_y = once event.value }) ≡ read_with event gesture
  unfolding gesture_with
  absolute_y_read kind code = go gesture.absolute_y.given refl
    where
      plain : Plain gesture
      plain = plain_parts gesture now

      after : Gesture
      after = record gesture { absolute_y = once event.value }

      go : (given : Bool) → gesture.absolute_y.given ≡ given → unless_given gesture.absolute_y gesture after ≡ read_with event gesture
      go true g =
          let left : unless_given gesture.absolute_y gesture after ≡ with_unknown gesture = rw g in
          left ∙ sym (stops event gesture
          (rw (kind, code, g, plain.knows, plain.relative_x, plain.relative_y, plain.absolute_x)))
      go false g =
          let left : unless_given gesture.absolute_y gesture after ≡ after = rw g in
          left ∙ sym (reads_on event gesture
          (rw (kind, code, g, plain.knows, plain.relative_x, plain.relative_y, plain.absolute_x, plain.wheel))
          ∙ rw (kind, code, g, and-true gesture.known, add-zero gesture.buttons))

-- one more event, by the axis that it is of
pub ruleset by_axis = (relative_x_read, relative_y_read, absolute_x_read, absolute_y_read, wheel_read)
