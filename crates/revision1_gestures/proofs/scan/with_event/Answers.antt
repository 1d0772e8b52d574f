-- By the event's type; what is no axis is a button, which leaves the packet plain, or has no form.
use mathlib.Core.Path.{sym, ◌∙◌}
use mathlib.Core.Bool.{and-true}
use borrow.Author.Tests.{ne_eqb, not-true, not-false}
use Rattle.revision1_gestures.specs.Scan.{gesture_with}
use Rattle.revision1_gestures.proofs.Laws.Plain.{plain_parts, reads_on, stops}
use Rattle.revision1_gestures.proofs.scan.with_event.Goals as goal

pub returns-then-not-is_button : goal.returns-then-not-is_button
unfolding gesture_with
returns-then-not-is_button c = let plain = plain_parts c.args.gesture c.requires.1 in
    c.with_unknown.ensures
    ∙ sym (stops c.args.event c.args.gesture
    (rw (
      ne_eqb _ _ c.if-event-eq-EV_REL.false,
      ne_eqb _ _ c.if-event-eq-EV_ABS.false,
      sym c.is_button.ensures ∙ not-true _ c.if-not-is_button.true-raw,
      plain.knows,
    )))

pub returns : goal.returns
unfolding gesture_with
returns c = let plain = plain_parts c.args.gesture c.requires.1 in
    let relative = ne_eqb _ _ c.if-event-eq-EV_REL.false in
    let absolute = ne_eqb _ _ c.if-event-eq-EV_ABS.false in
    let button = sym c.is_button.ensures ∙ not-false _ c.if-not-is_button.false-raw in
    rw (reads_on c.args.event c.args.gesture (rw (
      relative,
      absolute,
      button,
      plain.knows,
      plain.relative_x,
      plain.relative_y,
      plain.absolute_x,
      plain.absolute_y,
      plain.wheel,
    )))
    (rw (relative, absolute, button, and-true c.args.gesture.known))
