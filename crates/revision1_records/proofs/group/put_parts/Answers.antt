-- Four puts, one after the other, put the joined list.
use mathlib.Core.Path.{ap}
use Rattle.records.proofs.Laws.PutFrom.{both_put}
use Rattle.revision1_gestures.specs.declared.Gesture.{Gesture}
use Rattle.revision1_gestures.specs.Gesture.{gesture_of}
use Rattle.revision1_records.specs.Records.{parts_of}
use Rattle.revision1_records.proofs.group.put_parts.Goals as goal

pub put_buttons-fourth-requires-clause-buttons_value : goal.put_buttons-fourth-requires-clause-buttons_value
unfolding gesture_of
put_buttons-fourth-requires-clause-buttons_value c = ap (λ (gesture : Gesture). gesture.buttons) c.requires.gesture_value.0

pub returns : goal.returns
unfolding parts_of
returns c = let second = rw (c.has_relative.ensures, c.relative_record-relative.ensures) at c.put_if-second.ensures in
    let third = rw (c.has_absolute.ensures, c.absolute_record-absolute.ensures, c.position_after.ensures) at c.put_if-third.ensures in
    let wheel = rw c.flagged.ensures at c.put_if.ensures in
    rw (← c.requires.gesture_value.0) (both_put second (both_put third (both_put c.put_buttons-fourth.ensures wheel)))
