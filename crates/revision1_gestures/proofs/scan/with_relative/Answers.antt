-- A code of no axis leaves the packet an event without a form.
use mathlib.Core.Path.{sym, ◌∙◌}
use native.Mathlib.Omega.{arith}
use borrow.Author.Tests.{ne_eqb}
use Rattle.revision1_gestures.specs.Scan.{gesture_with}
use Rattle.revision1_gestures.proofs.Laws.Plain.{plain_parts, stops}
use Rattle.revision1_gestures.proofs.scan.with_relative.Goals as goal

pub returns-in_default : goal.returns-in_default
unfolding gesture_with
returns-in_default c = let plain = plain_parts c.args.gesture c.requires.1 in
    c.with_unknown.ensures
    ∙ sym (stops c.args.event c.args.gesture (rw (
      c.requires.0,
      ne_eqb c.args.event.code 0 (λ e. omega arith),
      ne_eqb c.args.event.code 1 (λ e. omega arith),
      ne_eqb c.args.event.code 8 (λ e. omega arith),
      plain.knows,
    )))
