-- What a read is refused with any access is refused with (refused_either); where a read is granted the place decides on a write
-- (written_by_place).
use mathlib.Core.Path.{sym, ◌∙◌}
use native.Mathlib.Omega.{arith}
use Rattle.answers.specs.Refusals.{first_refusal}
use Rattle.answers.proofs.Laws.{never_done}
use Rattle.access.proofs.Laws.Access.{refused_either, written_by_place}
use Rattle.access.proofs.place_granted.Goals as goal

pub returns-then-not-valid-clause-tested : goal.returns-then-not-valid-clause-tested
unfolding first_refusal
returns-then-not-valid-clause-tested c = rw c.if-not-valid.true

pub returns-in_err-place-clause-tested : goal.returns-in_err-place-clause-tested
returns-in_err-place-clause-tested c =
    let refused = refused_either c.args.geometry c.args.offset c.args.width c.args.writes c.in_err-place.ensures.tested (never_done _) in
    rw c.if-not-valid.false (grind (arith, refused))

pub returns-then-is_read_only-clause-tested : goal.returns-then-is_read_only-clause-tested
returns-then-is_read_only-clause-tested c =
    rw (c.if-not-valid.false, c.if-writes.true)
    (sym (written_by_place c.args.geometry c.args.offset c.args.width (sym c.in_ok-place.ensures.tested)
    ∙ rw (← c.in_ok-place.ensures.granted, ← c.is_read_only.ensures, c.if-is_read_only.true)))
