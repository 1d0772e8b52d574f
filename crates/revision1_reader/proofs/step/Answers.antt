-- Invalid, or as taking the oldest record says.
use mathlib.Core.Path.{sym}
use Rattle.std.proofs.lemmas.Result.{err_from_is_err_and}
use Rattle.revision1_reader.proofs.Laws.Step.{refused_invalid, take_oldest}
use Rattle.revision1_reader.proofs.step.Goals as goal

pub returns-in_err-layout : goal.returns-in_err-layout
returns-in_err-layout c =
    let p = err_from_is_err_and c.from_residual.result c.from_residual.ensures.1 in
    rw (p.1, p.2, c.in_err-layout.ensures.refused)
    (refused_invalid c.args.geometry c.args.area.now (sym c.in_err-layout.ensures.tested))

pub returns : goal.returns
returns c =
    take_oldest c.args.geometry c.args.area.now (sym c.in_ok-layout.ensures.tested) c.take_oldest.result
    (rw c.in_ok-layout.ensures.same at c.ring.ensures) c.take_oldest.ensures.taken c.take_oldest.ensures.refused
