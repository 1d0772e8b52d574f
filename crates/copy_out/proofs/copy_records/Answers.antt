-- Either no record lies past the ring's end, so one run copies all; or a second run goes on at the ring's start, where the first ends.
use native.Mathlib.Omega.{arith}
use Rattle.copy_out.proofs.Laws.CopyOut.{two_runs, both_copied}
use Rattle.copy_out.proofs.copy_records.Goals as goal

pub returns : goal.returns
returns c = (
  two_runs c.args.from.ring c.args.area.now c.requires.holds c.args.from.index c.args.count c.args.out.now c.args.from.in_ring
      (omega (arith, c.if-count-until.false)) c.requires.count_bound.0,
  both_copied c.args.from.ring c.args.area.now c.requires.holds c.args.from.index c.args.count c.args.out.now c.args.from.in_ring
      (omega (arith, c.if-count-until.false)) c.requires.count_bound.0 _ c.requires.count_bound.1 (omega arith)
      c.copy_run-2.ensures c.copy_run-3.ensures,
)
