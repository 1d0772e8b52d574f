-- Invariant: once the records left are put at the current byte, the output is as wanted.
use native.Mathlib.Omega.{arith}
use Rattle.copy_out.proofs.Laws.CopyOut.{place_further, further_inside, turn_goes_on, turn_ends}
use Rattle.copy_out.proofs.copy_run.Goals as goal

pub slice_bounds-copy_eight-end : goal.slice_bounds-copy_eight-end
slice_bounds-copy_eight-end c =
    rw c.record_place-first.ensures
    (further_inside c.args.from.ring c.args.area.now c.requires.holds c.args.from.index c.args.count c.args.out.now
    c.requires.count_bound.0 c.loop-i-test.true)

pub loop-i-preserved : goal.loop-i-preserved
loop-i-preserved c =
    turn_goes_on c.args.from.ring c.args.area.now c.requires.holds c.args.from.index c.args.count c.args.out.now
    c.requires.count_bound.0 c.requires.count_bound.1 c.loop-i-test.true c.loop-i.invariant
    (rw (
      c.record_place-first.ensures,
      place_further c.args.from.ring c.args.area.now c.requires.holds c.args.from.index c.args.count
          c.args.out.now c.loop-i.i,
    ) at c.copy_eight.ensures)

pub returns : goal.returns
returns c =
    turn_ends c.args.from.ring c.args.area.now c.requires.holds c.args.from.index c.args.count c.args.out.now
    c.loop-i.invariant (omega (arith, c.loop-i-test.false))
