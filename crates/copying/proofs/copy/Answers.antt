-- Invariant: once the rest of the source is put at at + i, the buffer is as wanted. At the end there is no rest.
use native.Mathlib.Omega.{arith}
use Rattle.copying.proofs.Laws.Remains.{copy_goes_on, copy_ends}
use Rattle.copying.proofs.copy.Goals as goal

pub loop-i-preserved : goal.loop-i-preserved
loop-i-preserved c =
    copy_goes_on c.args.bytes.now c.args.at c.args.source.now c.loop-i.bytes c.loop-i.i c.loop-i.invariant c.loop-i-test.true (omega arith)

pub returns : goal.returns
returns c = copy_ends c.args.bytes.now c.args.at c.args.source.now c.loop-i.bytes c.loop-i.i c.loop-i.invariant c.loop-i-test.false
