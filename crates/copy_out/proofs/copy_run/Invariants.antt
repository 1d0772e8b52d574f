-- Invariant: once the records left are put at the current byte, the output is as wanted.
use Rattle.copy_out.proofs.Laws.CopyOut.{Turn}
use Rattle.copy_out.proofs.copy_run.Given as goal

abbrev pub invariant-loop-i : goal.invariant-loop-i
invariant-loop-i l = Turn l.fn.from.ring l.area l.fn.from.index l.count l.initial.out l.out l.i
