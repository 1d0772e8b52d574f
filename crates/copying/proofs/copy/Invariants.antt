-- Invariant: once the rest of the source is put at at + i, the buffer is as wanted. At the end there is no rest.
use Prim.Native.Nat.{◌+◌}
use lib.ListN.{drop}
use Rattle.copying.proofs.Laws.Remains.{Remains}
use Rattle.copying.proofs.copy.Given as goal

abbrev pub invariant-loop-i : goal.invariant-loop-i
invariant-loop-i l = Remains l.initial.bytes l.at l.source l.bytes (l.at + l.i) (drop l.i l.source)
