-- Invariant: once the lines of the records left are put behind, all lines are there; and 33 bytes are free for each one left.
use Prim.Native.Nat.{◌-◌}
use mathlib.Core.Path.{◌≡◌}
use Rattle.capture.proofs.Laws.Lines.{Turn}
use Rattle.capture.proofs.write_records.Given as goal

abbrev pub invariant-loop : goal.invariant-loop
invariant-loop l = record {
  same_ring : l.index.ring ≡ l.initial.index.ring;
  turn :
      Turn l.initial.index.ring l.area l.initial.index.index l.count l.initial.writer l.writer l.index.index (l.count - l.counter);
}
