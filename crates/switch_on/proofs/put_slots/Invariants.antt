-- The records of the slots from the current one on remain to be put, from where the area and the index are now (SlotsRemain).
use mathlib.Core.Path.{◌≡◌}
use Rattle.switch_on.proofs.Laws.Put.{SlotsRemain}
use Rattle.switch_on.proofs.put_slots.Given as goal

abbrev pub invariant-loop-slot : goal.invariant-loop-slot
invariant-loop-slot l = record {
  same_ring : l.at.ring ≡ l.fn.first.ring;
  remain : SlotsRemain l.fn.first.ring l.fn.first.index l.taken l.slots l.initial.area l.area l.at.index l.slot;
}
