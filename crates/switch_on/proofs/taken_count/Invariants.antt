-- What is counted and what is left to count add up to all (Counted).
use Rattle.switch_on.proofs.Laws.Slots.{Counted}
use Rattle.switch_on.proofs.taken_count.Given as goal

abbrev pub invariant-loop-slot : goal.invariant-loop-slot
invariant-loop-slot l = Counted l.taken l.slots l.count l.slot
