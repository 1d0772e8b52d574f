-- What is counted and what is left to count add up to all (Counted).
use mathlib.Core.Path.{◌∙◌}
use Rattle.switch_on.proofs.Laws.Slots.{count_goes_on, count_ends}
use Rattle.switch_on.proofs.taken_count.Goals as goal

pub loop-slot-preserved : goal.loop-slot-preserved
loop-slot-preserved c = count_goes_on c.args.taken c.args.slots c.loop-slot.count c.loop-slot.slot c.loop-slot.invariant
    c.loop-slot-test.true
    (c.bit_of-count.ensures.0 ∙ rw c.is_set.ensures)

pub returns : goal.returns
returns c = count_ends c.args.taken c.args.slots c.loop-slot.count c.loop-slot.slot c.loop-slot.invariant c.loop-slot-test.false
