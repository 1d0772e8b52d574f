-- None in revision 1; in revision 2 the taken slots, and one record more.
use native.Mathlib.Omega.{arith}
use Rattle.switch_on.proofs.Laws.Slots.{few_taken}
use Rattle.switch_on.proofs.start_count.Goals as goal

pub overflow_add-result : goal.overflow_add-result
overflow_add-result c = omega (arith, c.taken_count.ensures, few_taken c.args.taken 0 c.args.slots, c.requires)
