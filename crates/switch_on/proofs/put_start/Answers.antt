-- In revision 2 the records are those of DEV_RESET and then those of the slots.
use Rattle.records.proofs.Laws.PutFrom.{nothing_put, both_put}
use Rattle.switch_on.proofs.put_start.Goals as goal

pub returns-in-One : goal.returns-in-One
returns-in-One c = rw c.in-One.is (nothing_put _ _)

pub returns-in-Two : goal.returns-in-Two
returns-in-Two c = rw c.in-Two.is (both_put (rw c.dev_record.ensures at c.put-next.ensures) c.put_slots.ensures)
