-- The current slot puts nothing.
use borrow.Author.Tests.{eq-eqb}
use Rattle.records.proofs.Laws.PutFrom.{nothing_put}
use Rattle.packet_records.proofs.put_set.Goals as goal

pub returns-then-current-slot : goal.returns-then-current-slot
returns-then-current-slot c = rw (eq-eqb _ _ c.if-current-slot.true) (nothing_put _ _)
