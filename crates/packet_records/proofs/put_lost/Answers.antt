-- Two records, the second where the first left the ring.
use Rattle.records.proofs.Laws.PutFrom.{nothing_put, both_put}
use Rattle.packet_records.proofs.put_lost.Goals as goal

pub returns : goal.returns
returns c = rw (c.if-not-lost.false, ← c.syn_record.ensures, ← c.syn_record-2.ensures) (both_put c.put-report.ensures c.put.ensures)

pub returns-then-not-lost : goal.returns-then-not-lost
returns-then-not-lost c = rw c.if-not-lost.true (nothing_put _ _)
