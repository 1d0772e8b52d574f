-- The parts, then the FENCE where they left the ring.
use Rattle.records.proofs.Laws.PutFrom.{both_put}
use Rattle.revision1_records.proofs.group.put_group.Goals as goal

pub returns : goal.returns
returns c = both_put c.put_parts-fence.ensures (rw (← c.flagged.ensures) c.put.ensures)
