-- Four puts, one after the other, put the joined list.
use Rattle.records.proofs.Laws.PutFrom.{both_put}
use Rattle.packet_records.proofs.put_packet.Goals as goal

pub returns : goal.returns
returns c = both_put c.put_lost-set.ensures
    (both_put c.put_set-first.ensures
    (both_put c.put_events-report.ensures (rw (← c.syn_record.ensures) c.put.ensures)))
