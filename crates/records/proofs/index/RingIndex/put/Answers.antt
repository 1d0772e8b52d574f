-- The record's eight bytes are lent as a part, which lies in the area; then the write pointer is stored: the definition's two writes.
use Rattle.records.proofs.Laws.Put.{put-done}
use Rattle.records.proofs.Laws.PutFrom.{one_put}
use Rattle.records.proofs.index.RingIndex.put.Goals as goal

pub returns : goal.returns
returns c = one_put c.args.self c.args.event c.next-next.ensures.0 c.next-next.ensures.1
    (put-done _ _ _ _ c.record_place-at.ensures c.encode.ensures c.next-next.ensures.1 c.set_write_pointer.ensures)
