-- Where nothing is given, nothing is put.
use Rattle.records.proofs.Laws.PutFrom.{none_given}
use Rattle.records.proofs.index.RingIndex.put_if.Goals as goal

pub returns-else-given : goal.returns-else-given
returns-else-given c = none_given c.args.self c.args.event c.args.given _ c.if-given.false
