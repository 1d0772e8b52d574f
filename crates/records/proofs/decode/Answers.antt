-- Three words at 0, 2 and 4 from the place: each read is a field by definition.
use Rattle.records.specs.Event.{event_at}
use Rattle.records.proofs.decode.Goals as goal

pub returns : goal.returns
unfolding event_at
returns c = rw (c.read_u16.ensures, c.read_u16-2.ensures, c.read_u32.ensures)
