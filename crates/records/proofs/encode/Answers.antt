-- Words of 2, 2 and 4 bytes, side by side, fill a stretch of eight whole.
use Rattle.records.proofs.Laws.Event.{fields_written}
use Rattle.records.proofs.encode.Goals as goal

pub returns : goal.returns
returns c = rw (c.write_u32.ensures, c.write_u16-2.ensures, c.write_u16.ensures)
    (fields_written _ _ c.requires)
