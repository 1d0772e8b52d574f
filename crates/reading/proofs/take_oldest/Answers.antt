-- What is read is read at the read pointer, so the next index is the one after it.
use mathlib.Core.Path.{◌∙◌}
use Rattle.reading.proofs.Laws.Oldest.{oldest_index}
use Rattle.reading.proofs.take_oldest.Goals as goal

pub returns-clause-taken : goal.returns-clause-taken
returns-clause-taken c =
    let index = oldest_index c.args.ring c.args.area.now c.in_ok-at.ensures.read in (
      rw (← index.0) c.in_ok-at.ensures.read,
      c.set_read_pointer.ensures ∙ rw (c.next.ensures.1, c.in_ok-at.ensures.same_ring, index.0),
    )
