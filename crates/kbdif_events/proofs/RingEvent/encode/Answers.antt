-- The five stores, one after the other, leave the bytes of the event's words.
use mathlib.Core.Path.{◌∙◌}
use native.Mathlib.Omega.{arith}
use Rattle.kbdif_events.proofs.Laws.{filled}
use Rattle.kbdif_events.proofs.RingEvent.encode.Goals as goal

pub returns : goal.returns
returns c = filled
    c.args.out.now
    c.words-words.result
    (omega arith)
    c.write_pair.ensures
    c.write_pair-2.ensures
    c.write_u64.ensures
    c.write_u64-2.ensures
    c.write_u64-3.ensures
    ∙ c.words-words.ensures
