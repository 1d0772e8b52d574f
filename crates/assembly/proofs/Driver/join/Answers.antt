-- A law for each way out: ignored and full leave the buffer alone, and else eight bytes of it are lent to be filled with the event.
use Prim.Native.Nat.{◌*◌}
use mathlib.Core.Path.{sym}
use Rattle.copying.proofs.Laws.Overwrite.{lent_part}
use Rattle.records.proofs.Laws.Event.{event-length}
use Rattle.assembly.proofs.Laws.Collect.{join_ignored, join_full, join_free}
use Rattle.assembly.proofs.Driver.join.Goals as goal

pub returns-then-self : goal.returns-then-self
returns-then-self c = join_ignored c.args.self.now c.args.event c.args.packet.now c.if-self.true

pub returns-then-self-ge-MOST_EVENTS : goal.returns-then-self-ge-MOST_EVENTS
returns-then-self-ge-MOST_EVENTS c = join_full c.args.self.now c.args.event c.args.packet.now
    c.if-self.false c.if-self-ge-MOST_EVENTS.true

pub returns : goal.returns
returns c = join_free c.args.self.now c.args.event c.args.packet.now c.if-self.false c.if-self-ge-MOST_EVENTS.false
    (lent_part c.args.packet.now (c.args.self.now.held * 8) 8 (sym (event-length c.args.event)) c.encode.ensures)
