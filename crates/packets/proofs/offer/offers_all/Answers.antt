-- The events before the i-th are offered, so the rest decides: that is the loop's invariant.
use mathlib.Core.Path.{sym}
use Rattle.records.specs.Packet.{events_of}
use Rattle.records.proofs.Laws.Packet.{counted, event_of_lem}
use Rattle.packets.proofs.Laws.Offer.{offered_next, not_offered_lem, all_offered_lem}
use Rattle.packets.proofs.offer.offers_all.Goals as goal

pub returns-then-not-is_offered : goal.returns-then-not-is_offered
returns-then-not-is_offered c =
    not_offered_lem c.args.entry.now (events_of c.args.packet.now) c.loop-i.i (rw (counted c.args.packet.now) c.loop-i-test.true)
    c.loop-i.invariant
    (rw (event_of_lem c.args.packet.now c.loop-i.i c.loop-i-test.true, ← c.decode.ensures)
    (sym c.if-not-is_offered.ensures))

pub loop-i-preserved : goal.loop-i-preserved
loop-i-preserved c = offered_next c.args.entry.now (events_of c.args.packet.now) c.loop-i.i
    (rw (counted c.args.packet.now) c.loop-i-test.true) c.loop-i.invariant
    (rw (event_of_lem c.args.packet.now c.loop-i.i c.loop-i-test.true, ← c.decode.ensures)
    (sym c.if-not-is_offered.ensures))

pub returns : goal.returns
returns c = all_offered_lem c.args.entry.now (events_of c.args.packet.now) c.loop-i.i (rw (counted c.args.packet.now) c.loop-i-test.false)
    c.loop-i.invariant
