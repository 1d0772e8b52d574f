-- A left fold over the events, while the packet is plain: what is read so far, and with the events that are left, is always the whole
use mathlib.Core.Path.{sym, ◌∙◌}
use borrow.Author.Tests.{not-true, not-false}
use Rattle.records.specs.Packet.{events_of}
use Rattle.records.proofs.Laws.Packet.{counted, event_of_lem}
use Rattle.revision1_gestures.proofs.Laws.Read.{turn_begins, turn_goes_on, turn_stops, turn_ends}
use Rattle.revision1_gestures.proofs.scan.gesture_of.Goals as goal

pub loop-i-init : goal.loop-i-init
loop-i-init c = turn_begins _ c.nothing-gesture.ensures

pub returns-then-not-gesture : goal.returns-then-not-gesture
returns-then-not-gesture c = turn_stops (events_of c.args.packet.now) c.loop-i.invariant (rw (counted c.args.packet.now) c.loop-i-test.true)
    (c.decode.ensures ∙ sym (event_of_lem c.args.packet.now c.loop-i.i c.loop-i-test.true))
    c.with_event-gesture.ensures (not-true _ c.if-not-gesture.true)

pub loop-i-preserved : goal.loop-i-preserved
loop-i-preserved c = turn_goes_on (events_of c.args.packet.now) c.loop-i.invariant (rw (counted c.args.packet.now) c.loop-i-test.true)
    (c.decode.ensures ∙ sym (event_of_lem c.args.packet.now c.loop-i.i c.loop-i-test.true))
    c.with_event-gesture.ensures (not-false _ c.if-not-gesture.false)

pub returns : goal.returns
returns c = turn_ends (events_of c.args.packet.now) c.loop-i.invariant (rw (counted c.args.packet.now) c.loop-i-test.false)
