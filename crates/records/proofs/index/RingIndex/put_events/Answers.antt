-- A left fold over the events: what is left to put, from where the area and the index are now, always gives the whole (Turn).
use mathlib.Core.Path.{sym, ◌∙◌}
use Rattle.records.specs.Packet.{events_of}
use Rattle.records.proofs.Laws.Packet.{counted, event_of_lem, turn_goes_on, turn_ends}
use Rattle.records.proofs.Laws.PutFrom.{put_once}
use Rattle.records.proofs.index.RingIndex.put_events.Goals as goal

pub loop-i-preserved : goal.loop-i-preserved
loop-i-preserved c = let once = put_once c.put-at.ensures in (
  c.put-at.ensures.same_ring ∙ c.loop-i.invariant.0,
  turn_goes_on c.args.self.ring c.args.self.index (events_of c.args.packet.now) c.args.area.now c.loop-i.invariant.1
      (rw (counted c.args.packet.now) c.loop-i-test.true)
      (c.decode.ensures ∙ sym (event_of_lem c.args.packet.now c.loop-i.i c.loop-i-test.true))
      (rw c.loop-i.invariant.0 at once.0) (rw c.loop-i.invariant.0 at once.1) c.put-at.auto.area,
)

pub returns : goal.returns
returns c = record {
  same_ring = c.loop-i.invariant.0;
  put = turn_ends c.args.self.ring c.args.self.index (events_of c.args.packet.now) c.args.area.now c.loop-i.invariant.1
      (rw (counted c.args.packet.now) c.loop-i-test.false);
}
