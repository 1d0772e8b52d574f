-- The buttons of the events from the i-th on remain to be put (ButtonsRemain): a turn puts one record or none.
use mathlib.Core.Path.{sym, ◌∙◌}
use Rattle.records.specs.Packet.{events_of}
use Rattle.records.proofs.Laws.Packet.{counted, event_of_lem}
use Rattle.revision1_records.proofs.Laws.Buttons.{buttons_go_on, buttons_end}
use Rattle.revision1_records.proofs.group.put_each_button.Goals as goal

pub loop-i-preserved : goal.loop-i-preserved
loop-i-preserved c = (
  c.put_button-at.ensures.same_ring ∙ c.loop-i.invariant.0,
  buttons_go_on c.args.first.ring c.args.first.index (events_of c.args.packet.now) c.args.area.now c.loop-i.i c.loop-i.invariant.1
      (rw (counted c.args.packet.now) c.loop-i-test.true)
      (c.decode.ensures ∙ sym (event_of_lem c.args.packet.now c.loop-i.i c.loop-i-test.true))
      (rw c.loop-i.invariant.0 at c.put_button-at.ensures.put) c.put_button-at.auto.area,
)

pub returns : goal.returns
returns c = record {
  same_ring = c.loop-i.invariant.0;
  put = buttons_end c.args.first.ring c.args.first.index (events_of c.args.packet.now) c.args.area.now c.loop-i.i c.loop-i.invariant.1
      (rw (counted c.args.packet.now) c.loop-i-test.false);
}
