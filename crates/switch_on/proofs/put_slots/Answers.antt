-- The records of the slots from the current one on remain to be put, from where the area and the index are now (SlotsRemain).
use mathlib.Core.Path.{refl, ◌∙◌}
use Rattle.switch_on.proofs.Laws.Put.{slots_begin, slots_go_on, slots_end}
use Rattle.switch_on.proofs.put_slots.Goals as goal

pub loop-slot-init : goal.loop-slot-init
loop-slot-init c = record {
  same_ring = refl;
  remain = slots_begin c.args.first.ring c.args.first.index c.args.taken c.args.slots c.args.area.now c.requires c.args.first.in_ring;
}

pub loop-slot-preserved : goal.loop-slot-preserved
loop-slot-preserved c =
    let same = c.loop-slot.invariant.same_ring in
    let put = rw (same, c.is_set.ensures, c.dev_record.ensures) at c.put_if-at.ensures.put in
    record {
      same_ring = c.put_if-at.ensures.same_ring ∙ same;
      remain = slots_go_on c.args.first.ring c.args.first.index c.args.taken c.args.slots c.args.area.now c.loop-slot.invariant.remain
          c.loop-slot-test.true put c.put_if-at.auto.area;
    }

pub returns : goal.returns
returns c = record {
  same_ring = c.loop-slot.invariant.same_ring;
  put = slots_end c.args.first.ring c.args.first.index c.args.taken c.args.slots c.args.area.now c.loop-slot.invariant.remain
      c.loop-slot-test.false;
}
