-- Invariant: once the lines of the records left are put behind, all lines are there; and 33 bytes are free for each one left.
use native.Mathlib.Omega.{arith}
use mathlib.Core.Path.{◌∙◌, refl}
use Rattle.capture.proofs.Laws.Lines.{turn_begins, turn_goes_on, turn_ends}
use Rattle.capture.proofs.write_records.Goals as goal

pub loop-init : goal.loop-init
loop-init c = record {
  same_ring = refl;
  turn = turn_begins c.args.first.ring c.args.area.now c.args.first.index c.args.count c.args.writer.now (omega arith)
      c.args.first.in_ring c.requires.room;
}

pub record-requires : goal.record-requires
record-requires c = rw c.loop.invariant.same_ring c.requires.holds

pub write_record-requires : goal.write_record-requires
write_record-requires c = omega (arith, c.loop.invariant.turn.room)

pub loop-preserved : goal.loop-preserved
loop-preserved c =
    let same = c.loop.invariant.same_ring in
    record {
      same_ring = c.next-index.ensures.0 ∙ same;
      turn = turn_goes_on c.args.first.ring c.args.area.now c.args.first.index c.args.count c.args.writer.now
          c.loop.invariant.turn (omega arith) (rw same at c.record.ensures) c.write_record.ensures
          (rw same at c.next-index.ensures.1);
    }

pub returns : goal.returns
returns c =
    turn_ends c.args.first.ring c.args.area.now c.args.first.index c.args.count c.args.writer.now c.loop.invariant.turn
    (omega arith)
