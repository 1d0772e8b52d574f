-- The buttons of the events from the i-th on remain to be put (ButtonsRemain): a turn puts one record or none.
use mathlib.Core.Path.{◌≡◌}
use Rattle.records.specs.Packet.{events_of}
use Rattle.revision1_records.proofs.Laws.Buttons.{ButtonsRemain}
use Rattle.revision1_records.proofs.group.put_each_button.Given as goal

abbrev pub invariant-loop-i : goal.invariant-loop-i
invariant-loop-i l = (l.at.ring ≡ l.fn.first.ring)
    × ButtonsRemain l.fn.first.ring l.fn.first.index (events_of l.packet) l.initial.area l.area l.at.index l.i
