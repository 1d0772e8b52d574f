-- A left fold over the events: what is left to put, from where the area and the index are now, always gives the whole (Turn).
use mathlib.Core.Path.{◌≡◌}
use Rattle.records.specs.Packet.{events_of}
use Rattle.records.proofs.Laws.Packet.{Turn}
use Rattle.records.proofs.index.RingIndex.put_events.Given as goal

abbrev pub invariant-loop-i : goal.invariant-loop-i
invariant-loop-i l = (l.at.ring ≡ l.fn.self.ring)
    × Turn l.fn.self.ring l.fn.self.index (events_of l.packet) l.initial.area l.area l.at.index l.i
