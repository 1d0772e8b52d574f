-- A left fold over the events, while the packet is plain: what is read so far, and with the events that are left, is always the whole
use Rattle.records.specs.Packet.{events_of}
use Rattle.revision1_gestures.proofs.Laws.Read.{Turn}
use Rattle.revision1_gestures.proofs.scan.gesture_of.Given as goal

abbrev pub invariant-loop-i : goal.invariant-loop-i
invariant-loop-i l = Turn (events_of l.packet) l.gesture l.i
