-- The events before the i-th are offered, so the rest decides: that is the loop's invariant.
use mathlib.Core.Path.{◌≡◌}
use lib.ListN.{drop}
use Rattle.records.specs.Packet.{events_of}
use Rattle.packets.specs.Packet.{all_offered}
use Rattle.packets.proofs.offer.offers_all.Given as goal

abbrev pub invariant-loop-i : goal.invariant-loop-i
invariant-loop-i l = all_offered l.entry (drop l.i (events_of l.packet)) ≡ all_offered l.entry (events_of l.packet)
