-- How many records a packet takes: the lengths of its parts added up. There is always one.
use Prim.Native.Nat.{ℕ, ◌+◌}
use mathlib.Core.Path.{◌≡◌}
use mathlib.Core.Bool.{Bool}
use mathlib.Core.List.{List}
use native.Mathlib.Omega.{arith}
use lib.ListN.{length, length-append}
use Rattle.records.specs.declared.Event.{Event}
use Rattle.records.specs.Packet.{event_count, events_of}
use Rattle.records.proofs.Laws.Packet.{counted}
use Rattle.packet_records.specs.Packet.{lost_records, set_records, records_for}

pub records_count : (lost : Bool) (current slot : ℕ) (packet : List ℕ) {before set : ℕ}
    → before ≡ length (lost_records lost) → set ≡ length (set_records current slot)
    → before + set + event_count packet + 1 ≡ length (records_for lost current slot (events_of packet))
records_count lost current slot packet l s =
    let n = counted packet in
    rw (l, s) (simp length-append (omega arith))

-- its report at least
pub records_some : (lost : Bool) (current slot : ℕ) (events : List Event) → length (records_for lost current slot events) ≡ 0 → ⊥
records_some lost current slot events h = let some = simp length-append at h in omega (arith, some)
