-- The loop over a packet's events that asks whether each is offered.
use Prim.Native.Nat.{ℕ, ◌+◌, ◌≤◌, ◌<◌}
use mathlib.Core.Path.{◌≡◌}
use mathlib.Core.Bool.{true, false}
use mathlib.Core.List.{List}
use native.Mathlib.Numerals.{add-one}
use lib.ListN.{length, get_or, drop, drop_of_length-le}
use lib.Seq.{drop-cons}
use Rattle.records.specs.declared.Event.{Event}
use Rattle.entries.specs.Offer.{is_offered}
use Rattle.packets.specs.Packet.{all_offered}
use Rattle.records.proofs.Laws.Packet.{none}

-- the events before `i` are offered, so the rest decides
module _ (entry : List ℕ) (events : List Event) (i : ℕ) (low : i < length events)
    (passed : all_offered entry (drop i events) ≡ all_offered entry events) where
  pub offered_next : is_offered entry (get_or events i none) ≡ true → all_offered entry (drop (i + 1) events) ≡ all_offered entry events
  unfolding all_offered
  offered_next h = rw add-one (rw (drop-cons events i none low, h) at passed)

  pub not_offered_lem : is_offered entry (get_or events i none) ≡ false → false ≡ all_offered entry events
  unfolding all_offered
  not_offered_lem h = rw (drop-cons events i none low, h) at passed

pub all_offered_lem : (entry : List ℕ) (events : List Event) (i : ℕ) → length events ≤ i
    → all_offered entry (drop i events) ≡ all_offered entry events → true ≡ all_offered entry events
unfolding all_offered
all_offered_lem entry events i h passed = rw (drop_of_length-le events {i = i} h) at passed
