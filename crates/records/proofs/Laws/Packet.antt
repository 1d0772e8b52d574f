-- A packet's events, each by its number; and the loop that puts them: those from the i-th on remain to be put.
use Prim.Native.Nat.{ℕ, ◌+◌, ◌*◌, ◌≤◌, ◌<◌}
use mathlib.Core.Path.{◌≡◌, refl, ap, ◌∙◌}
use mathlib.Core.List.{List, []}
use native.Mathlib.Omega.{arith}
use native.Mathlib.Numerals.{add-one}
use lib.ListN.{length, get_or, drop, drop_of_length-le}
use lib.Seq.{drop-cons}
use Rattle.geometry.specs.declared.Ring.{Ring}
use Rattle.records.specs.declared.Event.{Event}
use Rattle.records.specs.Event.{event_at}
use Rattle.records.specs.Packet.{event_count, events_of}
use Rattle.records.specs.Ring.{Holds, next_index, put_record}
use Rattle.records.specs.Put.{put_records, index_after, Put}
use Rattle.records.proofs.Laws.Events.{events_length, event-number}
use Rattle.records.proofs.Laws.PutAll.{put_one, put_ready}

-- what stands past the end of a list
abbrev pub none : Event
none = record { kind = 0; code = 0; value = 0 }

module _ (packet : List ℕ) where
  pub counted : length (events_of packet) ≡ event_count packet
  counted = events_length packet 0 (event_count packet)

  pub event_of_lem : (i : ℕ) → i < event_count packet → get_or (events_of packet) i none ≡ event_at packet (i * 8)
  event_of_lem i low =
      let e : 0 + i * 8 ≡ i * 8 = omega arith in
      event-number packet 0 (event_count packet) i none low ∙ ap (event_at packet) e

-- ---- the loop over the events: those from `i` on remain, from index `at` on

pub record Turn (ring : Ring) (index : ℕ) (events : List Event) (start area : List ℕ) (at i : ℕ) : Type 0 where
  pub holds : Holds (length area) ring
  pub inside : at < ring.length
  pub size : length area ≡ length start
  pub bytes : put_records ring at (drop i events) area ≡ put_records ring index events start
  pub ends : index_after ring at (drop i events) ≡ index_after ring index events

module _ (ring : Ring) (index : ℕ) (events : List Event) (start : List ℕ) where
  pub turn_begins : Holds (length start) ring → index < ring.length → Turn ring index events start start index 0
  turn_begins h k = record { holds = h; inside = k; size = refl; bytes = refl; ends = refl }

  pub turn_goes_on : {area : List ℕ} {at i : ℕ} → Turn ring index events start area at i → i < length events
      → {event : Event} {after : List ℕ} {next : ℕ}
      → event ≡ get_or events i none → next ≡ next_index ring at → after ≡ put_record ring at event area
      → length after ≡ length area → Turn ring index events start after next (i + 1)
  unfolding put_records index_after
  turn_goes_on {area} {at} {i} turn low {event} read moved wrote kept =
      let ready = put_ready ring turn.holds turn.inside (put_one ring at event moved wrote) in
      record {
        holds = ready.0;
        inside = ready.1;
        size = kept ∙ turn.size;
        bytes = rw (add-one, moved, wrote, read) (rw (drop-cons events i none low) at turn.bytes);
        ends = rw (add-one, moved) (rw (drop-cons events i none low) at turn.ends);
      }

  pub turn_ends : {area : List ℕ} {at i : ℕ} → Turn ring index events start area at i → length events ≤ i
      → Put ring index events start area at
  unfolding put_records index_after
  turn_ends {i = i} turn h =
      let over : drop i events ≡ [] = drop_of_length-le events {i = i} h in
      record { ends = rw over at turn.ends; holds = rw over at turn.bytes }
