-- A packet keeps the invariant: accepted, its records are put and are pending; refused for room, the sender remembers it.
use Prim.Native.Nat.{ℕ, ◌^◌, ◌≤◌, ◌<◌}
use mathlib.Core.Path.{◌≡◌, refl, sym}
use mathlib.Core.Bool.{true, false≢true}
use mathlib.Core.Logic.{◌≢◌}
use mathlib.Core.List.{List, ◌++◌, append-nil}
use native.Mathlib.Omega.{arith}
use native.Mathlib.Decide.{ℕ_discrete}
use lib.ListN.{length}
use borrow.Author.Tests.{lt-leb, ne_eqb}
use Rattle.answers.proofs.Laws.{never_answers}
use Rattle.geometry.specs.declared.Geometry.{Geometry}
use Rattle.geometry.specs.Geometry.{ring_length, ring_of, slot_count}
use Rattle.geometry.proofs.Laws.Allowed.{sizes}
use Rattle.geometry.proofs.Laws.Slots.{few_slots}
use Rattle.words.specs.Words.{IsBytes}
use Rattle.records.specs.declared.Event.{Event}
use Rattle.records.specs.Event.{most_events, AllFit}
use Rattle.records.specs.Packet.{event_count, events_of}
use Rattle.records.specs.Ring.{read_pointer}
use Rattle.records.specs.Put.{put_records, index_after}
use Rattle.records.proofs.Laws.Events.{events_length, events_fit}
use Rattle.records.proofs.Laws.PutAll.{after_inside}
use Rattle.revision1_gestures.specs.Gesture.{gesture_of}
use Rattle.revision1_records.specs.Records.{parts_of}
use Rattle.revision1_gestures.proofs.Laws.Form.{form_position}
use Rattle.revision1_reader.proofs.Laws.Group.{position_fits, parts_are_plain, group_fits}
use Rattle.entries.specs.Entry.{entry_at}
use Rattle.device.specs.declared.Device.{Device}
use Rattle.device.specs.declared.Revision.{Revision}
use Rattle.device.specs.declared.Revision.TheVariants.{One, Two}
use Rattle.device.specs.Setters.{with_lost}
use Rattle.device.proofs.Laws.Rules.{rules_lost, taken_slot}
use Rattle.device.proofs.Laws.Call.{call_with}
use Rattle.packets.specs.Packet.{all_offered}
use Rattle.packets.specs.Revision.{is_formed, records_in, current_after, position_in}
use Rattle.packets.specs.Rule.{packet_records, packet_refusals, packet_answer, after_packet, packet_of}
use Rattle.packets.proofs.Laws.Rule.{some_records, accepted}
use Rattle.packets.proofs.Laws.Keeps.{packet_keeps}
use Rattle.delivery.specs.World.{World, Result, numbered, packet, revision_in, call}
use Rattle.delivery.specs.Log.{Item}
use Rattle.delivery.specs.Sent.{items_in}
use Rattle.delivery.proofs.Laws.Fit.{fit_packet}
use Rattle.delivery.proofs.Laws.Runs.{packet_runs}
use Rattle.delivery.proofs.Laws.Groups.{group_runs}
use Rattle.delivery.proofs.Laws.Reads.{PositionIn, Puts, write_index, left_by, reads_inside, reads_position, reads_state}
use Rattle.delivery.proofs.Laws.Invariant.{Invariant, Kept, sender_of, known, appended}

-- the records of a packet give what is sent for it, in both revisions
packet_puts : (revision : Revision) (geometry : Geometry) (entry : List ℕ) (device : Device) (slot : ℕ) (events : List Event)
    → PositionIn revision device.producer.position → slot < slot_count geometry → slot < 2 ^ 32 → all_offered entry events ≡ true
    → is_formed revision device.registers.acceleration events ≡ true → AllFit events → 0 < length events → length events ≤ most_events
    → Puts revision geometry device.producer.current_slot (records_in revision device slot events)
    (items_in revision (sender_of device) slot events) (current_after revision device.producer.current_slot slot)
    (position_in revision device.producer.position events)
packet_puts One geometry entry device slot events position low small offered formed fits some few =
    let acceleration = device.registers.acceleration in
    let last = device.producer.position in
    let right = form_position acceleration (gesture_of events) formed in
    record {
      fits = group_fits acceleration last events right position fits;
      position_fits = position_fits (gesture_of events) right position;
      runs = λ begun at. group_runs (parts_of acceleration last events) (parts_are_plain acceleration last events right position fits) at;
    }
packet_puts Two geometry entry device slot events position low small offered formed fits some few =
    let lost = device.producer.lost in
    let current = device.producer.current_slot in
    record {
      fits = fit_packet lost current slot events small fits;
      runs = λ collector held. packet_runs geometry entry lost current slot events held low offered fits some few;
    }

-- The records of a packet, and the index after them.
abbrev put : World → ℕ → List ℕ → List Event
put world slot events = packet_records world.device slot events

abbrev index_of : Geometry → World → ℕ → List ℕ → ℕ
index_of geometry world slot events = index_after (ring_of geometry) (write_index world) (put world slot events)

-- What a packet leaves.
abbrev left : World → ℕ → Device → List ℕ → Result
left world number device area = record { answer = numbered number; world = left_by world device area world.page }

module _ (geometry : Geometry) (world : World) {begun : List Event} {pending : List Item} (h : Invariant geometry world begun pending)
    (slot : ℕ) (events : List ℕ) where
  answer : ℕ
  answer = packet_answer geometry world.device world.area world.page slot events

  not_ten : answer ≡ 10 → ⊥
  unfolding answer packet_answer
  not_ten =
      let inside = reads_inside geometry world begun pending (revision_in world) h.reads in
      let low = lt-leb (ring_length geometry) (read_pointer world.area) inside in
      let some = ne_eqb (length (put world slot events)) 0 (some_records (revision_in world) world.device slot (events_of events)) in
      never_answers 10 (packet_refusals geometry world.device world.area world.page slot events) (rw (some, low))

  -- refused, but not for room
  refused_kept : (number : ℕ) → number ≢ 0 → number ≢ 7 → number ≢ 10
      → Kept geometry world begun pending (packet slot events) (left world number world.device world.area)
  refused_kept number none room ten = record {
    still = pending;
    invariant = h;
    log = rw (ne_eqb number 0 none, ne_eqb number 7 room) (sym (append-nil pending));
    sender = rw (ne_eqb number 0 none, ne_eqb number 7 room);
    dry = λ z. absurd (false≢true z);
    not_ten = ten;
  }

  -- refused for room
  lost_kept : Kept geometry world begun pending (packet slot events) (left world 7 (with_lost true world.device) world.area)
  lost_kept = record {
    still = pending;
    invariant = record {
      called = call_with geometry _ (known h) (rules_lost (known h).keeps true);
      on = h.on;
      reads = reads_state (revision_in world) geometry world begun pending (with_lost true world.device) h.reads refl refl refl;
    };
    log = sym (append-nil pending);
    sender = refl;
    dry = λ z. absurd (false≢true z);
    not_ten = λ e. omega arith;
  }

  -- ---- accepted

  abbrev accepts : List Item
  accepts = items_in (revision_in world) (sender_of world.device) slot (events_of events)

  accepted-holds : IsBytes events → answer ≡ 0
      → Invariant geometry (left_by world (after_packet slot (events_of events) (index_of geometry world slot events) world.device)
      (put_records (ring_of geometry) (write_index world) (put world slot events) world.area) world.page) begun (pending ++ accepts)
  unfolding answer
  accepted-holds bytes none =
      let a = accepted geometry world.device world.area world.page slot events none in
      let shared = a.shared in
      let rules = shared.is_call.keeps in
      let low : slot < slot_count geometry = taken_slot rules slot shared.is_taken_lem in
      let small : slot < 2 ^ 32 = omega (arith, few_slots geometry (sizes geometry shared.is_call.is_allowed)) in
      let count : length (events_of events) ≡ event_count events = events_length events 0 (event_count events) in
      let fits = events_fit events 0 (event_count events) bytes in
      let inside = after_inside (ring_of geometry) (write_index world) (put world slot events) rules.write_inside in
      let still = packet_keeps rules slot (events_of events) (index_of geometry world slot events) inside shared.is_taken_lem in
      appended geometry h (put world slot events) accepts _ world.page a.room
      (packet_puts (revision_in world) geometry (entry_at geometry world.page slot) world.device slot (events_of events)
      (reads_position geometry world begun pending (revision_in world) h.reads) low small shared.offered a.formed fits
      (omega (arith, count, shared.some)) (omega (arith, count, shared.few)))
      refl refl h.on (call_with geometry _ shared.is_call still)

  accepted_kept : IsBytes events → answer ≡ 0
      → Kept geometry world begun pending (packet slot events)
      (left world 0 (after_packet slot (events_of events) (index_of geometry world slot events) world.device)
      (put_records (ring_of geometry) (write_index world) (put world slot events) world.area))
  accepted_kept bytes none = record {
    still = pending ++ accepts;
    invariant = accepted-holds bytes none;
    log = refl;
    sender = refl;
    dry = λ z. absurd (false≢true z);
    not_ten = λ e. omega arith;
  }

  pub packet_kept : IsBytes events → Kept geometry world begun pending (packet slot events) (call geometry world (packet slot events))
  unfolding call packet_of answer
  packet_kept bytes = elim (ℕ_discrete answer 0) [
    | yes e ↦ rw e (accepted_kept bytes e)
    | no n ↦ elim (ℕ_discrete answer 7) [
      | yes e ↦ rw e lost_kept
      | no m ↦ rw (ne_eqb answer 0 n, ne_eqb answer 10 not_ten, ne_eqb answer 7 m) (refused_kept answer n m not_ten)
    ]
  ]
