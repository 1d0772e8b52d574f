-- The ways out of a packet's rule, and what is known of an accepted packet: no test of its tables holds.
use Prim.Native.Nat.{ℕ, ◌≤◌, ◌<◌}
use mathlib.Core.Path.{◌≡◌, refl, sym, ◌∙◌}
use mathlib.Core.Bool.{true}
use mathlib.Core.List.{List}
use native.Mathlib.Omega.{arith}
use native.Mathlib.Decide.{ℕ_discrete}
use lib.ListN.{length}
use borrow.Author.Tests.{ltb-false, not-false, ne_eqb}
use Rattle.answers.specs.Refusals.{first_refusal}
use Rattle.answers.proofs.Laws.{none_holds, first-joined, never_answers}
use Rattle.geometry.specs.declared.Geometry.{Geometry}
use Rattle.geometry.specs.Geometry.{ring_length, ring_of}
use Rattle.geometry.proofs.Laws.Allowed.{both}
use Rattle.records.specs.declared.Event.{Event}
use Rattle.records.specs.Event.{most_events}
use Rattle.records.specs.Packet.{event_count, events_of}
use Rattle.records.specs.Ring.{read_pointer, has_room}
use Rattle.entries.specs.Entry.{entry_at}
use Rattle.packet_records.proofs.Laws.Put.{records_some}
use Rattle.revision1_records.proofs.Laws.Count.{group_some}
use Rattle.device.specs.declared.Device.{Device}
use Rattle.device.specs.Result.{Outcome}
use Rattle.device.specs.declared.Revision.{Revision}
use Rattle.device.specs.declared.Revision.TheVariants.{One, Two}
use Rattle.device.specs.Revision.{revision_of}
use Rattle.device.specs.State.{is_taken}
use Rattle.device.specs.Result.{outcome_of}
use Rattle.device.proofs.Laws.Call.{Call, call}
use Rattle.device.proofs.Laws.Room.{room_enough}
use Rattle.packets.specs.Packet.{all_offered}
use Rattle.packets.specs.Revision.{is_formed, records_in}
use Rattle.packets.specs.Rule.{packet_records, offer_refusals, put_refusals, packet_answer, put_of, packet_of}

-- what the rule promises of its outcome and of the area afterwards
abbrev pub Promise : Geometry → Device → List ℕ → List ℕ → ℕ → List ℕ → Outcome → List ℕ → Type 0
Promise geometry device area page slot packet outcome after =
    (outcome ≡ (packet_of geometry device area page slot packet).outcome) × (after ≡ (packet_of geometry device area page slot packet).area)

-- ---- a packet that the slot offers

-- What the first table says of a packet that it doesn't refuse.
pub record Offered (geometry : Geometry) (device : Device) (area_size : ℕ) (page : List ℕ) (slot : ℕ) (packet : List ℕ) : Type 0 where
  pub is_call : Call geometry device area_size (length page)
  pub is_on : device.registers.on ≡ true
  pub is_taken_lem : is_taken device.taken slot ≡ true
  pub some : 1 ≤ event_count packet
  pub few : event_count packet ≤ most_events
  pub offered : all_offered (entry_at geometry page slot) (events_of packet) ≡ true

pub offered_by : (geometry : Geometry) (device : Device) (area_size : ℕ) (page : List ℕ) (slot : ℕ) (packet : List ℕ)
    → first_refusal (offer_refusals geometry device area_size page slot packet) ≡ 0 → Offered geometry device area_size page slot packet
offered_by geometry device area_size page slot packet h =
    let a = none_holds _ _ _ (omega arith) h in
    let b = none_holds _ _ _ (omega arith) a.1 in
    let c = none_holds _ _ _ (omega arith) b.1 in
    let d = none_holds _ _ _ (omega arith) c.1 in
    let e = none_holds _ _ _ (omega arith) d.1 in
    let f = none_holds _ _ _ (omega arith) e.1 in
    record {
      is_call = call geometry device area_size (length page) (both _ _ (not-false _ a.0)).0;
      is_on = not-false device.registers.on b.0;
      is_taken_lem = not-false (is_taken device.taken slot) c.0;
      some = ltb-false (event_count packet) 1 d.0;
      few = ltb-false most_events (event_count packet) e.0;
      offered = not-false (all_offered (entry_at geometry page slot) (events_of packet)) f.0;
    }

-- ---- a packet that has a form and room

-- a packet puts some record, its report or its FENCE
pub some_records : (revision : Revision) (device : Device) (slot : ℕ) (events : List Event)
    → length (records_in revision device slot events) ≡ 0 → ⊥
some_records One device slot events = group_some device.registers.acceleration device.producer.position events
some_records Two device slot events = records_some device.producer.lost device.producer.current_slot slot events

pub record Accepted (geometry : Geometry) (device : Device) (area page : List ℕ) (slot : ℕ) (packet : List ℕ) : Type 0 where
  pub shared : Offered geometry device (length area) page slot packet
  pub formed : is_formed (revision_of device.registers) device.registers.acceleration (events_of packet) ≡ true
  pub read_inside : read_pointer area < ring_length geometry
  pub room : has_room (ring_of geometry) (read_pointer area) device.producer.write_index
      (length (packet_records device slot packet)) ≡ true

module _ (geometry : Geometry) (device : Device) (area page : List ℕ) (slot : ℕ) (packet : List ℕ) where
  -- the second table decides where the first refuses nothing
  pub offered_answer : first_refusal (offer_refusals geometry device (length area) page slot packet) ≡ 0
      → packet_answer geometry device area page slot packet ≡ first_refusal (put_refusals geometry device area slot packet)
  unfolding packet_answer
  offered_answer h =
      first-joined (offer_refusals geometry device (length area) page slot packet) (put_refusals geometry device area slot packet) refl
      ∙ rw h

  pub refused_answer : (first_refusal (offer_refusals geometry device (length area) page slot packet) ≡ 0 → ⊥)
      → packet_answer geometry device area page slot packet ≡ first_refusal (offer_refusals geometry device (length area) page slot packet)
  unfolding packet_answer
  refused_answer n =
      first-joined (offer_refusals geometry device (length area) page slot packet) (put_refusals geometry device area slot packet) refl
      ∙ rw (ne_eqb _ 0 n)

  pub accepted : packet_answer geometry device area page slot packet ≡ 0 → Accepted geometry device area page slot packet
  accepted h = elim (ℕ_discrete (first_refusal (offer_refusals geometry device (length area) page slot packet)) 0) [
    | yes e ↦
        let a = none_holds _ _ _ (omega arith) (sym (offered_answer e) ∙ h) in
        let revision = revision_of device.registers in
        let enough = room_enough (ring_of geometry) area _ _ (some_records revision device slot (events_of packet)) a.1 in
        record {
          shared = offered_by geometry device (length area) page slot packet e;
          formed = not-false _ a.0;
          read_inside = enough.0;
          room = enough.1;
        }
    | no n ↦ absurd (n (sym (refused_answer n) ∙ h))
  ]

  -- ---- the two ways of the rule

  -- what the entry refuses changes nothing: it is answered with neither 10 nor 7
  pub packet_refused : {answer : ℕ} {outcome : Outcome}
      → answer ≡ first_refusal (offer_refusals geometry device (length area) page slot packet) → (answer ≡ 0 → ⊥)
      → outcome ≡ outcome_of answer device → Promise geometry device area page slot packet outcome area
  unfolding packet_of
  packet_refused {answer} judged n o =
      let refusals = offer_refusals geometry device (length area) page slot packet in
      let same : packet_answer geometry device area page slot packet ≡ answer
      = refused_answer (λ e. n (judged ∙ e)) ∙ sym judged in
      let not_ten = ne_eqb answer 10 (λ e. never_answers 10 refusals refl (sym judged ∙ e)) in
      let not-seven = ne_eqb answer 7 (λ e. never_answers 7 refusals refl (sym judged ∙ e)) in
      (o ∙ rw (same, ne_eqb answer 0 n, not_ten, not-seven), rw (same, ne_eqb answer 0 n))

  -- what it offers is put, or refused
  pub packet_offered : first_refusal (offer_refusals geometry device (length area) page slot packet) ≡ 0
      → packet_of geometry device area page slot packet ≡ put_of geometry device area slot packet
  unfolding packet_of put_of
  packet_offered h = rw (offered_answer h)
