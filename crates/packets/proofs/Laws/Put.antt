-- The ways out of a packet that the slot offers: it has no form, no room, or is put.
use Prim.Native.Nat.{ℕ}
use mathlib.Core.Path.{◌≡◌, sym, ◌∙◌}
use mathlib.Core.Bool.{true, false}
use mathlib.Core.List.{List}
use lib.ListN.{length}
use borrow.Author.Tests.{ne_eqb}
use Rattle.answers.specs.Refusals.{first_refusal}
use Rattle.geometry.specs.declared.Geometry.{Geometry}
use Rattle.geometry.specs.Geometry.{ring_of}
use Rattle.records.specs.Packet.{events_of}
use Rattle.records.specs.Put.{Put}
use Rattle.device.specs.declared.Device.{Device}
use Rattle.device.specs.Result.{Outcome}
use Rattle.device.specs.Revision.{revision_of}
use Rattle.device.specs.Setters.{with_lost}
use Rattle.device.specs.Room.{room_refusal}
use Rattle.device.specs.Result.{outcome_of}
use Rattle.device.proofs.Laws.Room.{room_lost}
use Rattle.packets.specs.Revision.{is_formed}
use Rattle.packets.specs.Rule.{packet_records, put_refusals, after_packet, put_of}

-- what is promised of the outcome and of the area afterwards
abbrev pub PutPromise : Geometry → Device → List ℕ → ℕ → List ℕ → Outcome → List ℕ → Type 0
PutPromise geometry device area slot packet outcome after =
    (outcome ≡ (put_of geometry device area slot packet).outcome) × (after ≡ (put_of geometry device area slot packet).area)

module _ (geometry : Geometry) (device : Device) (area : List ℕ) (slot : ℕ) (packet : List ℕ) where
  -- it has no form
  pub put_formless : is_formed (revision_of device.registers) device.registers.acceleration (events_of packet) ≡ false
      → {outcome : Outcome} → outcome ≡ outcome_of 8 device → PutPromise geometry device area slot packet outcome area
  unfolding put_of first_refusal
  put_formless none o = (o ∙ rw none, rw none)

  module _ (formed : is_formed (revision_of device.registers) device.registers.acceleration (events_of packet) ≡ true)
      {answer : ℕ}
      (judged : answer
      ≡ room_refusal (ring_of geometry) area device.producer.write_index (length (packet_records device slot packet))) where
    room_decides : first_refusal (put_refusals geometry device area slot packet) ≡ answer
    unfolding first_refusal
    room_decides = rw formed (sym judged)

    -- the ring has no room for it, or a bad read pointer: it is lost
    pub put_lost : (answer ≡ 0 → ⊥) → {outcome : Outcome} → outcome ≡ outcome_of answer (with_lost true device)
        → PutPromise geometry device area slot packet outcome area
    unfolding put_of
    put_lost n o =
        let count : ℕ = length (packet_records device slot packet) in
        let lost = room_lost (ring_of geometry) area device.producer.write_index count judged n in
        (o ∙ rw (room_decides, ne_eqb answer 0 n, lost), rw (room_decides, ne_eqb answer 0 n))

    pub put-accepted : (index : ℕ) {after : List ℕ} → answer ≡ 0
        → Put (ring_of geometry) device.producer.write_index (packet_records device slot packet) area after index
        → {outcome : Outcome} → outcome ≡ outcome_of 0 (after_packet slot (events_of packet) index device)
        → PutPromise geometry device area slot packet outcome after
    unfolding put_of
    put-accepted index e put o = (o ∙ rw (room_decides, e, put.ends), put.holds ∙ rw (room_decides, e))
