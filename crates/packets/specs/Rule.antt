-- What becomes of a packet (01, "Numbers a caller can get"): 1, 5, 6, 9, 8, 10, 7; then it is put whole.
use Rattle.std.specs.Prelude.{ℕ, Bool, true, not, ◌&&◌, ◌||◌, cond, List, [], ◌∷◌, ◌++◌, ltb, eqb, length}
use Rattle.answers.specs.Answers.{done, invalid, device_off, bad_slot, no_room, not_offered, malformed, bad_index}
use Rattle.answers.specs.Refusals.{first_refusal}
use Rattle.geometry.specs.declared.Geometry.{Geometry}
use Rattle.geometry.specs.Geometry.{ring_of}
use Rattle.records.specs.declared.Event.{Event}
use Rattle.records.specs.Event.{most_events}
use Rattle.records.specs.Packet.{is_whole, event_count, events_of}
use Rattle.records.specs.Put.{put_records, index_after}
use Rattle.entries.specs.Entry.{entry_at}
use Rattle.device.specs.declared.Device.{Device}
use Rattle.device.specs.Revision.{revision_of}
use Rattle.device.specs.Setters.{with_isr, with_lost, with_position, with_write_index, with_current_slot}
use Rattle.device.specs.State.{is_taken}
use Rattle.device.specs.Call.{is_valid_call}
use Rattle.device.specs.Room.{room_refusals}
use Rattle.device.specs.Result.{Result, result_of}
use Rattle.packets.specs.Packet.{all_offered}
use Rattle.packets.specs.Revision.{is_formed, records_in, lost_after, current_after, position_in}

-- What every packet call is told and lent: as any call of the device, and whole events.
abbrev pub is_valid_packet_call : Geometry → Device → ℕ → ℕ → ℕ → Bool
is_valid_packet_call geometry device area_size page_size packet_size =
    is_valid_call geometry device area_size page_size && is_whole packet_size

abbrev pub packet_records : Device → ℕ → List ℕ → List Event
packet_records device slot packet = records_in (revision_of device.registers) device slot (events_of packet)

-- What the call, the packet and the slot's entry decide: 1, 5, 6, 9, 8.
abbrev pub offer_refusals : Geometry → Device → ℕ → List ℕ → ℕ → List ℕ → List (Bool × ℕ)
offer_refusals geometry device area_size page slot packet =
    (not (is_valid_packet_call geometry device area_size (length page) (length packet)), invalid)
    ∷ (not device.registers.on, device_off)
    ∷ (not (is_taken device.taken slot), bad_slot)
    ∷ (ltb (event_count packet) 1, malformed)
    ∷ (ltb most_events (event_count packet), malformed)
    ∷ (not (all_offered (entry_at geometry page slot) (events_of packet)), not_offered)
    ∷ []

-- What the revision and the ring decide then: 8, 10, 7.
abbrev pub put_refusals : Geometry → Device → List ℕ → ℕ → List ℕ → List (Bool × ℕ)
put_refusals geometry device area slot packet =
    (not (is_formed (revision_of device.registers) device.registers.acceleration (events_of packet)), not_offered)
    ∷ room_refusals (ring_of geometry) area device.producer.write_index (length (packet_records device slot packet))

abbrev pub packet_refusals : Geometry → Device → List ℕ → List ℕ → ℕ → List ℕ → List (Bool × ℕ)
packet_refusals geometry device area page slot packet =
    offer_refusals geometry device (length area) page slot packet ++ put_refusals geometry device area slot packet

unfoldable pub packet_answer : Geometry → Device → List ℕ → List ℕ → ℕ → List ℕ → ℕ
packet_answer geometry device area page slot packet = first_refusal (packet_refusals geometry device area page slot packet)

-- After an accepted packet: ISR is 1 if interrupts are on, and the end of the ring is as the revision leaves it.
abbrev pub after_packet : ℕ → List Event → ℕ → Device → Device
after_packet slot events index device =
    let revision = revision_of device.registers in
    with_lost (lost_after revision device.producer.lost)
    (with_current_slot (current_after revision device.producer.current_slot slot)
    (with_position (position_in revision device.producer.position events)
    (with_write_index index (with_isr (device.registers.isr || device.registers.interrupts) device))))

-- A packet refused with 10 or 7 sets the lost mark; no other refusal changes anything.
abbrev pub after_refusal : ℕ → Device → Device
after_refusal answer device = cond (eqb answer bad_index || eqb answer no_room) (with_lost true device) device

-- What a packet leaves by its answer: all its records are put, or none.
abbrev pub packet_answered : ℕ → Geometry → Device → List ℕ → ℕ → List ℕ → Result
packet_answered answer geometry device area slot packet =
    let records = packet_records device slot packet in
    let index = device.producer.write_index in
    cond (eqb answer done)
    (result_of done (after_packet slot (events_of packet) (index_after (ring_of geometry) index records) device)
    (put_records (ring_of geometry) index records area))
    (result_of answer (after_refusal answer device) area)

-- What becomes of a packet that the slot offers.
unfoldable pub put_of : Geometry → Device → List ℕ → ℕ → List ℕ → Result
put_of geometry device area slot packet =
    packet_answered (first_refusal (put_refusals geometry device area slot packet)) geometry device area slot packet

unfoldable pub packet_of : Geometry → Device → List ℕ → List ℕ → ℕ → List ℕ → Result
packet_of geometry device area page slot packet =
    packet_answered (packet_answer geometry device area page slot packet) geometry device area slot packet
