-- Adding a device (01, "Writing records"): exactly S bytes are lent and stored; evbits bit 0 must be set.
-- Refusals in 01's order: 1, 6, 9, then 10 and 7 while on.
use Rattle.std.specs.Prelude.{ℕ, Bool, not, List, ◌∷◌, ltb, eqb, length}
use Rattle.answers.specs.Answers.{done, invalid, bad_slot, malformed}
use Rattle.answers.specs.Refusals.{first_refusal}
use Rattle.bits.specs.Bits.{with_bit}
use Rattle.geometry.specs.declared.Geometry.{Geometry}
use Rattle.geometry.specs.Geometry.{ring_of, slot_count}
use Rattle.records.specs.declared.Event.{Event}
use Rattle.records.specs.Put.{record_if}
use Rattle.records.specs.Codes.{dev_conf, dev_record}
use Rattle.entries.specs.Entry.{is_present, with_entry}
use Rattle.device.specs.declared.Device.{Device}
use Rattle.device.specs.Setters.{with_taken}
use Rattle.device.specs.State.{is_taken}
use Rattle.device.specs.Call.{is_valid_call}
use Rattle.device.specs.Room.{room_refusals}
use Rattle.device.specs.Result.{outcome_of}
use Rattle.hotplug.specs.Hotplug.{tells, after_records, area_after, HotplugResult, unless_refused}

-- While on in revision 2, an add puts DEV_CONF with the slot.
abbrev pub add_records : Device → ℕ → List Event
add_records device slot = record_if (tells device.registers) (dev_record dev_conf slot)

abbrev pub add_refusals : Geometry → Device → List ℕ → List ℕ → ℕ → List ℕ → List (Bool × ℕ)
add_refusals geometry device area page slot entry =
    (not (is_valid_call geometry device (length area) (length page)), invalid)
    ∷ (not (eqb (length entry) geometry.entry_size), invalid)
    ∷ (not (ltb slot (slot_count geometry)), bad_slot)
    ∷ (is_taken device.taken slot, bad_slot)
    ∷ (not (is_present entry), malformed)
    ∷ room_refusals (ring_of geometry) area device.producer.write_index (length (add_records device slot))

unfoldable pub add_answer : Geometry → Device → List ℕ → List ℕ → ℕ → List ℕ → ℕ
add_answer geometry device area page slot entry = first_refusal (add_refusals geometry device area page slot entry)

-- The slot is taken afterwards.
abbrev pub after_add : Geometry → ℕ → Device → Device
after_add geometry slot device =
    with_taken (with_bit device.taken slot) (after_records geometry (add_records device slot) device)

unfoldable pub add_of : Geometry → Device → List ℕ → List ℕ → ℕ → List ℕ → HotplugResult
add_of geometry device area page slot entry =
    unless_refused (add_answer geometry device area page slot entry) device area page
    (record {
      outcome = outcome_of done (after_add geometry slot device);
      area = area_after geometry device (add_records device slot) area;
      page = with_entry geometry slot entry page;
    })
