-- Removing a device (01, "Writing records"): its S bytes are zeroed. Refusals in 01's order: 1, 6, then 10 and 7 while on.
use Rattle.std.specs.Prelude.{ℕ, Bool, cond, not, List, ◌∷◌, eqb, length}
use Rattle.answers.specs.Answers.{done, invalid, bad_slot}
use Rattle.answers.specs.Refusals.{first_refusal}
use Rattle.bits.specs.Bits.{without_bit}
use Rattle.geometry.specs.declared.Geometry.{Geometry}
use Rattle.geometry.specs.Geometry.{ring_of}
use Rattle.records.specs.declared.Event.{Event}
use Rattle.records.specs.Put.{record_if}
use Rattle.records.specs.Codes.{dev_reset, dev_record, no_slot}
use Rattle.entries.specs.Entry.{without_entry}
use Rattle.device.specs.declared.Device.{Device}
use Rattle.device.specs.Setters.{with_taken, with_current_slot}
use Rattle.device.specs.State.{is_taken}
use Rattle.device.specs.Call.{is_valid_call}
use Rattle.device.specs.Room.{room_refusals}
use Rattle.device.specs.Result.{outcome_of}
use Rattle.hotplug.specs.Hotplug.{tells, after_records, area_after, HotplugResult, unless_refused}

-- While on in revision 2, a remove puts DEV_RESET with the slot.
abbrev pub remove_records : Device → ℕ → List Event
remove_records device slot = record_if (tells device.registers) (dev_record dev_reset slot)

-- A slot out of range is never taken.
abbrev pub remove_refusals : Geometry → Device → List ℕ → List ℕ → ℕ → List (Bool × ℕ)
remove_refusals geometry device area page slot =
    (not (is_valid_call geometry device (length area) (length page)), invalid)
    ∷ (not (is_taken device.taken slot), bad_slot)
    ∷ room_refusals (ring_of geometry) area device.producer.write_index (length (remove_records device slot))

unfoldable pub remove_answer : Geometry → Device → List ℕ → List ℕ → ℕ → ℕ
remove_answer geometry device area page slot = first_refusal (remove_refusals geometry device area page slot)

-- Removing the current slot makes it none.
abbrev pub current_without : ℕ → ℕ → ℕ
current_without current slot = cond (eqb current slot) no_slot current

-- The slot is free afterwards.
abbrev pub after_remove : Geometry → ℕ → Device → Device
after_remove geometry slot device =
    with_taken (without_bit device.taken slot)
    (with_current_slot (current_without device.producer.current_slot slot) (after_records geometry (remove_records device slot) device))

unfoldable pub remove_of : Geometry → Device → List ℕ → List ℕ → ℕ → HotplugResult
remove_of geometry device area page slot =
    unless_refused (remove_answer geometry device area page slot) device area page
    (record {
      outcome = outcome_of done (after_remove geometry slot device);
      area = area_after geometry device (remove_records device slot) area;
      page = without_entry geometry slot page;
    })
