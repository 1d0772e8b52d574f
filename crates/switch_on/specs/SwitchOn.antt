-- Switch-on (01): both pointers become 0, the current slot none, the lost mark clear; then, in revision 2, DEV_RESET 0xFFFF and a
-- DEV_CONF for each taken slot, rising. If these don't fit the answer is 7. In revision 1 no record is put (02, E1).
use Rattle.std.specs.Prelude.{ℕ, zero, suc, ◌-◌, Bool, true, cond, List, [], ◌∷◌, map, leb, length}
use Rattle.answers.specs.Answers.{done, no_room}
use Rattle.bits.specs.Bits.{bit}
use Rattle.geometry.specs.declared.Geometry.{Geometry}
use Rattle.geometry.specs.Geometry.{ring_length, ring_of, slot_count}
use Rattle.records.specs.declared.Event.{Event}
use Rattle.records.specs.Codes.{dev_conf, dev_reset, all_slots, dev_record}
use Rattle.records.specs.Ring.{with_read_pointer, with_write_pointer}
use Rattle.records.specs.Put.{put_records, index_after}
use Rattle.device.specs.declared.Device.{Device}
use Rattle.device.specs.declared.Revision.{Revision}
use Rattle.device.specs.declared.Revision.TheVariants as revision
use Rattle.device.specs.Revision.{revision_of}
use Rattle.device.specs.Setters.{with_producer, with_control, with_write_index}
use Rattle.device.specs.State.{fresh_producer}
use Rattle.device.specs.Result.{Result, result_of}

-- The taken ones of so many slots from a slot on, rising.
unfoldable pub taken_from : ℕ → ℕ → ℕ → List ℕ
taken_from taken slot zero = []
taken_from taken slot (suc count) = cond (bit taken slot) (slot ∷ taken_from taken (suc slot) count) (taken_from taken (suc slot) count)

-- The first records for so many slots.
abbrev pub records_at_start : Revision → ℕ → ℕ → List Event
records_at_start revision.One taken slots = []
records_at_start revision.Two taken slots = dev_record dev_reset all_slots ∷ map (dev_record dev_conf) (taken_from taken 0 slots)

abbrev pub start_records : Geometry → Device → List Event
start_records geometry device = records_at_start (revision_of device.registers) device.taken (slot_count geometry)

-- Both pointers 0.
abbrev pub cleared_pointers : List ℕ → List ℕ
cleared_pointers area = with_write_pointer (with_read_pointer area 0) 0

-- On, with the device's end of the ring started anew and moved past these records. ISR stays.
abbrev pub switched_on : Bool → ℕ → Device → Device
switched_on interrupts index device = with_write_index index (with_producer fresh_producer (with_control true interrupts device))

-- What it leaves where its records fit.
abbrev pub started : Geometry → Device → List ℕ → Bool → Result
started geometry device area interrupts =
    let records = start_records geometry device in
    result_of done (switched_on interrupts (index_after (ring_of geometry) 0 records) device)
    (put_records (ring_of geometry) 0 records (cleared_pointers area))

unfoldable pub switch_on : Geometry → Device → List ℕ → Bool → Result
switch_on geometry device area interrupts =
    cond (leb (length (start_records geometry device)) (ring_length geometry - 1))
    (started geometry device area interrupts)
    (result_of no_room device area)
