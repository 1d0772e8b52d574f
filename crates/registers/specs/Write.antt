-- What a write does (01, "Registers"; 02, E1). Writes to read-only places were refused before, so they do nothing here.
use Rattle.std.specs.Prelude.{ℕ, true, false, not, ◌&&◌, cond, List, eqb, length}
use Rattle.answers.specs.Answers.{done}
use Rattle.bits.specs.Bits.{bit}
use Rattle.geometry.specs.declared.Geometry.{Geometry}
use Rattle.records.specs.Ring.{with_read_pointer}
use Rattle.device.specs.declared.Device.{Device}
use Rattle.device.specs.Revision.{is_revision1, may_run}
use Rattle.device.specs.Setters.{with_control, with_isr, with_client_rev, with_acceleration}
use Rattle.device.specs.State.{is_acceleration}
use Rattle.device.specs.Result.{Result, result_of}
use Rattle.access.specs.declared.Place.{Place}
use Rattle.access.specs.declared.Place.TheVariants.{Magic, Rev, Control, EventSize, Npages, Acceleration, Isr}
use Rattle.access.specs.declared.Place.TheVariants.{ConfSize, ClientRev, ReadPtr, EventArea, EntryPage, Nothing}
use Rattle.access.specs.Place.{place_of}
use Rattle.access.specs.Access.{access_answer}
use Rattle.switch_on.specs.SwitchOn.{switch_on}

-- Bit 0 stays 0 where CLIENT_REV was rejected. Switch-off keeps pages, pointers and ISR.
unfoldable pub control_of : Geometry → Device → List ℕ → ℕ → Result
control_of geometry device area value =
    cond (bit value 0 && (may_run device.registers && not device.registers.on))
    (switch_on geometry device area (bit value 1))
    (result_of done (with_control (bit value 0 && may_run device.registers) (bit value 1) device) area)

-- 1 and 2 are taken; any other number is rejected and makes CLIENT_REV 0.
abbrev pub client_rev_for : ℕ → ℕ
client_rev_for value = cond (eqb value 2) 2 (cond (eqb value 1) 1 0)

-- While on, a write to CLIENT_REV changes nothing.
unfoldable pub client_rev_of : Device → ℕ → Device
client_rev_of device value = cond device.registers.on device (with_client_rev (client_rev_for value) device)

-- In revision 1 ACCELERATION takes 1 to 20; all else is ignored.
unfoldable pub acceleration_of : Device → ℕ → Device
acceleration_of device value =
    cond (is_revision1 device.registers && is_acceleration value) (with_acceleration value device) device

-- Any write to ISR clears it. READ_PTR takes any number.
abbrev pub effect_of : Geometry → Device → List ℕ → ℕ → Place → Result
effect_of geometry device area value Magic = result_of done device area
effect_of geometry device area value Rev = result_of done device area
effect_of geometry device area value Control = control_of geometry device area value
effect_of geometry device area value EventSize = result_of done device area
effect_of geometry device area value Npages = result_of done device area
effect_of geometry device area value Acceleration = result_of done (acceleration_of device value) area
effect_of geometry device area value Isr = result_of done (with_isr false device) area
effect_of geometry device area value ConfSize = result_of done device area
effect_of geometry device area value ClientRev = result_of done (client_rev_of device value) area
effect_of geometry device area value ReadPtr = result_of done device (with_read_pointer area value)
effect_of geometry device area value EventArea = result_of done device area
effect_of geometry device area value EntryPage = result_of done device area
effect_of geometry device area value Nothing = result_of done device area

-- A refusal changes nothing.
unfoldable pub write_of : Geometry → Device → List ℕ → ℕ → ℕ → ℕ → ℕ → Result
write_of geometry device area page_size offset width value =
    let answer = access_answer geometry device (length area) page_size true offset width in
    cond (eqb answer done) (effect_of geometry device area value (place_of geometry offset)) (result_of answer device area)
