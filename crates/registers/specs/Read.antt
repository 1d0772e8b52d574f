-- What a read gives (01, "Registers"; 02, E1). A refused read gives value 0.
use Rattle.std.specs.Prelude.{ℕ, ◌+◌, ◌-◌, ◌*◌, false, cond, List, eqb, length, Result, Ok, Err}
use Rattle.words.specs.Words.{u32_at}
use Rattle.answers.specs.declared.Refusal.{Refusal}
use Rattle.answers.specs.Answers.{done}
use Rattle.answers.specs.Refusal.{number_of}
use Rattle.bits.specs.Bits.{bit_of}
use Rattle.geometry.specs.declared.Geometry.{Geometry}
use Rattle.geometry.specs.Geometry.{area_length}
use Rattle.device.specs.declared.Device.{Device}
use Rattle.device.specs.Revision.{is_revision1}
use Rattle.access.specs.declared.Place.{Place}
use Rattle.access.specs.declared.Place.TheVariants.{Magic, Rev, Control, EventSize, Npages, Acceleration, Isr}
use Rattle.access.specs.declared.Place.TheVariants.{ConfSize, ClientRev, ReadPtr, EventArea, EntryPage, Nothing}
use Rattle.registers.specs.declared.Value.{Value}
use Rattle.access.specs.Place.{place_of}
use Rattle.access.specs.Access.{access_answer}

-- REV reads 1 in revision 1, and else 2. CONTROL has bits 0 (on) and 1 (interrupts). ACCELERATION reads in revision 1, and else 0.
-- The words of the event area and of the entry page read as the bytes there.
abbrev pub value_of : Geometry → Device → List ℕ → List ℕ → ℕ → Place → ℕ
value_of geometry device area page offset Magic = 0x584D4F55
value_of geometry device area page offset Rev = cond (is_revision1 device.registers) 1 2
value_of geometry device area page offset Control = bit_of device.registers.on + 2 * bit_of device.registers.interrupts
value_of geometry device area page offset EventSize = geometry.record_size
value_of geometry device area page offset Npages = geometry.pages
value_of geometry device area page offset Acceleration = cond (is_revision1 device.registers) device.registers.acceleration 0
value_of geometry device area page offset Isr = bit_of device.registers.isr
value_of geometry device area page offset ConfSize = geometry.entry_size
value_of geometry device area page offset ClientRev = device.registers.client_rev
value_of geometry device area page offset ReadPtr = u32_at area 0
value_of geometry device area page offset EventArea = u32_at area (offset - 0x1000)
value_of geometry device area page offset EntryPage = u32_at page (offset - (0x1000 + area_length geometry))
value_of geometry device area page offset Nothing = 0

-- A read by what it came to, as C is told of it.
abbrev pub told : Result ℕ Refusal → Value
told (Ok value) = record { answer = done; value = value }
told (Err refusal) = record { answer = number_of refusal; value = 0 }

unfoldable pub read_of : Geometry → Device → List ℕ → List ℕ → ℕ → ℕ → Value
read_of geometry device area page offset width =
    cond (eqb (access_answer geometry device (length area) (length page) false offset width) done)
    (record { answer = done; value = value_of geometry device area page offset (place_of geometry offset) })
    (record { answer = access_answer geometry device (length area) (length page) false offset width; value = 0 })
