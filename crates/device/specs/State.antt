-- The device's state and its rules (01, "Registers", "State rules"; 02, E1).
use Rattle.std.specs.Prelude.{ℕ, ◌^◌, Bool, false, not, ◌&&◌, ◌||◌, leb, ltb, eqb}
use Rattle.bits.specs.Bits.{bit}
use Rattle.geometry.specs.declared.Geometry.{Geometry}
use Rattle.geometry.specs.Geometry.{ring_length, slot_count}
use Rattle.records.specs.Codes.{no_slot}
use Rattle.revision1_records.specs.Records.{origin}
use Rattle.device.specs.declared.Registers.{Registers}
use Rattle.device.specs.declared.Producer.{Producer}
use Rattle.device.specs.declared.Device.{Device}
use Rattle.device.specs.Revision.{may_run}

-- ---- a fresh device

-- Off, no interrupts, CLIENT_REV 0 and never written, ACCELERATION 10.
abbrev pub fresh_registers : Registers
fresh_registers = record {
  on = false;
  interrupts = false;
  isr = false;
  client_rev_written = false;
  client_rev = 0;
  acceleration = 10;
}

-- The start of the ring: no slot is current, the position is (0, 0), and the lost mark is clear.
abbrev pub fresh_producer : Producer
fresh_producer = record { write_index = 0; current_slot = no_slot; position = origin; lost = false }

-- A device that was never written to: no slot is taken.
abbrev pub fresh_device : Device
fresh_device = record { registers = fresh_registers; producer = fresh_producer; taken = 0 }

-- ---- what is asked of a state

-- Taken slots are a mask, slot 0 its lowest bit.
abbrev pub is_taken : ℕ → ℕ → Bool
is_taken taken slot = bit taken slot

-- ACCELERATION is from 1 to 20.
abbrev pub is_acceleration : ℕ → Bool
is_acceleration value = leb 1 value && leb value 20

-- CLIENT_REV is 0, 1 or 2.
abbrev pub is_client_rev : ℕ → Bool
is_client_rev rev = eqb rev 0 || (eqb rev 1 || eqb rev 2)

-- ---- the rules

-- The private write index is below R.
abbrev pub write_index_rule : Geometry → ℕ → Bool
write_index_rule geometry index = ltb index (ring_length geometry)

-- CLIENT_REV is 0, 1 or 2; it isn't rejected if on, and 0 if never written.
unfoldable pub client_rev_rule : Registers → Bool
client_rev_rule registers =
    is_client_rev registers.client_rev
    && ((not registers.on || may_run registers)
    && (registers.client_rev_written || eqb registers.client_rev 0))

-- ACCELERATION is from 1 to 20 in every state, also where it is hidden.
abbrev pub acceleration_rule : Registers → Bool
acceleration_rule registers = is_acceleration registers.acceleration

-- Taken slots are in range.
abbrev pub taken_rule : Geometry → ℕ → Bool
taken_rule geometry taken = ltb taken (2 ^ slot_count geometry)

-- The current slot is none or taken.
unfoldable pub current_rule : ℕ → ℕ → Bool
current_rule taken slot = eqb slot no_slot || is_taken taken slot

unfoldable pub is_device : Geometry → Device → Bool
is_device geometry device =
    write_index_rule geometry device.producer.write_index
    && (taken_rule geometry device.taken
    && (client_rev_rule device.registers
    && (acceleration_rule device.registers && current_rule device.taken device.producer.current_slot)))
