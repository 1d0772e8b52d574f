-- The state with one field or one group of fields set. All other definitions but that of a fresh state are built from these, so that a
-- field that is added is spelled in these two alone.
use Rattle.std.specs.Prelude.{ℕ, Bool, true}
use Rattle.revision1_records.specs.declared.Position.{Position}
use Rattle.device.specs.declared.Registers.{Registers}
use Rattle.device.specs.declared.Producer.{Producer}
use Rattle.device.specs.declared.Device.{Device}

-- ---- the groups

abbrev pub with_registers : Registers → Device → Device
with_registers registers device = record { registers = registers; producer = device.producer; taken = device.taken }

abbrev pub with_producer : Producer → Device → Device
with_producer producer device = record { registers = device.registers; producer = producer; taken = device.taken }

abbrev pub with_taken : ℕ → Device → Device
with_taken taken device = record { registers = device.registers; producer = device.producer; taken = taken }

-- ---- the registers

-- CONTROL: bit 0 and bit 1.
abbrev pub with_control : Bool → Bool → Device → Device
with_control on interrupts device =
    with_registers
    (record {
      on = on;
      interrupts = interrupts;
      isr = device.registers.isr;
      client_rev_written = device.registers.client_rev_written;
      client_rev = device.registers.client_rev;
      acceleration = device.registers.acceleration;
    })
    device

abbrev pub with_isr : Bool → Device → Device
with_isr isr device =
    with_registers
    (record {
      on = device.registers.on;
      interrupts = device.registers.interrupts;
      isr = isr;
      client_rev_written = device.registers.client_rev_written;
      client_rev = device.registers.client_rev;
      acceleration = device.registers.acceleration;
    })
    device

-- CLIENT_REV, written while off.
abbrev pub with_client_rev : ℕ → Device → Device
with_client_rev rev device =
    with_registers
    (record {
      on = device.registers.on;
      interrupts = device.registers.interrupts;
      isr = device.registers.isr;
      client_rev_written = true;
      client_rev = rev;
      acceleration = device.registers.acceleration;
    })
    device

abbrev pub with_acceleration : ℕ → Device → Device
with_acceleration acceleration device =
    with_registers
    (record {
      on = device.registers.on;
      interrupts = device.registers.interrupts;
      isr = device.registers.isr;
      client_rev_written = device.registers.client_rev_written;
      client_rev = device.registers.client_rev;
      acceleration = acceleration;
    })
    device

-- ---- the device's end of the ring

abbrev pub with_write_index : ℕ → Device → Device
with_write_index index device =
    with_producer
    (record {
      write_index = index;
      current_slot = device.producer.current_slot;
      position = device.producer.position;
      lost = device.producer.lost;
    })
    device

abbrev pub with_current_slot : ℕ → Device → Device
with_current_slot slot device =
    with_producer
    (record {
      write_index = device.producer.write_index;
      current_slot = slot;
      position = device.producer.position;
      lost = device.producer.lost;
    })
    device

abbrev pub with_position : Position → Device → Device
with_position position device =
    with_producer
    (record {
      write_index = device.producer.write_index;
      current_slot = device.producer.current_slot;
      position = position;
      lost = device.producer.lost;
    })
    device

abbrev pub with_lost : Bool → Device → Device
with_lost lost device =
    with_producer
    (record {
      write_index = device.producer.write_index;
      current_slot = device.producer.current_slot;
      position = device.producer.position;
      lost = lost;
    })
    device
