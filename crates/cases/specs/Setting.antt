-- The devices, pages and packets that the cases speak of.
use Rattle.std.specs.Prelude.{ℕ, zero, suc, ◌-◌, ◌^◌, false, List, [], ◌++◌, replicate}
use Rattle.words.specs.Words.{set_u32}
use Rattle.geometry.specs.declared.Geometry.{Geometry}
use Rattle.records.specs.Event.{event_bytes}
use Rattle.records.specs.Codes.{ev_rel, rel_x}
use Rattle.records.specs.Ring.{with_read_pointer, with_write_pointer}
use Rattle.device.specs.declared.Device.{Device}
use Rattle.device.specs.Setters.{with_client_rev, with_acceleration}
use Rattle.device.specs.State.{fresh_device}
use Rattle.hotplug.specs.Add.{after_add}
use Rattle.packets.specs.Rule.{after_packet}
use Rattle.switch_on.specs.SwitchOn.{switched_on}

abbrev pub sizes : ℕ → ℕ → ℕ → Geometry
sizes pages record_size entry_size = record { pages = pages; record_size = record_size; entry_size = entry_size }

-- One page of records of 8 bytes, R = 511, and one of records of 64 bytes, R = 63.
abbrev pub fine : Geometry
fine = sizes 1 8 68

abbrev pub coarse : Geometry
coarse = sizes 1 64 68

-- Slot 4 is taken, by a device with SYN and REL.
abbrev pub page : List ℕ
page = set_u32 (replicate 4096 0) 312 5

-- It was added to a fresh device, and CLIENT_REV written.
abbrev pub off : Device
off = with_client_rev 2 (after_add fine 4 fresh_device)

-- It is on, slot 4 is current, and so many records have been put.
abbrev pub on : ℕ → Device
on index = after_packet 4 [] index (switched_on false 0 off)

-- The same device, with CLIENT_REV never written: revision 1. ACCELERATION is 20.
abbrev pub unset : Device
unset = with_acceleration 20 (after_add fine 4 fresh_device)

-- It is on, and so many records have been put.
abbrev pub on_in_revision1 : ℕ → Device
on_in_revision1 index = switched_on false index unset

-- An event area with these pointers.
abbrev pub area : ℕ → ℕ → List ℕ
area read write = with_write_pointer (with_read_pointer (replicate 4096 0) read) write

-- A packet of so many motions.
abbrev pub motions : ℕ → List ℕ
motions zero = []
motions (suc count) = event_bytes (record { kind = ev_rel; code = rel_x; value = 1 }) ++ motions count

-- A packet of one motion.
abbrev pub motion : ℕ → List ℕ
motion value = event_bytes (record { kind = ev_rel; code = rel_x; value = value })

-- A signed number in 32 bits.
abbrev pub minus : ℕ → ℕ
minus size = 2 ^ 32 - size

-- An entry that offers ABS, with one bit in absbits' second word.
abbrev pub absolute : ℕ → List ℕ
absolute mask = set_u32 (set_u32 (replicate 68 0) 40 9) 48 mask
