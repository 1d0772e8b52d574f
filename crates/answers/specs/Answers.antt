-- The numbers that a caller can get (01, "Numbers a caller can get").
use Rattle.std.specs.Prelude.{ℕ}

abbrev pub done : ℕ
done = 0

-- Geometry outside its bounds, a lent buffer of another length, or a state that breaks a rule.
abbrev pub invalid : ℕ
invalid = 1

-- Access not 4 bytes wide, not at a multiple of 4, or past the BAR.
abbrev pub bad_access : ℕ
bad_access = 2

-- Write to a read-only place.
abbrev pub read_only : ℕ
read_only = 3

-- No register at this offset of the first page.
abbrev pub no_register : ℕ
no_register = 4

-- Packet while the device is off.
abbrev pub device_off : ℕ
device_off = 5

-- Slot out of range; add to a taken slot; remove, packet or lookup on an absent one.
abbrev pub bad_slot : ℕ
bad_slot = 6

-- Too little room.
abbrev pub no_room : ℕ
no_room = 7

-- An event that the slot doesn't offer.
abbrev pub not_offered : ℕ
not_offered = 8

-- Badly formed packet, entry, event or record.
abbrev pub malformed : ℕ
malformed = 9

-- The other end's index is impossible.
abbrev pub bad_index : ℕ
bad_index = 10

-- Nothing to read.
abbrev pub nothing_to_read : ℕ
nothing_to_read = 11

-- Bad node text or settings.
abbrev pub bad_setting : ℕ
bad_setting = 12
