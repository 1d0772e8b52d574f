-- Records of revision 1 (001, "Event Registers"): 16 bits of flags, 16 of the revision, 32 of data. Such a record is an event as any
-- other: its type is the flags, its code the revision, its value the data. So it is put, stored and read in the same way.
use Rattle.std.specs.Prelude.{ℕ, ◌+◌, ◌*◌, Bool, cond, eqb}
use Rattle.bits.specs.Bits.{bit}
use Rattle.records.specs.declared.Event.{Event}
use Rattle.records.specs.Codes.{btn_left, btn_right}

-- ---- the flags, by 001's names

abbrev pub ABSOLUTE : ℕ
ABSOLUTE = 0x001

abbrev pub RELATIVE : ℕ
RELATIVE = 0x002

abbrev pub FENCE : ℕ
FENCE = 0x004

abbrev pub left_button_down : ℕ
left_button_down = 0x008

abbrev pub left_button_up : ℕ
left_button_up = 0x010

abbrev pub right_button_down : ℕ
right_button_down = 0x020

abbrev pub right_button_up : ℕ
right_button_up = 0x040

abbrev pub middle_button_down : ℕ
middle_button_down = 0x080

abbrev pub middle_button_up : ℕ
middle_button_up = 0x100

abbrev pub VWHEEL : ℕ
VWHEEL = 0x400

-- ---- records

-- The revision of every record is 1.
abbrev pub flagged : ℕ → ℕ → Event
flagged flags content = record { kind = flags; code = 1; value = content }

-- X in the lower 16 bits of the data, Y in the upper ones.
abbrev pub halves : ℕ → ℕ → ℕ
halves x y = x + y * 65536

abbrev pub fence : Event
fence = flagged FENCE 0

-- A FENCE is a record with flag bit 2, whatever else it holds.
abbrev pub is_fence : Event → Bool
is_fence event = bit event.kind 2

-- Left, right and middle button: nonzero is down.
unfoldable pub button_flag : ℕ → ℕ → ℕ
button_flag code value =
    cond (eqb code btn_left) (cond (eqb value 0) left_button_up left_button_down)
    (cond (eqb code btn_right) (cond (eqb value 0) right_button_up right_button_down)
    (cond (eqb value 0) middle_button_up middle_button_down))
