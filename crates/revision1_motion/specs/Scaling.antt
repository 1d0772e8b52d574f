-- Relative motion (02, E1): a signed 32-bit number, times ACCELERATION / 10, cut towards zero, as 16 bits in two's complement.
use Rattle.std.specs.Prelude.{ℕ, ◌-◌, ◌*◌, ◌/◌, ◌%◌, ◌^◌, Bool, cond, leb}

-- The sign and the size of a signed 32-bit number, by its bits.
abbrev pub is_negative : ℕ → Bool
is_negative value = leb (2 ^ 31) value

abbrev pub size_of : ℕ → ℕ
size_of value = cond (is_negative value) (2 ^ 32 - value) value

-- The size is cut by the division, so the number is cut towards zero.
abbrev pub scaled_size : ℕ → ℕ → ℕ
scaled_size acceleration value = size_of value * acceleration / 10

-- From -32768 to 32767.
unfoldable pub is_in_range : ℕ → ℕ → Bool
is_in_range acceleration value = leb (scaled_size acceleration value) (cond (is_negative value) 32768 32767)

-- The lowest 16 bits of the scaled number.
unfoldable pub scaled : ℕ → ℕ → ℕ
scaled acceleration value =
    let size = scaled_size acceleration value % 65536 in
    cond (is_negative value) ((65536 - size) % 65536) size
