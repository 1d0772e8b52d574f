-- Bytes and little-endian words. A buffer is the list of its bytes (01: all numbers in pages are little-endian).
use Rattle.std.specs.Prelude.{ℕ, ◌+◌, ◌*◌, ◌/◌, ◌%◌, ◌<◌, List, [], ◌∷◌, ◌++◌, get_or}
use Rattle.copying.specs.Copying.{overwrite}

-- The bytes of a word of 16, 32 or 64 bits, lowest first.
abbrev pub u16_bytes : ℕ → List ℕ
u16_bytes value = value % 256 ∷ value / 256 % 256 ∷ []

abbrev pub u32_bytes : ℕ → List ℕ
u32_bytes value = value % 256 ∷ value / 256 % 256 ∷ value / 65536 % 256 ∷ value / 16777216 % 256 ∷ []

abbrev pub u64_bytes : ℕ → List ℕ
u64_bytes value = u32_bytes (value % 4294967296) ++ u32_bytes (value / 4294967296)

-- The word that begins at a byte.
abbrev pub u16_at : List ℕ → ℕ → ℕ
u16_at bytes at = get_or bytes at 0 + get_or bytes (at + 1) 0 * 256

abbrev pub u32_at : List ℕ → ℕ → ℕ
u32_at bytes at =
    get_or bytes at 0
    + get_or bytes (at + 1) 0 * 256
    + get_or bytes (at + 2) 0 * 65536
    + get_or bytes (at + 3) 0 * 16777216

-- The buffer with a word written at a byte.
abbrev pub set_u16 : List ℕ → ℕ → ℕ → List ℕ
set_u16 bytes at value = overwrite bytes at (u16_bytes value)

abbrev pub set_u32 : List ℕ → ℕ → ℕ → List ℕ
set_u32 bytes at value = overwrite bytes at (u32_bytes value)

abbrev pub set_u64 : List ℕ → ℕ → ℕ → List ℕ
set_u64 bytes at value = overwrite bytes at (u64_bytes value)

-- Every number is one that a byte can hold.
abbrev pub IsBytes : List ℕ → Type 0
IsBytes bytes = (i : ℕ) → get_or bytes i 0 < 256
