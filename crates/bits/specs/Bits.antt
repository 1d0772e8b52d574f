-- Numbers as masks of bits, the lowest one bit 0.
use Rattle.std.specs.Prelude.{ℕ, zero, suc, ◌+◌, ◌-◌, ◌*◌, ◌/◌, ◌%◌, ◌^◌, ◌≤◌, ◌<◌, Bool, cond, List, [], ◌∷◌, eqb}

unfoldable pub bit : ℕ → ℕ → Bool
bit mask index = eqb (mask / 2 ^ index % 2) 1

abbrev pub bit_of : Bool → ℕ
bit_of set = cond set 1 0

-- The mask with a bit set that was clear, and with one cleared that was set.
abbrev pub with_bit : ℕ → ℕ → ℕ
with_bit mask index = mask + 2 ^ index

abbrev pub without_bit : ℕ → ℕ → ℕ
without_bit mask index = mask - 2 ^ index

-- The mask with a bit as it is given, whatever it was.
unfoldable pub assign_bit : ℕ → ℕ → Bool → ℕ
assign_bit mask index given =
    cond (bit mask index) (cond given mask (without_bit mask index)) (cond given (with_bit mask index) mask)

-- The bits that are set among so many from an index on, rising.
unfoldable pub bits_from : ℕ → ℕ → ℕ → List ℕ
bits_from mask index zero = []
bits_from mask index (suc count) =
    cond (bit mask index) (index ∷ bits_from mask (suc index) count) (bits_from mask (suc index) count)

-- The least number of bits that hold a mask: none for 0.
pub record IsLength (mask length : ℕ) : Type 0 where
  pub holds : mask < 2 ^ length
  pub least : 2 ^ length ≤ 2 * mask + 1
