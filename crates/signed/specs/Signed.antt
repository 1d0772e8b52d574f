-- Two's complement at any width: the upper half of the bit patterns stands for the negative numbers.
use Rattle.std.specs.Prelude.{ℕ, ℤ}
use Rattle.std.specs.Int.{Width}
use Rattle.std.proofs.Common.{to_z, of_z}

-- The signed number of a bit pattern.
abbrev pub from_bits : Width → ℕ → ℤ
from_bits width bits = to_z width bits

-- The bit pattern of a signed number.
abbrev pub to_bits : Width → ℤ → ℕ
to_bits width value = of_z width value
