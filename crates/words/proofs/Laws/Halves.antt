-- A word of 64 bits as two of 32: the bytes of its halves are its own.
use Prim.Native.Nat.{ℕ, ◌/◌, ◌%◌}
use mathlib.Core.Path.{◌≡◌}
use native.Mathlib.Omega.{arith}
use Rattle.std.specs.Int.{to_le_bytes, w64}
use Rattle.words.specs.Words.{u64_bytes}

low_byte : (value : ℕ) → value % 4294967296 % 256 ≡ value % 256
low_byte value = omega arith

second : (value : ℕ) → value % 4294967296 / 256 % 256 ≡ value / 256 % 256
second value = omega arith

third : (value : ℕ) → value % 4294967296 / 65536 % 256 ≡ value / 65536 % 256
third value = omega arith

fourth : (value : ℕ) → value % 4294967296 / 16777216 % 256 ≡ value / 16777216 % 256
fourth value = omega arith

fifth : (value : ℕ) → value / 4294967296 / 256 % 256 ≡ value / 1099511627776 % 256
fifth value = omega arith

sixth : (value : ℕ) → value / 4294967296 / 65536 % 256 ≡ value / 281474976710656 % 256
sixth value = omega arith

seventh : (value : ℕ) → value / 4294967296 / 16777216 % 256 ≡ value / 72057594037927936 % 256
seventh value = omega arith

pub both_halves : (value : ℕ) → to_le_bytes w64 value ≡ u64_bytes value
both_halves value = rw (low_byte value, second value, third value, fourth value, fifth value, sixth value, seventh value)
