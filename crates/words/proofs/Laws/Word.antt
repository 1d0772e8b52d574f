-- Laws of words in a buffer, over the offset: what was written is read back, and a word depends on its own bytes alone.
use Prim.Native.Nat.{ℕ, ◌+◌, ◌*◌, ◌/◌, ◌%◌, ◌≤◌, ◌<◌, ◌^◌}
use mathlib.Core.Path.{◌≡◌, sym, ap}
use mathlib.Core.List.{List, ◌++◌}
use native.Mathlib.Omega.{arith}
use native.Mathlib.Nat.{add-zero, add_assoc, div-div-eq-div-mul}
use lib.ListN.{length, get_or}
use Rattle.copying.specs.Copying.{overwrite, Agree}
use Rattle.words.specs.Words.{u16_bytes, u32_bytes, u64_bytes, u16_at, u32_at, set_u16, set_u32}
use Rattle.copying.proofs.Laws.Overwrite.{overwrite_inside}

-- a number is the word that its bytes make
pub u16_digits : (v : ℕ) → v < 2 ^ 16 → u16_at (u16_bytes v) 0 ≡ v
u16_digits v h = omega arith

pub u32_digits : (v : ℕ) → v < 2 ^ 32 → u32_at (u32_bytes v) 0 ≡ v
u32_digits v h =
    let p : v / 256 / 256 ≡ v / 65536 = div-div-eq-div-mul v 256 256 in
    let q : v / 65536 / 256 ≡ v / 16777216 = div-div-eq-div-mul v 65536 256 in
    let high : ℕ = v / 65536 in
    let p' : v / 256 / 256 ≡ high = p in
    let q' : v / 16777216 ≡ high / 256 = sym q in
    rw q' (omega arith)

-- the bytes of a word of 64 bits are those of its halves
pub u64_halves : (low high : ℕ) → low < 2 ^ 32 → u64_bytes (low + high * 4294967296) ≡ u32_bytes low ++ u32_bytes high
u64_halves low high h =
    let value : ℕ = low + high * 4294967296 in
    let lower : value % 4294967296 ≡ low = omega arith in
    let upper : value / 4294967296 ≡ high = omega arith in
    rw (lower, upper)

-- ---- a word is its own bytes

module _ (left right : List ℕ) (at : ℕ) where
  pub agree_u16 : Agree left right at 2 → u16_at left at ≡ u16_at right at
  agree_u16 same = cc (same at (omega arith) (omega arith), same (at + 1) (omega arith) (omega arith))

  pub agree_u32 : Agree left right at 4 → u32_at left at ≡ u32_at right at
  agree_u32 same =
      cc (
        same at (omega arith) (omega arith),
        same (at + 1) (omega arith) (omega arith),
        same (at + 2) (omega arith) (omega arith),
        same (at + 3) (omega arith) (omega arith),
      )

-- ---- a word inside a stretch that was written

module _ (bytes : List ℕ) (at : ℕ) (stretch : List ℕ) (i : ℕ) (h : at ≤ length bytes) where
  byte : (n : ℕ) → i + n < length stretch → get_or (overwrite bytes at stretch) (at + i + n) 0 ≡ get_or stretch (i + n) 0
  byte n k = rw (add_assoc at i n) (overwrite_inside bytes at stretch (i + n) h k)

  first : i < length stretch → get_or (overwrite bytes at stretch) (at + i) 0 ≡ get_or stretch i 0
  first k = overwrite_inside bytes at stretch i h k

  pub u16_inside : i + 2 ≤ length stretch → u16_at (overwrite bytes at stretch) (at + i) ≡ u16_at stretch i
  u16_inside k = cc (first (omega arith), byte 1 (omega arith))

  pub u32_inside : i + 4 ≤ length stretch → u32_at (overwrite bytes at stretch) (at + i) ≡ u32_at stretch i
  u32_inside k = cc (first (omega arith), byte 1 (omega arith), byte 2 (omega arith), byte 3 (omega arith))

-- ---- what was written is read back

module _ (bytes : List ℕ) (at value : ℕ) where
  pub u16_back : value < 2 ^ 16 → at + 2 ≤ length bytes → u16_at (set_u16 bytes at value) at ≡ value
  u16_back fits h =
      let here = ap (u16_at (set_u16 bytes at value)) (add-zero at) in
      omega (arith, here, u16_inside bytes at (u16_bytes value) 0 (omega arith) (omega arith))

  pub u32_back : value < 2 ^ 32 → at + 4 ≤ length bytes → u32_at (set_u32 bytes at value) at ≡ value
  u32_back fits h =
      let here = ap (u32_at (set_u32 bytes at value)) (add-zero at) in
      omega (arith, here, u32_inside bytes at (u32_bytes value) 0 (omega arith) (omega arith), u32_digits value fits)
