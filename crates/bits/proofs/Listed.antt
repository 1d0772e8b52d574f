-- The bits of a mask as a list: how many there are, and that a mask has none just where it is 0.
use Prim.Native.Nat.{ℕ, zero, suc, ◌+◌, ◌/◌, ◌%◌, ◌^◌, ◌≤◌, ◌<◌}
use mathlib.Core.Path.{◌≡◌, refl, sym, ap, ◌∙◌}
use mathlib.Core.Bool.{Bool, true, false, cond}
use mathlib.Core.List.{List, ◌∷◌}
use native.Mathlib.Omega.{arith}
use native.Mathlib.Nat.{div-one, div-div-eq-div-mul, pow-suc}
use lib.Dec.{eqb}
use lib.Count.{ones, ones_step}
use lib.ListN.{length}
use Rattle.bits.specs.Bits.{bit, bit_of, bits_from}

pub bit_at_most_one : (set : Bool) → bit_of set ≤ 1
bit_at_most_one true = omega arith
bit_at_most_one false = omega arith

module _ (mask : ℕ) where
  split_length : (test : Bool) (index : ℕ) (rest : List ℕ) → length (cond test (index ∷ rest) rest) ≡ bit_of test + length rest
  split_length true index rest = omega arith
  split_length false index rest = omega arith

  pub bits_more : (index count : ℕ)
      → length (bits_from mask index (suc count)) ≡ bit_of (bit mask index) + length (bits_from mask (suc index) count)
  unfolding bits_from
  bits_more index count = split_length (bit mask index) index (bits_from mask (suc index) count)

  pub few_bits : (index count : ℕ) → length (bits_from mask index count) ≤ count
  unfolding bits_from
  few_bits index zero = omega arith
  few_bits index (suc count) = omega (arith, bits_more index count, bit_at_most_one (bit mask index), few_bits (suc index) count)

-- ---- how many

lowest : (rest : ℕ) → bit_of (eqb (rest % 2) 1) ≡ rest % 2
lowest rest = go (rest % 2) (omega arith)
  where
    go : (digit : ℕ) → digit < 2 → bit_of (eqb digit 1) ≡ digit
    go zero low = refl
    go (suc zero) low = refl
    go (suc (suc digit)) low = absurd (omega arith)

half : (mask index : ℕ) → mask / 2 ^ suc index ≡ mask / 2 ^ index / 2
half mask index = ap (λ (n : ℕ). mask / n) (pow-suc 2 index) ∙ sym (div-div-eq-div-mul mask (2 ^ index) 2)

no_ones : ones 0 ≡ 0
unfolding ones
no_ones = refl

count_from : (mask index count : ℕ) → mask / 2 ^ index < 2 ^ count → length (bits_from mask index count) ≡ ones (mask / 2 ^ index)
unfolding bit bits_from
count_from mask index zero low =
    let none : mask / 2 ^ index ≡ 0 = omega arith in
    rw none (sym no_ones)
count_from mask index (suc count) low =
    let rest = half mask index in
    let small : mask / 2 ^ suc index < 2 ^ count = rw rest (omega (arith, pow-suc 2 count)) in
    bits_more mask index count
    ∙ rw (lowest (mask / 2 ^ index), count_from mask (suc index) count small, rest) (sym (ones_step (mask / 2 ^ index)))

-- a mask of so many bits has as many in its list as are set
pub bits_count : (mask count : ℕ) → mask < 2 ^ count → length (bits_from mask 0 count) ≡ ones mask
bits_count mask count low =
    let whole : mask / 2 ^ 0 ≡ mask = div-one mask in
    count_from mask 0 count (rw whole low) ∙ ap ones whole
