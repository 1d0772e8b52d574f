-- Laws of two's complement, at any width.
use Prim.Native.Nat.{ℕ, zero, suc, ◌-◌, ◌+◌, ◌≤◌, ◌<◌, ◌^◌}
use mathlib.Core.Path.{◌≡◌, refl, sym, ap, ◌∙◌, subst}
use mathlib.Core.Bool.{true, false, false≢true}
use native.Mathlib.Omega.{arith}
use lib.Dec.{T}
use lib.IntN.{ℤ, pos, negsuc, nat_abs, ◌-ℤ◌}
use lib.Signed.{non_neg, lt_z}
use borrow.Author.Tests.{ltb-true, le-ltb}
use mir.Syntax.{Width, w8, w16, w32, w64, w128}
use mir.Val.{Fits, SFits, bits, hbits}
use mir.Facts.{to_z_pos, to_z-neg, to_z-of_z, sfits_to_z}
use Rattle.signed.specs.Signed.{from_bits, to_bits}

-- the number of bit patterns, and of those that stand for no negative number
abbrev patterns : Width → ℕ
patterns width = 2 ^ bits width

abbrev half : Width → ℕ
half width = 2 ^ hbits width

two_halves : (width : Width) → patterns width ≡ half width + half width
two_halves w8 = refl
two_halves w16 = refl
two_halves w32 = refl
two_halves w64 = refl
two_halves w128 = refl

-- ---- down from -1

down : (k : ℕ) → negsuc 0 -ℤ pos k ≡ negsuc k
down zero = refl
down (suc k) = ap negsuc (omega arith)

up : (k : ℕ) → negsuc 0 -ℤ negsuc k ≡ pos k
up k = rw (le-ltb (suc k) 1 (omega arith)) (ap pos (omega arith))

-- what a pattern of the upper half counts down to: as far below -1 as it lies below the last pattern
abbrev counted : Width → ℕ → ℤ
counted width n = negsuc 0 -ℤ from_bits width (patterns width - 1 - n)

pub record UpperHalf (width : Width) (n : ℕ) : Type 0 where
  pub small : SFits width (counted width n)
  pub value_is : from_bits width (to_bits width (counted width n)) ≡ from_bits width n

pub upper_half : (width : Width) (n : ℕ) → half width ≤ n → Fits width n → UpperHalf width n
upper_half width n high fits =
    let two = two_halves width in
    let f : n < patterns width = fits.fits in
    let k : ℕ = patterns width - 1 - n in
    let low : k < half width = omega arith in
    let back : patterns width - suc k ≡ n = omega arith in
    let same : counted width n ≡ from_bits width n =
    ap (λ (v : ℤ). negsuc 0 -ℤ v) (to_z_pos width low) ∙ down k ∙ sym (to_z-neg width k low) ∙ ap (from_bits width) back in
    record {
      small = subst (SFits width) (sym same) (sfits_to_z fits);
      value_is =
          ap (λ (v : ℤ). from_bits width (to_bits width v)) same ∙ to_z-of_z (sfits_to_z fits);
    }

-- ---- the bits of a number, by its sign

-- how far a negative number lies below -1
abbrev below : Width → ℤ → ℤ
below width value = negsuc 0 -ℤ from_bits width (to_bits width value)

pub record Negative (width : Width) (value : ℤ) : Type 0 where
  pub small : SFits width (below width value)
  pub cast : T (non_neg (from_bits width (to_bits width (below width value))))
      × Fits width (nat_abs (from_bits width (to_bits width (below width value))))
  pub low : nat_abs (from_bits width (to_bits width (below width value))) ≤ patterns width - 1
  pub bits_are : patterns width - 1 - nat_abs (from_bits width (to_bits width (below width value))) ≡ to_bits width value

pub record NotNegative (width : Width) (value : ℤ) : Type 0 where
  pub cast : T (non_neg (from_bits width (to_bits width value))) × Fits width (nat_abs (from_bits width (to_bits width value)))
  pub bits_are : nat_abs (from_bits width (to_bits width value)) ≡ to_bits width value

pub negative : (width : Width) (value : ℤ) → SFits width value → lt_z (from_bits width (to_bits width value)) (pos 0) ≡ true
    → Negative width value
negative width (pos n) fits h = absurd (omega (arith, ltb-true n 0 (sym (ap (λ (v : ℤ). lt_z v (pos 0)) (to_z-of_z fits)) ∙ h)))
negative width (negsuc n) fits h =
    let two = two_halves width in
    let f : n < half width = fits.sfits in
    let e : below width (negsuc n) ≡ pos n = ap (λ (v : ℤ). negsuc 0 -ℤ v) (to_z-of_z fits) ∙ up n in
    let g : pos n ≡ from_bits width (to_bits width (below width (negsuc n))) =
    sym (ap (λ (v : ℤ). from_bits width (to_bits width v)) e ∙ to_z_pos width f) in
    record {
      small = subst (SFits width) (sym e) (record { sfits = f });
      cast = subst (λ (v : ℤ). T (non_neg v) × Fits width (nat_abs v)) g (tt, record { fits = omega arith });
      low = subst (λ (v : ℤ). nat_abs v ≤ patterns width - 1) g (omega arith);
      bits_are = subst (λ (v : ℤ). patterns width - 1 - nat_abs v ≡ to_bits width (negsuc n)) g (omega arith);
    }

pub not_negative : (width : Width) (value : ℤ) → SFits width value → lt_z (from_bits width (to_bits width value)) (pos 0) ≡ false
    → NotNegative width value
not_negative width (pos n) fits h =
    let two = two_halves width in
    let f : n < half width = fits.sfits in
    let g : pos n ≡ from_bits width n = sym (to_z_pos width f) in
    record {
      cast = subst (λ (v : ℤ). T (non_neg v) × Fits width (nat_abs v)) g (tt, record { fits = omega arith });
      bits_are = subst (λ (v : ℤ). nat_abs v ≡ n) g refl;
    }
not_negative width (negsuc n) fits h = absurd (false≢true (sym h ∙ ap (λ (v : ℤ). lt_z v (pos 0)) (to_z-of_z fits)))
