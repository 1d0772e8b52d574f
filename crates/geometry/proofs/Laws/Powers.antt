-- The record sizes are from 8 to 64. There they are the powers of two, and a power of two has no bit in common with the number below it.
use Prim.Native.Nat.{ℕ, zero, suc, ◌+◌, ◌-◌, ◌≤◌, ◌<◌}
use mathlib.Core.Path.{◌≡◌, refl, subst}
use mathlib.Core.Bool.{Bool, true, false, ◌&&◌, false≢true}
use native.Mathlib.Omega.{arith}
use lib.Bits.{bit_and}
use lib.Dec.{eqb}
use borrow.Author.Tests.{eqb-true, eqb-false}
use Rattle.geometry.specs.Geometry.{is_record_size}
use Rattle.geometry.proofs.Laws.Allowed.{both}

is_power : ℕ → Bool
is_power size = eqb (bit_and size (size - 1)) 0

agree : Bool → Bool → Bool
agree true b = b
agree false true = false
agree false false = true

agreed : (a b : Bool) → agree a b ≡ true → a ≡ b
unfolding agree
agreed true true h = refl
agreed true false h = absurd (false≢true h)
agreed false true h = absurd (false≢true h)
agreed false false h = refl

-- whether they agree on so many numbers from 8 on
agree_on : ℕ → Bool
agree_on zero = true
agree_on (suc n) = agree (is_power (8 + n)) (is_record_size (8 + n)) && agree_on n

each : (n : ℕ) → agree_on n ≡ true → (k : ℕ) → k < n → is_power (8 + k) ≡ is_record_size (8 + k)
unfolding agree_on
each zero h k low = absurd (omega (arith, low))
each (suc n) h k low =
    let here = both (agree (is_power (8 + n)) (is_record_size (8 + n))) (agree_on n) h in
    go (eqb k n) refl (agreed _ _ here.0) (λ below. each n here.1 k below)
  where
    go : (test : Bool) → eqb k n ≡ test → is_power (8 + n) ≡ is_record_size (8 + n) → (k < n → is_power (8 + k) ≡ is_record_size (8 + k))
        → is_power (8 + k) ≡ is_record_size (8 + k)
    go true e this lower = rw (eqb-true k n e) this
    go false e this lower = lower (omega (arith, low, eqb-false k n e))

on_all : agree_on 57 ≡ true
unfolding agree_on agree is_power is_record_size
on_all = refl

pub powers : (size : ℕ) → 8 ≤ size → size ≤ 64 → eqb (bit_and size (size - 1)) 0 ≡ is_record_size size
unfolding is_power
powers size low high =
    subst (λ (n : ℕ). eqb (bit_and n (n - 1)) 0 ≡ is_record_size n) (omega (arith, low))
    (each 57 on_all (size - 8) (omega (arith, low, high)))
