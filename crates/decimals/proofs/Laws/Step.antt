-- Laws of one byte more: when it is accepted, and what the text says then.
use Prim.Native.Nat.{ℕ, suc, ◌+◌, ◌-◌, ◌*◌, ◌^◌, ◌≤◌, ◌<◌}
use mathlib.Core.Path.{◌≡◌, refl}
use mathlib.Core.Bool.{Bool, true, false, cond, ◌||◌}
use native.Mathlib.Omega.{arith}
use lib.Dec.{ltb}
use Rattle.std.proofs.lemmas.Bool.{or_parts}
use borrow.Author.Tests.{ltb-false, eqb-false, le-ltb, ne_eqb}
use Rattle.std.specs.Prelude.{Ok}
use Rattle.decimals.specs.Numbers.{bad_at, with_digit, no_digit, follows_zero, too_large, spoils, next_number}

-- The byte is a digit, and with it the text says `next`.
pub record Digit (value byte next : ℕ) : Type 0 where
  pub low : 48 ≤ byte
  pub high : byte ≤ 57
  pub more : next ≡ with_digit value byte
  pub small : next < 2 ^ 32

-- ---- a byte that is accepted

module _ (place value byte : ℕ) where
  unspoiled : spoils place value byte ≡ false
      → (ltb byte 48 ≡ false) × (ltb 57 byte ≡ false) × (follows_zero place value ≡ false) × (too_large (with_digit value byte) ≡ false)
  unfolding spoils
  unspoiled h =
      let digit = or_parts (no_digit byte) (follows_zero place value || too_large (with_digit value byte)) h in
      let range = or_parts (ltb byte 48) (ltb 57 byte) digit.0 in
      let rest = or_parts (follows_zero place value) (too_large (with_digit value byte)) digit.1 in
      (range.0, range.1, rest.0, rest.1)

  module _ (next : ℕ) where
    decided : (test : Bool) → cond test (bad_at place) (Ok (with_digit value byte)) ≡ Ok next
        → (test ≡ false) × (next ≡ with_digit value byte)
    decided true h = absurd cc
    decided false h = (refl, cc)

    accepted : next_number place value byte ≡ Ok next → (spoils place value byte ≡ false) × (next ≡ with_digit value byte)
    unfolding next_number
    accepted said = decided (spoils place value byte) said

    pub is_digit : next_number place value byte ≡ Ok next → Digit value byte next
    is_digit said =
        let fine = unspoiled (accepted said).0 in
        let more : next ≡ with_digit value byte = (accepted said).1 in
        record {
          low = ltb-false byte 48 fine.0;
          high = ltb-false 57 byte fine.1;
          more = more;
          small = omega (arith, ltb-false 4294967295 (with_digit value byte) fine.3);
        }

pub some_before : (place value byte next : ℕ) → next_number (suc place) value byte ≡ Ok next → 0 < value
unfolding follows_zero
some_before place value byte next said =
    let fine = unspoiled (suc place) value byte (accepted (suc place) value byte next said).0 in
    let some : value ≡ 0 → ⊥ = eqb-false value 0 (rw (ne_eqb (suc place) 0 (omega arith)) at fine.2) in
    omega arith

-- ---- a digit is accepted

module _ (place value digit : ℕ) (one : digit < 10) (small : value * 10 + digit < 2 ^ 32) where
  pub digit_accepted : follows_zero place value ≡ false → next_number place value (48 + digit) ≡ Ok (value * 10 + digit)
  unfolding next_number spoils
  digit_accepted fine =
      let same : 48 + digit - 48 ≡ digit = omega arith in
      rw (
        le-ltb (48 + digit) 48 (omega arith),
        le-ltb 57 (48 + digit) (omega arith),
        fine,
        same,
        le-ltb 4294967295 (value * 10 + digit) (omega arith),
      )

pub first_fine : (value : ℕ) → follows_zero 0 value ≡ false
unfolding follows_zero
first_fine value = refl

pub later-fine : (place value : ℕ) → 0 < place → 0 < value → follows_zero place value ≡ false
unfolding follows_zero
later-fine place value h some = rw (ne_eqb place 0 (omega arith), ne_eqb value 0 (omega arith))
