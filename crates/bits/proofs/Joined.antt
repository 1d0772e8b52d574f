-- Two masks as one, the lower of so many bits: each bit is one of either, and assigning it assigns that one.
use Prim.Native.Nat.{ℕ, suc, ◌+◌, ◌-◌, ◌*◌, ◌/◌, ◌%◌, ◌^◌, ◌<◌}
use mathlib.Core.Path.{◌≡◌, refl, sym, ap, ◌∙◌}
use mathlib.Core.Bool.{Bool, true, false}
use native.Mathlib.Omega.{arith}
use native.Mathlib.Nat.{add_comm, add_assoc, add-mul, add-mul-div_right, mul_assoc, pow-suc}
use lib.Pow.{pow_pos, pow-add, shr-shr, high}
use Rattle.bits.specs.Bits.{bit, assign_bit}
use Rattle.bits.proofs.Laws.{clear_fits}
use Rattle.bits.proofs.Assigned.{assign_set, assign_cleared, assign_added, assign_clear}

module _ (upper width lower : ℕ) where
  abbrev joined : ℕ
  joined = upper * 2 ^ width + lower

  -- below, whole multiples of two are added to the quotient
  pub bit_lower : (index : ℕ) → index < width → bit joined index ≡ bit lower index
  unfolding bit
  bit_lower index inside =
      let more : ℕ = width - suc index in
      let sum : width ≡ suc more + index = omega arith in
      let power : upper * 2 ^ width ≡ upper * 2 ^ more * 2 * 2 ^ index =
      ap (λ (n : ℕ). upper * 2 ^ n) sum
      ∙ ap (λ (n : ℕ). upper * n) (pow-add 2 (suc more) index ∙ ap (λ (n : ℕ). n * 2 ^ index) (pow-suc 2 more))
      ∙ sym (mul_assoc upper (2 ^ more * 2) (2 ^ index)) ∙ ap (λ (n : ℕ). n * 2 ^ index) (sym (mul_assoc upper (2 ^ more) 2)) in
      let quotient : joined / 2 ^ index ≡ lower / 2 ^ index + upper * 2 ^ more * 2 =
      ap (λ (n : ℕ). (n + lower) / 2 ^ index) power ∙ ap (λ (n : ℕ). n / 2 ^ index) (add_comm (upper * 2 ^ more * 2 * 2 ^ index) lower)
      ∙ add-mul-div_right lower (upper * 2 ^ more * 2) {z = 2 ^ index} (pow_pos index) in
      let even : (lower / 2 ^ index + upper * 2 ^ more * 2) % 2 ≡ lower / 2 ^ index % 2 = omega arith in
      rw (quotient, even)

  module _ (low : lower < 2 ^ width) where
    -- above, the lower one is cut off
    pub bit_upper : (index : ℕ) → bit joined (width + index) ≡ bit upper index
    unfolding bit
    bit_upper index =
        let quotient : joined / 2 ^ (width + index) ≡ upper / 2 ^ index =
        sym (shr-shr joined width index) ∙ ap (λ (n : ℕ). n / 2 ^ index) (high upper width low) in
        rw quotient

    pub assign_upper : (index : ℕ) (given : Bool)
        → assign_bit joined (width + index) given ≡ assign_bit upper index given * 2 ^ width + lower
    assign_upper index given = go (bit upper index) refl given
      where
        power : 2 ^ (width + index) ≡ 2 ^ index * 2 ^ width
        power = ap (λ (n : ℕ). 2 ^ n) (add_comm width index) ∙ pow-add 2 index width

        go : (was : Bool) → bit upper index ≡ was → (given : Bool)
            → assign_bit joined (width + index) given ≡ assign_bit upper index given * 2 ^ width + lower
        go true e true = assign_set joined (width + index) (bit_upper index ∙ e) ∙ rw (assign_set upper index e)
        go true e false =
            let whole : upper - 2 ^ index + 2 ^ index ≡ upper = omega (arith, clear_fits upper index e) in
            let split : upper * 2 ^ width ≡ (upper - 2 ^ index) * 2 ^ width + 2 ^ index * 2 ^ width
            = ap (λ (n : ℕ). n * 2 ^ width) (sym whole) ∙ add-mul (upper - 2 ^ index) (2 ^ index) (2 ^ width) in
            assign_cleared joined (width + index) (bit_upper index ∙ e) ∙ rw (assign_cleared upper index e, power) (omega (arith, split))
        go false e true =
            assign_added joined (width + index) (bit_upper index ∙ e)
            ∙ rw (assign_added upper index e, power) (omega (arith, add-mul upper (2 ^ index) (2 ^ width)))
        go false e false = assign_clear joined (width + index) (bit_upper index ∙ e) ∙ rw (assign_clear upper index e)

  pub assign_lower : (index : ℕ) (given : Bool) → index < width
      → assign_bit joined index given ≡ upper * 2 ^ width + assign_bit lower index given
  assign_lower index given inside = go (bit lower index) refl given
    where
      go : (was : Bool) → bit lower index ≡ was → (given : Bool)
          → assign_bit joined index given ≡ upper * 2 ^ width + assign_bit lower index given
      go true e true = assign_set joined index (bit_lower index inside ∙ e) ∙ rw (assign_set lower index e)
      go true e false =
          assign_cleared joined index (bit_lower index inside ∙ e)
          ∙ rw (assign_cleared lower index e) (omega (arith, clear_fits lower index e))
      go false e true =
          assign_added joined index (bit_lower index inside ∙ e)
          ∙ rw (assign_added lower index e) (add_assoc (upper * 2 ^ width) lower (2 ^ index))
      go false e false = assign_clear joined index (bit_lower index inside ∙ e) ∙ rw (assign_clear lower index e)
