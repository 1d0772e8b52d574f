-- A bit that is assigned is as it was given, the others stay, and a mask stays below the power above its bits.
use Prim.Native.Nat.{ℕ, ◌^◌, ◌<◌}
use mathlib.Core.Path.{◌≡◌, refl}
use mathlib.Core.Logic.{◌≢◌}
use mathlib.Core.Bool.{Bool, true, false}
use Rattle.bits.specs.Bits.{bit, with_bit, without_bit, assign_bit}
use Rattle.bits.proofs.Laws.{set_same, set_other, set_below, clear_same, clear_other, clear_below}

-- what it becomes, by what it was
module _ (mask index : ℕ) where
  pub assign_set : bit mask index ≡ true → assign_bit mask index true ≡ mask
  unfolding assign_bit
  assign_set was = rw was

  pub assign_cleared : bit mask index ≡ true → assign_bit mask index false ≡ without_bit mask index
  unfolding assign_bit
  assign_cleared was = rw was

  pub assign_added : bit mask index ≡ false → assign_bit mask index true ≡ with_bit mask index
  unfolding assign_bit
  assign_added was = rw was

  pub assign_clear : bit mask index ≡ false → assign_bit mask index false ≡ mask
  unfolding assign_bit
  assign_clear was = rw was

  -- a claim about each of the four
  by_case : (P : Bool → ℕ → Type 0) → (bit mask index ≡ true → P true mask) → (bit mask index ≡ true → P false (without_bit mask index))
      → (bit mask index ≡ false → P true (with_bit mask index)) → (bit mask index ≡ false → P false mask)
      → (given : Bool) → P given (assign_bit mask index given)
  by_case P kept cleared added clear given = go (bit mask index) refl given
    where
      go : (was : Bool) → bit mask index ≡ was → (given : Bool) → P given (assign_bit mask index given)
      go true e true = rw (assign_set e) (kept e)
      go true e false = rw (assign_cleared e) (cleared e)
      go false e true = rw (assign_added e) (added e)
      go false e false = rw (assign_clear e) (clear e)

  pub assign_same : (given : Bool) → bit (assign_bit mask index given) index ≡ given
  assign_same =
      by_case (λ (given : Bool) (after : ℕ). bit after index ≡ given) (λ e. e) (clear_same mask index) (set_same mask index) (λ e. e)

  pub assign_other : (given : Bool) (other : ℕ) → other ≢ index → bit (assign_bit mask index given) other ≡ bit mask other
  assign_other given other n =
      by_case (λ (given : Bool) (after : ℕ). bit after other ≡ bit mask other) (λ e. refl) (λ e. clear_other mask index e other n)
      (λ e. set_other mask index e other n) (λ e. refl) given

  pub assign_below : (given : Bool) (limit : ℕ) → mask < 2 ^ limit → index < limit → assign_bit mask index given < 2 ^ limit
  assign_below given limit low inside =
      by_case (λ (given : Bool) (after : ℕ). after < 2 ^ limit) (λ e. low) (λ e. clear_below mask index e limit low)
      (λ e. set_below mask index limit low inside e) (λ e. low) given
