-- Where a code is among those of a stretch: just where it lies in the stretch and has its bit.
use Prim.Native.Nat.{ℕ, zero, suc, ◌+◌, ◌≤◌, ◌<◌}
use mathlib.Core.Path.{◌≡◌, refl, sym, ◌∙◌}
use mathlib.Core.Bool.{Bool, true, false, cond}
use mathlib.Core.List.{List, ◌∷◌}
use mathlib.Core.Logic.{◌≢◌}
use native.Mathlib.Omega.{arith}
use native.Mathlib.Decide.{dec_lt, ℕ_discrete}
use borrow.Author.Tests.{eq-eqb, ne_eqb}
use Rattle.entries.specs.QuickerOfferTest.{codes_from, is_among}

-- another code doesn't count, whether or not it is there
passed : (given : Bool) (code first : ℕ) (rest : List ℕ) → code ≢ first
    → is_among code (cond given (first ∷ rest) rest) ≡ is_among code rest
unfolding is_among
passed true code first rest apart = rw (ne_eqb code first apart)
passed false code first rest apart = refl

-- the code itself, which isn't behind it
found : (given : Bool) (code : ℕ) (rest : List ℕ) → is_among code rest ≡ false
    → is_among code (cond given (code ∷ rest) rest) ≡ given
unfolding is_among
found true code rest none = rw (eq-eqb code code refl)
found false code rest none = none

module _ (is_set : ℕ → Bool) (code : ℕ) where
  pub below : (first count : ℕ) → code < first → is_among code (codes_from is_set first count) ≡ false
  unfolding codes_from is_among
  below first zero low = refl
  below first (suc count) low =
      passed (is_set first) code first (codes_from is_set (suc first) count) (λ e. omega arith) ∙ below (suc first) count (omega arith)

  pub above : (first count : ℕ) → first + count ≤ code → is_among code (codes_from is_set first count) ≡ false
  unfolding codes_from is_among
  above first zero high = refl
  above first (suc count) high =
      passed (is_set first) code first (codes_from is_set (suc first) count) (λ e. omega arith) ∙ above (suc first) count (omega arith)

  pub inside : (first count : ℕ) → first ≤ code → code < first + count → is_among code (codes_from is_set first count) ≡ is_set code
  unfolding codes_from
  inside first zero low high = absurd (omega arith)
  inside first (suc count) low high = elim (ℕ_discrete code first) [
    | yes e ↦ rw (sym e) (found (is_set code) code (codes_from is_set (suc code) count) (below (suc code) count (omega arith)))
    | no apart ↦ passed (is_set first) code first (codes_from is_set (suc first) count) apart
        ∙ inside (suc first) count (omega (arith, further low apart)) (omega arith)
  ]
    where
      further : first ≤ code → code ≢ first → suc first ≤ code
      further h k = elim (dec_lt first code) [
        | yes less ↦ less
        | no more ↦ absurd (k (omega arith))
      ]
