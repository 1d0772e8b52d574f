-- A law of tables of events by number.
use Prim.Native.Nat.{ℕ}
use mathlib.Core.Path.{◌≡◌, sym, subst}
use mathlib.Core.Bool.{Bool, cond}
use mathlib.Core.List.{List, [], ◌∷◌}
use native.Mathlib.Decide.{ℕ_discrete}
use borrow.Author.Tests.{eq-eqb, ne_eqb}
use Rattle.kbdif_events.specs.declared.RingEvent.{RingEvent}
use Rattle.kbdif_decode.specs.Decode.{lookup}

-- what holds of every entry that a number can pick, and of the last thing, holds of what is picked
unfoldable pub Entries : (RingEvent → Type 0) → ℕ → List (ℕ × RingEvent) → Type 0
Entries P number [] = Unit
Entries P number ((key, event) ∷ rest) = (number ≡ key → P event) × Entries P number rest

pub picked : (P : RingEvent → Type 0) (number : ℕ) (table : List (ℕ × RingEvent)) (other : RingEvent)
    → Entries P number table → P other → P (lookup number table other)
unfolding lookup Entries
picked P number [] other entries last = last
picked P number ((key, event) ∷ rest) other entries last = elim (ℕ_discrete number key) [
  | yes e ↦ subst Picks (sym (eq-eqb number key e)) (entries.0 e)
  | no n ↦ subst Picks (sym (ne_eqb number key n)) (picked P number rest other entries.1 last)
]
  where
    Picks : Bool → Type 0
    Picks same = P (cond same event (lookup number rest other))
