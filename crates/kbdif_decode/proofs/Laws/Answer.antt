-- Laws of an answer: it has the number that it was made of, and holds an event only where that is 0.
use Prim.Native.Nat.{ℕ}
use mathlib.Core.Path.{◌≡◌, sym, ap, ◌∙◌}
use mathlib.Core.Bool.{Bool, cond}
use native.Mathlib.Omega.{arith}
use native.Mathlib.Decide.{ℕ_discrete}
use borrow.Author.Tests.{eq-eqb, ne_eqb}
use Rattle.answers.specs.Answers.{done}
use Rattle.kbdif_events.specs.declared.RingEvent.{RingEvent}
use Rattle.kbdif_decode.specs.Decode.{Event, Refused, answered, number_of}

pub answered-number : (number : ℕ) (event : RingEvent) → number_of (answered number event) ≡ number
answered-number number event = elim (ℕ_discrete number done) [
  | yes e ↦ rw (eq-eqb number done e) (sym e)
  | no n ↦ rw (ne_eqb number done n)
]

pub answered-event : (number : ℕ) (found : RingEvent) {event : RingEvent} → answered number found ≡ Event event
    → (number ≡ 0) × (found ≡ event)
answered-event number found e = elim (ℕ_discrete number 0) [
  | yes z ↦ (z, event_same (ap (λ (b : Bool). cond b (Event found) (Refused number)) (sym (eq-eqb number 0 z)) ∙ e))
  | no z ↦ absurd (never (ap (λ (b : Bool). cond b (Event found) (Refused number)) (sym (ne_eqb number 0 z)) ∙ e))
]
  where
    event_same : {a b : RingEvent} → Event a ≡ Event b → a ≡ b
    event_same e = cc

    never : {n : ℕ} {b : RingEvent} → Refused n ≡ Event b → ⊥
    never e = let z : ◌≡◌ {A = ℕ} 0 1 = cc in omega arith
