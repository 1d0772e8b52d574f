-- What an entry offers of each type: the definition, read at one type, with the type's own bit first.
use Prim.Native.Nat.{ℕ, ◌<◌}
use mathlib.Core.Path.{◌≡◌, refl, ◌∙◌}
use mathlib.Core.Bool.{Bool, true, false, ◌&&◌}
use mathlib.Core.List.{List}
use native.Mathlib.Omega.{arith}
use lib.Dec.{leb, ltb, eqb}
use borrow.Author.Tests.{ne_eqb}
use Rattle.bits.specs.Bits.{bit}
use Rattle.records.specs.declared.Event.{Event}
use Rattle.records.specs.Codes.{ev_syn, ev_key, ev_rel, ev_abs, syn_mt_report}
use Rattle.entries.specs.Entry.{evbits}
use Rattle.entries.specs.Offer.{absolute_bit, button_bit, offers_code, is_offered}

swapped : (left right : Bool) → (left && right) ≡ (right && left)
swapped true true = refl
swapped true false = refl
swapped false true = refl
swapped false false = refl

module _ (entry : List ℕ) (event : Event) where
  type_first : is_offered entry event ≡ (bit (evbits entry) event.kind && offers_code entry event.kind event.code)
  unfolding is_offered
  type_first = swapped (offers_code entry event.kind event.code) (bit (evbits entry) event.kind)

  pub of_reports : event.kind ≡ ev_syn → is_offered entry event ≡ (bit (evbits entry) ev_syn && eqb event.code syn_mt_report)
  unfolding offers_code
  of_reports h = type_first ∙ rw h

  pub of_buttons : event.kind ≡ ev_key
      → is_offered entry event
      ≡ (bit (evbits entry) ev_key && (leb 0x100 event.code && (leb event.code 0x15F && button_bit entry event.code)))
  unfolding offers_code
  of_buttons h = type_first ∙ rw h

  pub of_relative : event.kind ≡ ev_rel → is_offered entry event ≡ (bit (evbits entry) ev_rel && ltb event.code 32)
  unfolding offers_code
  of_relative h = type_first ∙ rw h

  pub of_absolute : event.kind ≡ ev_abs
      → is_offered entry event ≡ (bit (evbits entry) ev_abs && (ltb event.code 64 && absolute_bit entry event.code))
  unfolding offers_code
  of_absolute h = type_first ∙ rw h

  pub of_others : ev_abs < event.kind → is_offered entry event ≡ false
  unfolding is_offered offers_code
  of_others h = rw (
    ne_eqb event.kind ev_syn (λ e. omega arith),
    ne_eqb event.kind ev_key (λ e. omega arith),
    ne_eqb event.kind ev_rel (λ e. omega arith),
    ne_eqb event.kind ev_abs (λ e. omega arith),
  )

-- what an entry offers, by the type of the event
pub ruleset by_type = (of_reports, of_buttons, of_relative, of_absolute, of_others)
