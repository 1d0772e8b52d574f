-- By type: what the definition asks of the code at once is where the code stands among all that are offered.
use Prim.Native.Nat.{ℕ, ◌<◌}
use mathlib.Core.Path.{◌≡◌, refl, sym, ◌∙◌}
use mathlib.Core.Bool.{Bool, true, false, ◌&&◌, ◌||◌, cond}
use mathlib.Core.List.{List, [], ◌∷◌}
use native.Mathlib.Omega.{arith}
use native.Mathlib.Decide.{dec_lt, ℕ_discrete}
use lib.Dec.{leb, ltb, eqb}
use borrow.Author.Tests.{ne_eqb, le-leb, lt-leb, lt-ltb, le-ltb}
use Rattle.bits.specs.Bits.{bit}
use Rattle.records.specs.declared.Event.{Event}
use Rattle.records.specs.Codes.{ev_syn, ev_key, ev_rel, ev_abs, syn_mt_report}
use Rattle.entries.specs.Entry.{evbits}
use Rattle.entries.specs.Offer.{absolute_bit, button_bit, is_offered}
use Rattle.entries.specs.QuickerOfferTest.{codes_from, offered_codes, is_among, QuickerOfferTest}
use Rattle.entries.proofs.Laws.Codes.{below, above, inside}
use Rattle.entries.proofs.Laws.Offer.{of_reports, of_buttons, of_relative, of_absolute, of_others}

-- without the type's bit the list is empty
gated : (given quick : Bool) (code : ℕ) (codes : List ℕ) → quick ≡ is_among code codes
    → (given && quick) ≡ is_among code (cond given codes [])
unfolding is_among
gated true quick code codes h = h
gated false quick code codes h = refl

empty : (given : Bool) (code : ℕ) → is_among code (cond given [] []) ≡ false
unfolding is_among
empty true code = refl
empty false code = refl

or_false : (given : Bool) → (given || false) ≡ given
or_false true = refl
or_false false = refl

alone : (code only : ℕ) → eqb code only ≡ is_among code (only ∷ [])
unfolding is_among
alone code only = sym (or_false (eqb code only))

module _ (entry : List ℕ) (code : ℕ) where
  buttons : (leb 0x100 code && (leb code 0x15F && button_bit entry code)) ≡ is_among code (codes_from (button_bit entry) 0x100 0x60)
  buttons = elim (dec_lt code 0x100) [
    | yes low ↦ rw (lt-leb 0x100 code low) (sym (below (button_bit entry) code 0x100 0x60 low))
    | no k ↦ elim (dec_lt 0x15F code) [
      | yes high ↦ rw (le-leb 0x100 code (omega arith), lt-leb code 0x15F high)
          (sym (above (button_bit entry) code 0x100 0x60 (omega arith)))
      | no l ↦ rw (le-leb 0x100 code (omega arith), le-leb code 0x15F (omega arith))
          (sym (inside (button_bit entry) code 0x100 0x60 (omega arith) (omega arith)))
    ]
  ]

  relative : ltb code 32 ≡ is_among code (codes_from (λ _. true) 0 32)
  relative = elim (dec_lt code 32) [
    | yes h ↦ rw (lt-ltb code 32 h) (sym (inside (λ _. true) code 0 32 (omega arith) (omega arith)))
    | no h ↦ rw (le-ltb code 32 (omega arith)) (sym (above (λ _. true) code 0 32 (omega arith)))
  ]

  absolute : (ltb code 64 && absolute_bit entry code) ≡ is_among code (codes_from (absolute_bit entry) 0 64)
  absolute = elim (dec_lt code 64) [
    | yes h ↦ rw (lt-ltb code 64 h) (sym (inside (absolute_bit entry) code 0 64 (omega arith) (omega arith)))
    | no h ↦ rw (le-ltb code 64 (omega arith)) (sym (above (absolute_bit entry) code 0 64 (omega arith)))
  ]

module _ (entry : List ℕ) (event : Event) where
  abbrev Listed : Type 0
  Listed = is_offered entry event ≡ is_among event.code (offered_codes entry event.kind)

  reports_listed : event.kind ≡ ev_syn → Listed
  unfolding offered_codes
  reports_listed h = of_reports entry event h ∙ rw h
      (gated (bit (evbits entry) ev_syn) (eqb event.code syn_mt_report) event.code (syn_mt_report ∷ [])
      (alone event.code syn_mt_report))

  buttons_listed : event.kind ≡ ev_key → Listed
  unfolding offered_codes
  buttons_listed h = of_buttons entry event h ∙ rw h
      (gated (bit (evbits entry) ev_key) _ event.code (codes_from (button_bit entry) 0x100 0x60) (buttons entry event.code))

  relative-listed : event.kind ≡ ev_rel → Listed
  unfolding offered_codes
  relative-listed h = of_relative entry event h ∙ rw h
      (gated (bit (evbits entry) ev_rel) _ event.code (codes_from (λ _. true) 0 32) (relative entry event.code))

  absolute-listed : event.kind ≡ ev_abs → Listed
  unfolding offered_codes
  absolute-listed h = of_absolute entry event h ∙ rw h
      (gated (bit (evbits entry) ev_abs) _ event.code (codes_from (absolute_bit entry) 0 64) (absolute entry event.code))

  others_listed : ev_abs < event.kind → Listed
  unfolding offered_codes
  others_listed h = of_others entry event h ∙ rw (
    ne_eqb event.kind ev_syn (λ e. omega arith),
    ne_eqb event.kind ev_key (λ e. omega arith),
    ne_eqb event.kind ev_rel (λ e. omega arith),
    ne_eqb event.kind ev_abs (λ e. omega arith),
  ) (sym (empty (bit (evbits entry) event.kind) event.code))

pub quicker_offer_test : QuickerOfferTest
quicker_offer_test entry event = elim (dec_lt ev_abs event.kind) [
  | yes h ↦ others_listed entry event h
  | no h ↦ elim (ℕ_discrete event.kind ev_syn) [
    | yes k ↦ reports_listed entry event k
    | no k ↦ elim (ℕ_discrete event.kind ev_key) [
      | yes l ↦ buttons_listed entry event l
      | no l ↦ elim (ℕ_discrete event.kind ev_rel) [
        | yes m ↦ relative-listed entry event m
        | no m ↦ absolute-listed entry event (omega arith)
      ]
    ]
  ]
]
