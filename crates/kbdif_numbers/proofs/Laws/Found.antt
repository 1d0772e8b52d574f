-- What bytes tell by their form is what they are decoded to, as numbers.
use Prim.Native.Nat.{ℕ}
use mathlib.Core.Path.{◌≡◌, refl, sym, ap, ◌∙◌}
use mathlib.Core.Bool.{Bool, true, false}
use mathlib.Core.List.{List}
use lib.ListN.{get_or}
use Rattle.std.specs.Prelude.{Ok, Err}
use Rattle.answers.specs.Answers.{done}
use Rattle.answers.specs.declared.Refusal.{Refusal}
use Rattle.kbdif_events.specs.declared.RingEvent.{RingEvent}
use Rattle.kbdif_events.specs.declared.RingEvent.TheVariants.{Unknown}
use Rattle.kbdif_decode.specs.Decode.{Decoded, Event, touch_at, event_at, decoded}
use Rattle.kbdif_decode.specs.Form.{event_form, form_of, form_told, form_read}
use Rattle.kbdif_decode.specs.declared.Form.{Form as FoundForm}
use Rattle.kbdif_decode.proofs.Laws.Form.{read_back, refused_back}
use Rattle.kbdif_decode.specs.Form.{Form}
use Rattle.kbdif_decode.proofs.Laws.Judged.{judged, fine, decoded_judged}
use Rattle.kbdif_decode.proofs.Laws.Lookup.{Entries, picked}
use Rattle.kbdif_numbers.specs.Numbers.{numbers_of, found, found_of, outcome_found}
use Rattle.kbdif_numbers.specs.declared.RingNumbers.{RingNumbers}
use Rattle.kbdif_numbers.specs.declared.FoundNumbers.{FoundNumbers}
use Rattle.kbdif_numbers.specs.Found.{found_as}

module _ (bytes : List ℕ) where
  -- an event that is read has the numbers that its form reads
  record Told (event : RingEvent) : Type 0 where
    told : found_as (event_form event) bytes ≡ found_of (Event event)

  touch_told : Told (touch_at bytes)
  unfolding touch_at Entries found_as numbers_of
  touch_told =
      picked Told (get_or bytes 1 0) _ Unknown (
        (λ is. record { told = rw is }),
        (
          (λ is. record { told = rw is }),
          (
            (λ is. record { told = rw is }),
            ((λ is. record { told = rw is }), ((λ is. record { told = refl }), ((λ is. record { told = refl }), tt))),
          ),
        ),
      )
      (record { told = refl })

  event_told : Told (event_at bytes)
  unfolding event_at Entries found_as numbers_of
  event_told =
      picked Told (get_or bytes 0 0) _ Unknown (
        (λ is. record { told = rw is }),
        ((λ is. record { told = refl }), ((λ is. record { told = rw is }), ((λ is. touch_told), tt))),
      )
      (record { told = refl })

  judged_told : (good : Bool) {found : Decoded} → found ≡ judged good (event_at bytes) → found_as (form_of found) bytes ≡ found_of found
  unfolding judged found_as
  judged_told true e = rw e event_told.told
  judged_told false e = rw e

  pub found_told : (contact_limit : ℕ) {form : Form} {answer : FoundNumbers}
      → form ≡ form_of (decoded bytes contact_limit) → answer ≡ found_as form bytes → answer ≡ found_of (decoded bytes contact_limit)
  found_told contact_limit is e =
      e ∙ ap (λ (form : Form). found_as form bytes) is ∙ judged_told (fine bytes contact_limit) (decoded_judged bytes contact_limit)

  -- the same by what the code finds: a form, or a refusal
  pub form_found : (contact_limit : ℕ) (form : FoundForm) {numbers : RingNumbers}
      → Ok form ≡ form_told (form_of (decoded bytes contact_limit))
      → found done numbers ≡ found_as (form_read form) bytes → found done numbers ≡ found_of (decoded bytes contact_limit)
  form_found contact_limit form is e = found_told contact_limit (read_back _ form is) e

  pub form_refused : (contact_limit : ℕ) (refusal : Refusal) → Err refusal ≡ form_told (form_of (decoded bytes contact_limit))
      → outcome_found (Err refusal) ≡ found_of (decoded bytes contact_limit)
  unfolding found_as
  form_refused contact_limit refusal is =
      let back = refused_back _ refusal is in
      rw back.1 (found_told contact_limit (sym back.0) refl)
