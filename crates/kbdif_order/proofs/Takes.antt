-- What a take does to a good ring.
use Prim.Native.Nat.{ℕ, suc, ◌-◌, ◌<◌}
use mathlib.Core.Path.{◌≡◌, refl, ap, ◌∙◌}
use mathlib.Core.Bool.{Bool, true, false, not, false≢true}
use mathlib.Core.List.{List, [], ◌∷◌}
use native.Mathlib.Omega.{arith}
use native.Mathlib.Decide.{ℕ_discrete}
use lib.Dec.{ltb, eqb}
use lib.ListN.{length}
use borrow.Author.Tests.{eq-eqb, ne_eqb, le-ltb}
use Rattle.answers.specs.Answers.{invalid, malformed, bad_index, nothing_to_read}
use Rattle.answers.specs.Refusals.{first_refusal}
use Rattle.answers.proofs.Laws.{passed, refused}
use Rattle.kbdif_decode.specs.Decode.{Decoded, Event, Refused, event_at, event_refusals, answered}
use Rattle.kbdif_page.specs.Page.{page_length, ring_length, in_prod_of, with_in_cons, next_index, distance, event_bytes_at}
use Rattle.kbdif_page.specs.Page.{is_contact_limit}
use Rattle.kbdif_page.proofs.Laws.Page.{cons_length, cons_moved, cons_prod, cons_event}
use Rattle.kbdif.specs.Take.{take_number, found_by, take_answered}
use Rattle.kbdif_order.specs.Order.{Ring, taking, after, took, is_nothing_to_read, entry_of, is_sound}
use Rattle.kbdif_order.proofs.Waiting.{events_from, waiting_in, same_events, Good, near}

module _ (contact_limit left : ℕ) (ring : Ring) (good : Good contact_limit left ring) where
  abbrev found : Decoded
  found = found_by ring.page ring.in_cons contact_limit

  -- a take finds the oldest event, or it changes nothing, and an 11 tells of an empty ring
  pub data Taking : Type 0 where
    event : ring.in_cons < ring.in_prod → found ≡ Event (event_at (event_bytes_at ring.page ring.in_cons)) → Taking
    idle : (number : ℕ) → found ≡ Refused number → eqb number malformed ≡ false → is_sound (took (Refused number)) ≡ true
        → (is_nothing_to_read (took (Refused number)) ≡ true → ring.in_prod ≡ ring.in_cons) → Taking

  whole : not (eqb (length ring.page) page_length) ≡ false
  whole = rw (eq-eqb (length ring.page) page_length good.size)

  unread : distance (in_prod_of ring.page) ring.in_cons ≡ ring.in_prod - ring.in_cons
  unread =
      let e = good.early in
      rw good.prod_held (near ring.in_prod ring.in_cons good.ordered (omega arith))

  pub taking_is : Taking
  taking_is = go (is_contact_limit contact_limit) refl
    where
      answer : {number : ℕ} → take_number ring.page ring.in_cons contact_limit ≡ number
          → found ≡ answered number (event_at (event_bytes_at ring.page ring.in_cons))
      answer e = ap (λ (number : ℕ). answered number (event_at (event_bytes_at ring.page ring.in_cons))) e

      go : (allowed : Bool) → is_contact_limit contact_limit ≡ allowed → Taking
      go false e =
          let bad : not (is_contact_limit contact_limit) ≡ true = rw e in
          idle invalid (answer (passed invalid _ whole ∙ refused invalid _ bad)) refl refl (λ h. absurd (false≢true h))
      go true e =
          let o = good.ordered in
          let f = good.few in
          let limit : not (is_contact_limit contact_limit) ≡ false = rw e in
          let index : ltb ring_length (distance (in_prod_of ring.page) ring.in_cons) ≡ false =
          rw unread (le-ltb ring_length (ring.in_prod - ring.in_cons) (omega arith)) in
          let sound = passed invalid _ whole ∙ passed invalid _ limit ∙ passed bad_index _ index in
          elim (ℕ_discrete ring.in_prod ring.in_cons) [
            | yes same ↦
                let zero : ring.in_prod - ring.in_cons ≡ 0 = omega arith in
                idle nothing_to_read (answer (sound ∙ refused nothing_to_read _ (eq-eqb _ 0 (unread ∙ zero)))) refl refl (λ h. same)
            | no n ↦
                let some : eqb (distance (in_prod_of ring.page) ring.in_cons) 0 ≡ false =
                rw unread (ne_eqb (ring.in_prod - ring.in_cons) 0 (λ z. n (omega arith))) in
                event (omega arith) (answer (sound ∙ passed nothing_to_read _ some ∙ good.fine ring.in_cons (omega arith) (omega arith)))
          ]

  -- ---- an event

  abbrev pub emptied : Ring
  emptied = record { page = with_in_cons ring.page (suc ring.in_cons); in_prod = ring.in_prod; in_cons = suc ring.in_cons }

  module _ (some : ring.in_cons < ring.in_prod) (is : found ≡ Event (event_at (event_bytes_at ring.page ring.in_cons))) where
    next_is : next_index ring.in_cons ≡ suc ring.in_cons
    next_is =
        let e = good.early in
        omega arith

    pub take_goes_on : after contact_limit ring taking ≡ emptied
    unfolding take_answered
    take_goes_on = rw (is, next_is)

    pub take-answered : entry_of contact_limit ring taking ≡ took (Event (event_at (event_bytes_at ring.page ring.in_cons)))
    unfolding take_answered
    take-answered = rw is

    pub take_good : Good contact_limit left emptied
    take_good =
        let early = good.early in
        record {
          size = cons_length ring.page good.size (suc ring.in_cons);
          cons_held = cons_moved ring.page good.size (suc ring.in_cons) (omega arith);
          prod_held = cons_prod ring.page good.size (suc ring.in_cons) ∙ good.prod_held;
          ordered = some;
          few = omega (arith, good.few);
          early = omega arith;
          fine = λ index low high.
              ap (λ (bytes : List ℕ). first_refusal (event_refusals bytes contact_limit))
              (cons_event ring.page good.size (suc ring.in_cons) index)
              ∙ good.fine index (omega arith) high;
        }

    pub take_waits : waiting_in ring ≡ event_at (event_bytes_at ring.page ring.in_cons) ∷ waiting_in emptied
    unfolding events_from
    take_waits =
        let n : ring.in_prod - ring.in_cons ≡ suc (ring.in_prod - suc ring.in_cons) = omega arith in
        let kept = same_events emptied.page ring.page (suc ring.in_cons) (ring.in_prod - suc ring.in_cons)
        (λ i low high. cons_event ring.page good.size (suc ring.in_cons) i) in
        rw (n, kept)

  -- ---- no event

  module _ (number : ℕ) (is : found ≡ Refused number) (no-event : eqb number malformed ≡ false) where
    pub take_stays : after contact_limit ring taking ≡ ring
    unfolding take_answered
    take_stays = rw (is, no-event)

    pub take_refused : entry_of contact_limit ring taking ≡ took (Refused number)
    unfolding take_answered
    take_refused = rw (is, no-event)

  pub none_waits : ring.in_prod ≡ ring.in_cons → waiting_in ring ≡ []
  unfolding events_from
  none_waits e =
      let n : ring.in_prod - ring.in_cons ≡ 0 = omega arith in
      rw n
