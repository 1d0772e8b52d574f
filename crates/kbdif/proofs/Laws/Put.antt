-- Laws of a put, by its answer.
use Prim.Native.Nat.{ℕ, ◌+◌, ◌-◌, ◌≤◌, ◌<◌}
use mathlib.Core.Path.{◌≡◌, ap, ◌∙◌}
use mathlib.Core.Logic.{◌≢◌}
use mathlib.Core.Bool.{Bool, true, not}
use mathlib.Core.List.{List, [], ◌∷◌, ◌++◌}
use native.Mathlib.Omega.{arith}
use native.Mathlib.Decide.{dec_lt}
use lib.Dec.{eqb, ltb}
use lib.ListN.{length, take, drop}
use borrow.Author.Tests.{ne_eqb, lt-ltb, le-ltb, eqb-true, eqb-false, ltb-false, not-false}
use Rattle.answers.specs.Answers.{done, invalid, malformed, bad_index, no_room}
use Rattle.answers.specs.declared.Refusal.{Refusal}
use Rattle.answers.specs.Refusal.{number_of}
use Rattle.answers.specs.Refusals.{first_refusal}
use Rattle.answers.proofs.Laws.{none_holds}
use Rattle.copying.specs.Copying.{overwrite}
use Rattle.kbdif_events.specs.Event.{event_length}
use Rattle.kbdif_decode.specs.Decode.{decoded, may_be_put}
use Rattle.kbdif_page.specs.Page.{page_length, ring_length, in_cons_of, with_in_prod, next_index, distance, event_place, is_contact_limit}
use Rattle.kbdif.specs.Put.{put_refusals, put_answered, put_of}

-- ---- the last tests of a put, of the distance alone

abbrev pub room_refusals : ℕ → List (Bool × ℕ)
room_refusals used = (ltb ring_length used, bad_index) ∷ (eqb used ring_length, no_room) ∷ []

module _ {used number : ℕ} (is : number ≡ used) where
  pub room_left : number < ring_length → first_refusal (room_refusals used) ≡ done
  unfolding first_refusal
  room_left few = rw (le-ltb ring_length used (omega arith), ne_eqb used ring_length (λ e. omega arith))

  pub full : number ≡ ring_length → first_refusal (room_refusals used) ≡ no_room
  unfolding first_refusal
  full e = rw (← is, e)

  pub too_far : ring_length ≤ number → number ≢ ring_length → first_refusal (room_refusals used) ≡ bad_index
  unfolding first_refusal
  too_far many other = elim (dec_lt ring_length used) [
    | yes h ↦ rw (lt-ltb ring_length used h)
    | no h ↦ absurd (other (omega arith))
  ]

-- ---- a refusal is never told as done

pub number_not_done : (refusal : Refusal) → number_of refusal ≡ done → ⊥
number_not_done Refusal.Invalid e = omega arith
number_not_done Refusal.BadAccess e = omega arith
number_not_done Refusal.ReadOnly e = omega arith
number_not_done Refusal.NoRegister e = omega arith
number_not_done Refusal.DeviceOff e = omega arith
number_not_done Refusal.BadSlot e = omega arith
number_not_done Refusal.NoRoom e = omega arith
number_not_done Refusal.NotOffered e = omega arith
number_not_done Refusal.Malformed e = omega arith
number_not_done Refusal.BadIndex e = omega arith
number_not_done Refusal.NothingToRead e = omega arith
number_not_done Refusal.BadSetting e = omega arith

module _ (page : List ℕ) (in_prod contact_limit : ℕ) (event : List ℕ) where
  -- what is known of a put that isn't refused
  pub record Accepted : Type 0 where
    pub is_page_length : length page ≡ page_length
    pub event_size : length event ≡ event_length
    pub limit_allowed : is_contact_limit contact_limit ≡ true
    pub well_formed : may_be_put (decoded event contact_limit) ≡ true
    pub room : distance in_prod (in_cons_of page) < ring_length

  pub accepted : first_refusal (put_refusals page in_prod contact_limit event) ≡ done → Accepted
  accepted h =
      let size = none_holds (not (eqb (length page) page_length)) invalid _ (omega arith) h in
      let long = none_holds (not (eqb (length event) event_length)) invalid _ (omega arith) size.1 in
      let limit = none_holds (not (is_contact_limit contact_limit)) invalid _ (omega arith) long.1 in
      let form = none_holds (not (may_be_put (decoded event contact_limit))) malformed _ (omega arith) limit.1 in
      let index = none_holds (ltb ring_length (distance in_prod (in_cons_of page))) bad_index _ (omega arith) form.1 in
      let full = none_holds (eqb (distance in_prod (in_cons_of page)) ring_length) no_room _ (omega arith) index.1 in
      let few = ltb-false ring_length (distance in_prod (in_cons_of page)) index.0 in
      let other = eqb-false (distance in_prod (in_cons_of page)) ring_length full.0 in
      record {
        is_page_length = eqb-true _ _ (not-false _ size.0);
        event_size = eqb-true _ _ (not-false _ long.0);
        limit_allowed = not-false _ limit.0;
        well_formed = not-false _ form.0;
        room = omega arith;
      }

  -- nothing changes
  pub refused : {number : ℕ} → number ≡ first_refusal (put_refusals page in_prod contact_limit event) → (number ≡ done → ⊥)
      → (record { answer = number; in_prod = in_prod } ≡ (put_of page in_prod contact_limit event).result)
      × (page ≡ (put_of page in_prod contact_limit event).page)
  unfolding put_answered
  refused {number} e some = (rw (← e, ne_eqb number done some), rw (← e, ne_eqb number done some))

  -- the event's place lent and filled
  placed : {at : ℕ} {filled : List ℕ} → length event ≡ event_length → at ≡ event_place in_prod → filled ≡ event
      → take at page ++ (filled ++ drop (at + event_length - at) (drop at page)) ≡ overwrite page (event_place in_prod) event
  unfolding overwrite
  placed size place same =
      let n : event_place in_prod + event_length - event_place in_prod ≡ length event = omega arith in
      rw (place, same, n)

  -- and then in_prod written
  pub put-done : {at next : ℕ} {filled after : List ℕ} → first_refusal (put_refusals page in_prod contact_limit event) ≡ done
      → at ≡ event_place in_prod → filled ≡ event → next ≡ next_index in_prod
      → after ≡ with_in_prod (take at page ++ (filled ++ drop (at + event_length - at) (drop at page))) next
      → (record { answer = done; in_prod = next } ≡ (put_of page in_prod contact_limit event).result)
      × (after ≡ (put_of page in_prod contact_limit event).page)
  unfolding put_answered
  put-done {next = next} none place same following wrote =
      let written = placed (accepted none).event_size place same in
      (rw (none, following), wrote ∙ ap (λ (bytes : List ℕ). with_in_prod bytes next) written ∙ rw (none, following))
