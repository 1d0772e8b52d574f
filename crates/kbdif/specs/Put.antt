-- Put, the back end's call (01, "kbdif ring and nodes"). It trusts its own in_prod alone, and of the page reads in_cons.
use Rattle.std.specs.Prelude.{ℕ, Bool, not, cond, List, [], ◌∷◌, ltb, eqb, length}
use Rattle.answers.specs.Answers.{done, invalid, malformed, bad_index, no_room}
use Rattle.answers.specs.Refusals.{first_refusal}
use Rattle.copying.specs.Copying.{overwrite}
use Rattle.kbdif_events.specs.Event.{event_length}
use Rattle.kbdif_decode.specs.Decode.{decoded, may_be_put}
use Rattle.kbdif_page.specs.Page.{page_length, ring_length, in_cons_of, with_in_prod, next_index, distance, event_place, is_contact_limit}

-- A put's answer, and the private in_prod after it.
pub record Stored : Type 0 where
  pub answer : ℕ
  pub in_prod : ℕ

-- The order of refusals: 1, 9, 10, and 7 at exactly 51.
abbrev pub put_refusals : List ℕ → ℕ → ℕ → List ℕ → List (Bool × ℕ)
put_refusals page in_prod contact_limit event =
    (not (eqb (length page) page_length), invalid)
    ∷ (not (eqb (length event) event_length), invalid)
    ∷ (not (is_contact_limit contact_limit), invalid)
    ∷ (not (may_be_put (decoded event contact_limit)), malformed)
    ∷ (ltb ring_length (distance in_prod (in_cons_of page)), bad_index)
    ∷ (eqb (distance in_prod (in_cons_of page)) ring_length, no_room)
    ∷ []

-- What a put answers, and the page after it.
pub record PutOutcome : Type 0 where
  pub result : Stored
  pub page : List ℕ

abbrev put_outcome : ℕ → ℕ → List ℕ → PutOutcome
put_outcome answer in_prod page = record { result = record { answer = answer; in_prod = in_prod }; page = page }

-- An event that isn't refused is written in its place, and then in_prod, one further. A refusal changes nothing.
unfoldable pub put_answered : ℕ → List ℕ → ℕ → List ℕ → PutOutcome
put_answered number page in_prod event =
    cond (eqb number done)
    (put_outcome done (next_index in_prod) (with_in_prod (overwrite page (event_place in_prod) event) (next_index in_prod)))
    (put_outcome number in_prod page)

abbrev pub put_of : List ℕ → ℕ → ℕ → List ℕ → PutOutcome
put_of page in_prod contact_limit event = put_answered (first_refusal (put_refusals page in_prod contact_limit event)) page in_prod event
