-- What a decode answers, by the way it goes.
use Prim.Native.Nat.{ℕ}
use mathlib.Core.Path.{◌≡◌, ◌∙◌}
use mathlib.Core.Logic.{◌≢◌}
use mathlib.Core.Bool.{Bool, true, false, not}
use mathlib.Core.List.{List}
use lib.ListN.{length}
use borrow.Author.Tests.{eq-eqb, ne_eqb}
use Rattle.answers.specs.Answers.{invalid}
use Rattle.answers.specs.Refusals.{first_refusal}
use Rattle.kbdif_events.specs.Event.{event_length}
use Rattle.kbdif_decode.specs.Decode.{decoded}
use Rattle.kbdif_page.specs.Page.{is_contact_limit}
use Rattle.kbdif_numbers.specs.Numbers.{no_numbers, found, found_of}
use Rattle.kbdif_numbers.specs.declared.FoundNumbers.{FoundNumbers}
use Rattle.kbdif_calls.specs.Calls.{decoded_of}

module _ (bytes : List ℕ) (contact_limit : ℕ) {answer : FoundNumbers} where
  pub other_length : length bytes ≢ event_length → answer ≡ found invalid no_numbers → answer ≡ found_of (decoded_of bytes contact_limit)
  unfolding first_refusal
  other_length n told = told ∙ rw (ne_eqb (length bytes) event_length n)

  module _ (size : length bytes ≡ event_length) {allowed : Bool} (limit : allowed ≡ is_contact_limit contact_limit) where
    pub bad_limit : not allowed ≡ true → answer ≡ found invalid no_numbers → answer ≡ found_of (decoded_of bytes contact_limit)
    unfolding first_refusal
    bad_limit n told = told ∙ rw (eq-eqb (length bytes) event_length size, ← limit, n)

    pub bytes-decoded : not allowed ≡ false → answer ≡ found_of (decoded bytes contact_limit)
        → answer ≡ found_of (decoded_of bytes contact_limit)
    unfolding first_refusal
    bytes-decoded y told = told ∙ rw (eq-eqb (length bytes) event_length size, ← limit, y)
