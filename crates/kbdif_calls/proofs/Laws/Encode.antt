-- What an encode answers and leaves, by the way it goes.
use Prim.Native.Nat.{ℕ}
use mathlib.Core.Path.{◌≡◌, sym, ap, ◌∙◌}
use mathlib.Core.Logic.{◌≢◌}
use mathlib.Core.Bool.{Bool, true, false, not}
use mathlib.Core.List.{List}
use lib.ListN.{length}
use borrow.Author.Tests.{eq-eqb, ne_eqb}
use Rattle.answers.specs.Answers.{done, invalid, malformed}
use Rattle.answers.specs.Refusals.{first_refusal}
use Rattle.kbdif_events.specs.Event.{event_length, event_bytes, known}
use Rattle.kbdif_events.specs.declared.RingEvent.{RingEvent}
use Rattle.kbdif_numbers.specs.Numbers.{event_of}
use Rattle.kbdif_calls.specs.Calls.{encode_answer, encoded_bytes}
use Rattle.kbdif_numbers.specs.declared.RingNumbers.{RingNumbers}

module _ (out : List ℕ) (numbers : RingNumbers) where
  abbrev Encodes : ℕ → List ℕ → Type 0
  Encodes answer after = (answer ≡ encode_answer out numbers) × (after ≡ encoded_bytes out numbers)

  pub wrong_length : length out ≢ event_length → Encodes invalid out
  unfolding encode_answer encoded_bytes first_refusal
  wrong_length n = (rw (ne_eqb (length out) event_length n), rw (ne_eqb (length out) event_length n))

  module _ {event : RingEvent} {sure : Bool} (size : length out ≡ event_length) (e : event ≡ event_of numbers)
      (k : sure ≡ known event) where
    known_is : known (event_of numbers) ≡ sure
    known_is = sym (k ∙ ap known e)

    pub unknown : not sure ≡ true → Encodes malformed out
    unfolding encode_answer encoded_bytes first_refusal
    unknown n = (rw (eq-eqb (length out) event_length size, known_is, n), rw (eq-eqb (length out) event_length size, known_is, n))

    pub encoded : {after : List ℕ} → not sure ≡ false → after ≡ event_bytes event → Encodes done after
    unfolding encode_answer encoded_bytes first_refusal
    encoded y w = (rw (eq-eqb (length out) event_length size, known_is, y), w ∙ rw (eq-eqb (length out) event_length size, known_is, y, e))
