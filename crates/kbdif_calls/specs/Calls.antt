-- The ring's calls in numbers: encode and decode. Unlike the layers below they ask nothing of a caller.
use Rattle.std.specs.Prelude.{ℕ, Bool, not, cond, List, [], ◌∷◌, eqb, length}
use Rattle.answers.specs.Answers.{done, invalid, malformed}
use Rattle.answers.specs.Refusals.{first_refusal}
use Rattle.kbdif_events.specs.Event.{event_length, event_bytes, known}
use Rattle.kbdif_decode.specs.Decode.{Decoded, event_at, event_refusals, answered}
use Rattle.kbdif_page.specs.Page.{is_contact_limit}
use Rattle.kbdif_numbers.specs.Numbers.{event_of}
use Rattle.kbdif_numbers.specs.declared.RingNumbers.{RingNumbers}

-- Encode: 1 for an output of another length, 9 for what is unknown.
abbrev pub encode_refusals : List ℕ → RingNumbers → List (Bool × ℕ)
encode_refusals out numbers =
    (not (eqb (length out) event_length), invalid)
    ∷ (not (known (event_of numbers)), malformed)
    ∷ []

unfoldable pub encode_answer : List ℕ → RingNumbers → ℕ
encode_answer out numbers = first_refusal (encode_refusals out numbers)

-- A refusal leaves the output as it was.
unfoldable pub encoded_bytes : List ℕ → RingNumbers → List ℕ
encoded_bytes out numbers = cond (eqb (encode_answer out numbers) done) (event_bytes (event_of numbers)) out

-- Decode: 1 for bytes of another length or a contact limit outside 1 to 32, then 9 for what is badly formed.
abbrev pub decode_refusals : List ℕ → ℕ → List (Bool × ℕ)
decode_refusals bytes contact_limit =
    (not (eqb (length bytes) event_length), invalid)
    ∷ (not (is_contact_limit contact_limit), invalid)
    ∷ event_refusals bytes contact_limit

abbrev pub decoded_of : List ℕ → ℕ → Decoded
decoded_of bytes contact_limit = answered (first_refusal (decode_refusals bytes contact_limit)) (event_at bytes)
