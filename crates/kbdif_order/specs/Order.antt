-- What is taken is what was put, in order (01, "kbdif ring and nodes").
--
-- Take a zero page, both private indices 0, and one contact limit. Let only these calls change the page, and let fewer
-- than 2^32 puts be accepted, so that neither index wraps. Then after every list of puts and takes, refused ones
-- included, the events taken are a front part of the events put, in order. They are all of them if the last call was a
-- take that answered 11. No call answers 10, and no take 9.
--
-- The limit may be any number: one that isn't 1 to 32 refuses every call. A put may be given any list of numbers.
use Rattle.std.specs.Prelude.{ℕ, ◌<◌, ◌^◌, ◌≡◌, Bool, true, false, not, ◌&&◌, cond, List, [], ◌∷◌, ◌++◌, eqb, length, replicate}
use Rattle.answers.specs.Answers.{done, malformed, bad_index, nothing_to_read}
use Rattle.kbdif_events.specs.declared.RingEvent.{RingEvent}
use Rattle.kbdif_decode.specs.Decode.{Decoded, Event, Refused, event_at}
use Rattle.kbdif_page.specs.Page.{page_length}
use Rattle.kbdif.specs.Put.{put_of}
use Rattle.kbdif.specs.Take.{take_of}

-- ---- calls

-- A put is given an event's bytes.
pub data Call : Type 0 where
  putting : List ℕ → Call
  taking : Call

-- The page, and the index that each end keeps.
pub record Ring : Type 0 where
  pub page : List ℕ
  pub in_prod : ℕ
  pub in_cons : ℕ

unfoldable pub fresh : Ring
fresh = record { page = replicate page_length 0; in_prod = 0; in_cons = 0 }

-- Each call is what its contract says, on the page and the index that the calls before it left.
abbrev pub after : ℕ → Ring → Call → Ring
after contact_limit ring (putting event) = record {
  page = (put_of ring.page ring.in_prod contact_limit event).page;
  in_prod = (put_of ring.page ring.in_prod contact_limit event).result.in_prod;
  in_cons = ring.in_cons;
}
after contact_limit ring taking = record {
  page = (take_of ring.page ring.in_cons contact_limit).page;
  in_prod = ring.in_prod;
  in_cons = (take_of ring.page ring.in_cons contact_limit).in_cons;
}

-- ---- logs, of arguments and answers only

pub data Entry : Type 0 where
  put : List ℕ → ℕ → Entry
  took : Decoded → Entry

abbrev pub entry_of : ℕ → Ring → Call → Entry
entry_of contact_limit ring (putting event) = put event (put_of ring.page ring.in_prod contact_limit event).result.answer
entry_of contact_limit ring taking = took (take_of ring.page ring.in_cons contact_limit).found

unfoldable pub log_of : ℕ → Ring → List Call → List Entry
log_of contact_limit ring [] = []
log_of contact_limit ring (call ∷ calls) = entry_of contact_limit ring call ∷ log_of contact_limit (after contact_limit ring call) calls

-- The events of the puts that were answered 0.
unfoldable pub events_put : List Entry → List RingEvent
events_put [] = []
events_put (put event answer ∷ log) = cond (eqb answer done) (event_at event ∷ events_put log) (events_put log)
events_put (took found ∷ log) = events_put log

-- The events that takes answered.
unfoldable pub events_taken : List Entry → List RingEvent
events_taken [] = []
events_taken (put event answer ∷ log) = events_taken log
events_taken (took (Event event) ∷ log) = event ∷ events_taken log
events_taken (took (Refused number) ∷ log) = events_taken log

-- A take that answered 11.
abbrev pub is_nothing_to_read : Entry → Bool
is_nothing_to_read (put event answer) = false
is_nothing_to_read (took (Event event)) = false
is_nothing_to_read (took (Refused number)) = eqb number nothing_to_read

-- Whether the last entry is one, where `before` tells of the entry before these.
unfoldable pub ends_with_nothing_to_read : Bool → List Entry → Bool
ends_with_nothing_to_read before [] = before
ends_with_nothing_to_read before (entry ∷ log) = ends_with_nothing_to_read (is_nothing_to_read entry) log

-- A put that isn't answered 10, and a take that isn't answered 10 or 9.
abbrev pub is_sound : Entry → Bool
is_sound (put event answer) = not (eqb answer bad_index)
is_sound (took (Event event)) = true
is_sound (took (Refused number)) = not (eqb number bad_index) && not (eqb number malformed)

unfoldable pub all_sound : List Entry → Bool
all_sound [] = true
all_sound (entry ∷ log) = is_sound entry && all_sound log

-- ---- the theorem

-- What was taken, and then what still waits, is what was put. No call finds an impossible index, and no take a badly formed event.
pub record InOrder (log : List Entry) : Type 0 where
  pub waiting : List RingEvent
  pub front : events_taken log ++ waiting ≡ events_put log
  pub whole : ends_with_nothing_to_read false log ≡ true → events_taken log ≡ events_put log
  pub sound : all_sound log ≡ true

abbrev pub Order : Type 0
Order =
    (contact_limit : ℕ) (calls : List Call)
    → length (events_put (log_of contact_limit fresh calls)) < 2 ^ 32
    → InOrder (log_of contact_limit fresh calls)
