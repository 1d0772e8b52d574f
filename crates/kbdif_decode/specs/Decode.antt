-- The event that 40 bytes hold, and when they are badly formed (01, "kbdif ring and nodes").
use Rattle.std.specs.Prelude.{ℕ, ◌+◌, Bool, false, not, ◌&&◌, cond, List, [], ◌∷◌, leb, ltb, eqb, ℤ, length, get_or}
use Rattle.std.specs.Int.{w16, w32}
use Rattle.answers.specs.Answers.{done, malformed}
use Rattle.answers.specs.Refusals.{first_refusal}
use Rattle.words.specs.Words.{u16_at, u32_at}
use Rattle.signed.specs.Signed.{from_bits}
use Rattle.kbdif_events.specs.declared.RingEvent.{RingEvent}
use Rattle.kbdif_events.specs.declared.RingEvent.TheVariants.{Motion, Key, Pos, TouchDown, TouchUp, TouchMotion}
use Rattle.kbdif_events.specs.declared.RingEvent.TheVariants.{TouchSyn, TouchShape, TouchOrient, Unknown}
use Rattle.kbdif_events.specs.Types.{xenkbd_type_motion, xenkbd_type_key, xenkbd_type_pos, xenkbd_type_mtouch, xenkbd_mt_ev_down}
use Rattle.kbdif_events.specs.Types.{xenkbd_mt_ev_up, xenkbd_mt_ev_motion, xenkbd_mt_ev_syn, xenkbd_mt_ev_shape, xenkbd_mt_ev_orient}
use Rattle.kbdif_events.specs.Event.{layout_of, contact_of, known}
use Rattle.kbdif_decode.specs.Reserved.{zero_outside}

-- The signed number that begins at a byte.
abbrev pub i32_at : List ℕ → ℕ → ℤ
i32_at bytes at = from_bits w32 (u32_at bytes at)

abbrev pub i16_at : List ℕ → ℕ → ℤ
i16_at bytes at = from_bits w16 (u16_at bytes at)

-- What a table has for a number, or else the last thing given.
unfoldable pub lookup : ℕ → List (ℕ × RingEvent) → RingEvent → RingEvent
lookup number [] other = other
lookup number ((key, event) ∷ rest) other = cond (eqb number key) event (lookup number rest other)

-- A touch, by its subtype.
unfoldable pub touch_at : List ℕ → RingEvent
touch_at bytes =
    lookup (get_or bytes 1 0)
    ((xenkbd_mt_ev_down, TouchDown (get_or bytes 2 0) (i32_at bytes 8) (i32_at bytes 12))
    ∷ (xenkbd_mt_ev_up, TouchUp (get_or bytes 2 0))
    ∷ (xenkbd_mt_ev_motion, TouchMotion (get_or bytes 2 0) (i32_at bytes 8) (i32_at bytes 12))
    ∷ (xenkbd_mt_ev_syn, TouchSyn (get_or bytes 2 0))
    ∷ (xenkbd_mt_ev_shape, TouchShape (get_or bytes 2 0) (u32_at bytes 8) (u32_at bytes 12))
    ∷ (xenkbd_mt_ev_orient, TouchOrient (get_or bytes 2 0) (i16_at bytes 8))
    ∷ [])
    Unknown

-- An event, by its type. Another type or subtype, whatever its other bytes, is unknown.
unfoldable pub event_at : List ℕ → RingEvent
event_at bytes =
    lookup (get_or bytes 0 0)
    ((xenkbd_type_motion, Motion (i32_at bytes 4) (i32_at bytes 8) (i32_at bytes 12))
    ∷ (xenkbd_type_key, Key (eqb (get_or bytes 1 0) 1) (u32_at bytes 4))
    ∷ (xenkbd_type_pos, Pos (i32_at bytes 4) (i32_at bytes 8) (i32_at bytes 12))
    ∷ (xenkbd_type_mtouch, touch_at bytes)
    ∷ [])
    Unknown

-- Where an event's head ends, and where its fields start and end. All other bytes are reserved.
pub record Extent : Type 0 where
  pub head : ℕ
  pub start : ℕ
  pub end : ℕ

abbrev pub extent : ℕ → ℕ → ℕ → Extent
extent head start end = record { head = head; start = start; end = end }

unfoldable pub extent_of : RingEvent → Extent
extent_of event =
    extent (length (layout_of event).head) (layout_of event).start ((layout_of event).start + length (layout_of event).fields)

-- The reserved bytes of an event.
unfoldable pub reserved_is_zero : List ℕ → RingEvent → Bool
reserved_is_zero bytes event = zero_outside bytes (extent_of event).head (extent_of event).start (extent_of event).end

-- Pressed above 1.
abbrev pub pressed_above_one : List ℕ → Bool
pressed_above_one bytes = eqb (get_or bytes 0 0) xenkbd_type_key && ltb 1 (get_or bytes 1 0)

-- A nonzero reserved byte, pressed above 1, or a contact at or above the limit is 9.
abbrev pub event_refusals : List ℕ → ℕ → List (Bool × ℕ)
event_refusals bytes contact_limit =
    (not (reserved_is_zero bytes (event_at bytes)), malformed)
    ∷ (pressed_above_one bytes, malformed)
    ∷ (leb contact_limit (contact_of (event_at bytes)), malformed)
    ∷ []

-- What 40 bytes hold: an event, unknown or not, or the number that refuses them.
pub data Decoded : Type 0 where
  Event : RingEvent → Decoded
  Refused : ℕ → Decoded

-- An answer that holds an event is 0, a refusal its own number.
abbrev pub number_of : Decoded → ℕ
number_of (Event event) = done
number_of (Refused number) = number

-- The answer of a call by its number: the event where nothing is refused.
abbrev pub answered : ℕ → RingEvent → Decoded
answered number event = cond (eqb number done) (Event event) (Refused number)

-- What decode answers: the event, unknown or not, or 9.
abbrev pub decoded : List ℕ → ℕ → Decoded
decoded bytes contact_limit = answered (first_refusal (event_refusals bytes contact_limit)) (event_at bytes)

-- A known and well-formed event may be put.
abbrev pub may_be_put : Decoded → Bool
may_be_put (Event event) = known event
may_be_put (Refused number) = false
