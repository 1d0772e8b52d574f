-- The events of the keyboard ring and their 40 bytes (01, "kbdif ring and nodes"; 003).
use Rattle.std.specs.Prelude.{ℕ, ◌+◌, ◌-◌, Bool, true, false, cond, List, [], ◌∷◌, ◌++◌, ℤ, length, take, drop, replicate}
use Rattle.std.specs.Int.{w8, w16, w32}
use Rattle.std.proofs.Common.{Fits, SFits}
use Rattle.words.specs.Words.{u16_bytes, u32_bytes}
use Rattle.signed.specs.Signed.{to_bits}
use Rattle.kbdif_events.specs.Types.{xenkbd_type_motion, xenkbd_type_key, xenkbd_type_pos, xenkbd_type_mtouch}
use Rattle.kbdif_events.specs.Types.{xenkbd_mt_ev_down, xenkbd_mt_ev_up, xenkbd_mt_ev_motion}
use Rattle.kbdif_events.specs.Types.{xenkbd_mt_ev_syn, xenkbd_mt_ev_shape, xenkbd_mt_ev_orient}
use Rattle.kbdif_events.specs.declared.EventWords.{EventWords}
use Rattle.kbdif_events.specs.declared.RingEvent.{RingEvent}
use Rattle.kbdif_events.specs.declared.RingEvent.TheVariants.{Motion, Key, Pos, Unknown}
use Rattle.kbdif_events.specs.declared.RingEvent.TheVariants.{TouchDown, TouchUp, TouchMotion, TouchSyn, TouchShape, TouchOrient}

abbrev pub event_length : ℕ
event_length = 40

abbrev pub zeros : ℕ → List ℕ
zeros count = replicate count 0

-- The bytes from one place up to another.
abbrev pub between : List ℕ → ℕ → ℕ → List ℕ
between bytes from until = take (until - from) (drop from bytes)

-- The bytes of a signed field, in two's complement.
abbrev pub i32_bytes : ℤ → List ℕ
i32_bytes value = u32_bytes (to_bits w32 value)

abbrev pub i16_bytes : ℤ → List ℕ
i16_bytes value = u16_bytes (to_bits w16 value)

-- An event's values as bytes: the head from byte 0 on, and the fields from byte `start` on.
pub record Layout : Type 0 where
  pub head : List ℕ
  pub start : ℕ
  pub fields : List ℕ

abbrev layout : List ℕ → ℕ → List ℕ → Layout
layout head start fields = record { head = head; start = start; fields = fields }

-- Byte 0 is the type. A key has pressed at byte 1, a touch its subtype at byte 1 and its contact at byte 2.
-- What is unknown keeps all bytes to itself. It is written as zeros, since no event has type 0.
unfoldable pub layout_of : RingEvent → Layout
layout_of (Motion x y z) = layout (xenkbd_type_motion ∷ []) 4 (i32_bytes x ++ (i32_bytes y ++ i32_bytes z))
layout_of (Key pressed keycode) = layout (xenkbd_type_key ∷ cond pressed 1 0 ∷ []) 4 (u32_bytes keycode)
layout_of (Pos x y wheel) = layout (xenkbd_type_pos ∷ []) 4 (i32_bytes x ++ (i32_bytes y ++ i32_bytes wheel))
layout_of (TouchDown contact x y) = layout (xenkbd_type_mtouch ∷ xenkbd_mt_ev_down ∷ contact ∷ []) 8 (i32_bytes x ++ i32_bytes y)
layout_of (TouchUp contact) = layout (xenkbd_type_mtouch ∷ xenkbd_mt_ev_up ∷ contact ∷ []) 8 []
layout_of (TouchMotion contact x y) = layout (xenkbd_type_mtouch ∷ xenkbd_mt_ev_motion ∷ contact ∷ []) 8 (i32_bytes x ++ i32_bytes y)
layout_of (TouchSyn contact) = layout (xenkbd_type_mtouch ∷ xenkbd_mt_ev_syn ∷ contact ∷ []) 8 []
layout_of (TouchShape contact major minor) =
    layout (xenkbd_type_mtouch ∷ xenkbd_mt_ev_shape ∷ contact ∷ []) 8 (u32_bytes major ++ u32_bytes minor)
layout_of (TouchOrient contact orientation) = layout (xenkbd_type_mtouch ∷ xenkbd_mt_ev_orient ∷ contact ∷ []) 8 (i16_bytes orientation)
layout_of Unknown = layout (zeros event_length) event_length []

-- All other bytes are zero.
abbrev pub padded : List ℕ → ℕ → List ℕ → List ℕ
padded head start fields =
    head ++ (zeros (start - length head) ++ (fields ++ zeros (event_length - (start + length fields))))

-- The bytes whose first sixteen are these words.
unfoldable pub words_bytes : EventWords → List ℕ
words_bytes words =
    u32_bytes words.head ++ (u32_bytes words.first ++ (u32_bytes words.second ++ (u32_bytes words.third ++ zeros 24)))

unfoldable pub event_bytes : RingEvent → List ℕ
event_bytes event = padded (layout_of event).head (layout_of event).start (layout_of event).fields

-- The contact of a touch. For anything else 0, which every contact limit allows.
abbrev pub contact_of : RingEvent → ℕ
contact_of (Motion x y z) = 0
contact_of (Key pressed keycode) = 0
contact_of (Pos x y wheel) = 0
contact_of (TouchDown contact x y) = contact
contact_of (TouchUp contact) = contact
contact_of (TouchMotion contact x y) = contact
contact_of (TouchSyn contact) = contact
contact_of (TouchShape contact major minor) = contact
contact_of (TouchOrient contact orientation) = contact
contact_of Unknown = 0

abbrev pub known : RingEvent → Bool
known (Motion x y z) = true
known (Key pressed keycode) = true
known (Pos x y wheel) = true
known (TouchDown contact x y) = true
known (TouchUp contact) = true
known (TouchMotion contact x y) = true
known (TouchSyn contact) = true
known (TouchShape contact major minor) = true
known (TouchOrient contact orientation) = true
known Unknown = false

-- Numbers within the widths of the fields: any event that code can hold.
abbrev pub EventFits : RingEvent → Type 0
EventFits (Motion x y z) = SFits w32 x × SFits w32 y × SFits w32 z
EventFits (Key pressed keycode) = Fits w32 keycode
EventFits (Pos x y wheel) = SFits w32 x × SFits w32 y × SFits w32 wheel
EventFits (TouchDown contact x y) = Fits w8 contact × SFits w32 x × SFits w32 y
EventFits (TouchUp contact) = Fits w8 contact
EventFits (TouchMotion contact x y) = Fits w8 contact × SFits w32 x × SFits w32 y
EventFits (TouchSyn contact) = Fits w8 contact
EventFits (TouchShape contact major minor) = Fits w8 contact × Fits w32 major × Fits w32 minor
EventFits (TouchOrient contact orientation) = Fits w8 contact × SFits w16 orientation
EventFits Unknown = Unit
