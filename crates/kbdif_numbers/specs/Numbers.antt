-- An event of the keyboard ring as plain numbers. Its kind is the type in its 40 bytes, 0 for what is unknown. Numbers that an event
-- doesn't have are zero.
use Rattle.std.specs.Prelude.{ℕ, Bool, false, [], ◌∷◌, ℤ, pos, Result, Ok, Err}
use Rattle.answers.specs.declared.Refusal.{Refusal}
use Rattle.answers.specs.Answers.{done}
use Rattle.answers.specs.Refusal.{number_of}
use Rattle.kbdif_events.specs.Types.{xenkbd_type_motion, xenkbd_type_key, xenkbd_type_pos, xenkbd_type_mtouch, xenkbd_mt_ev_down}
use Rattle.kbdif_events.specs.Types.{xenkbd_mt_ev_up, xenkbd_mt_ev_motion, xenkbd_mt_ev_syn, xenkbd_mt_ev_shape, xenkbd_mt_ev_orient}
use Rattle.kbdif_events.specs.declared.RingEvent.{RingEvent}
use Rattle.kbdif_events.specs.declared.RingEvent.TheVariants.{Motion, Key, Pos, TouchDown, TouchUp, TouchMotion}
use Rattle.kbdif_events.specs.declared.RingEvent.TheVariants.{TouchSyn, TouchShape, TouchOrient, Unknown}
use Rattle.kbdif_decode.specs.Decode.{Decoded, Event, Refused, lookup}
use Rattle.kbdif_numbers.specs.declared.RingNumbers.{RingNumbers}
use Rattle.kbdif_numbers.specs.declared.FoundNumbers.{FoundNumbers}

-- A place, or none. The wheel of a position stands at z.
abbrev pub place_numbers : ℕ → ℕ → ℕ → ℤ → ℤ → ℤ → RingNumbers
place_numbers kind subtype contact x y z = record {
  kind = kind;
  subtype = subtype;
  contact = contact;
  pressed = false;
  x = x;
  y = y;
  z = z;
  keycode = 0;
  major = 0;
  minor = 0;
  orientation = pos 0;
}

abbrev pub no_numbers : RingNumbers
no_numbers = place_numbers 0 0 0 (pos 0) (pos 0) (pos 0)

abbrev pub key_numbers : Bool → ℕ → RingNumbers
key_numbers pressed keycode = record {
  kind = xenkbd_type_key;
  subtype = 0;
  contact = 0;
  pressed = pressed;
  x = pos 0;
  y = pos 0;
  z = pos 0;
  keycode = keycode;
  major = 0;
  minor = 0;
  orientation = pos 0;
}

abbrev pub shape_numbers : ℕ → ℕ → ℕ → RingNumbers
shape_numbers contact major minor = record {
  kind = xenkbd_type_mtouch;
  subtype = xenkbd_mt_ev_shape;
  contact = contact;
  pressed = false;
  x = pos 0;
  y = pos 0;
  z = pos 0;
  keycode = 0;
  major = major;
  minor = minor;
  orientation = pos 0;
}

abbrev pub orient_numbers : ℕ → ℤ → RingNumbers
orient_numbers contact orientation = record {
  kind = xenkbd_type_mtouch;
  subtype = xenkbd_mt_ev_orient;
  contact = contact;
  pressed = false;
  x = pos 0;
  y = pos 0;
  z = pos 0;
  keycode = 0;
  major = 0;
  minor = 0;
  orientation = orientation;
}

unfoldable pub numbers_of : RingEvent → RingNumbers
numbers_of (Motion x y z) = place_numbers xenkbd_type_motion 0 0 x y z
numbers_of (Key pressed keycode) = key_numbers pressed keycode
numbers_of (Pos x y wheel) = place_numbers xenkbd_type_pos 0 0 x y wheel
numbers_of (TouchDown contact x y) = place_numbers xenkbd_type_mtouch xenkbd_mt_ev_down contact x y (pos 0)
numbers_of (TouchUp contact) = place_numbers xenkbd_type_mtouch xenkbd_mt_ev_up contact (pos 0) (pos 0) (pos 0)
numbers_of (TouchMotion contact x y) = place_numbers xenkbd_type_mtouch xenkbd_mt_ev_motion contact x y (pos 0)
numbers_of (TouchSyn contact) = place_numbers xenkbd_type_mtouch xenkbd_mt_ev_syn contact (pos 0) (pos 0) (pos 0)
numbers_of (TouchShape contact major minor) = shape_numbers contact major minor
numbers_of (TouchOrient contact orientation) = orient_numbers contact orientation
numbers_of Unknown = no_numbers

-- Back: a touch by its subtype, an event by its kind. Another kind or subtype is unknown.
unfoldable pub touch_of : RingNumbers → RingEvent
touch_of numbers =
    lookup numbers.subtype
    ((xenkbd_mt_ev_down, TouchDown numbers.contact numbers.x numbers.y)
    ∷ (xenkbd_mt_ev_up, TouchUp numbers.contact)
    ∷ (xenkbd_mt_ev_motion, TouchMotion numbers.contact numbers.x numbers.y)
    ∷ (xenkbd_mt_ev_syn, TouchSyn numbers.contact)
    ∷ (xenkbd_mt_ev_shape, TouchShape numbers.contact numbers.major numbers.minor)
    ∷ (xenkbd_mt_ev_orient, TouchOrient numbers.contact numbers.orientation)
    ∷ [])
    Unknown

unfoldable pub event_of : RingNumbers → RingEvent
event_of numbers =
    lookup numbers.kind
    ((xenkbd_type_motion, Motion numbers.x numbers.y numbers.z)
    ∷ (xenkbd_type_key, Key numbers.pressed numbers.keycode)
    ∷ (xenkbd_type_pos, Pos numbers.x numbers.y numbers.z)
    ∷ (xenkbd_type_mtouch, touch_of numbers)
    ∷ [])
    Unknown

-- What a decode or a take answers, with its number. A refusal has an event of zeros.
abbrev pub found : ℕ → RingNumbers → FoundNumbers
found number event = record { answer = number; event = event }

abbrev pub found_of : Decoded → FoundNumbers
found_of (Event event) = found done (numbers_of event)
found_of (Refused number) = found number no_numbers

-- What the outcome of a decode or a take is answered by.
abbrev pub outcome_found : Result RingNumbers Refusal → FoundNumbers
outcome_found (Ok event) = found done event
outcome_found (Err refusal) = found (number_of refusal) no_numbers
