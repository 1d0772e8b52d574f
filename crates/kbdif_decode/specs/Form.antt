-- The form of what 40 bytes hold: which fields there are to read, and where.
use Rattle.std.specs.Prelude.{Result, Ok, Err}
use Rattle.answers.specs.declared.Refusal.{Refusal}
use Rattle.kbdif_events.specs.declared.RingEvent.{RingEvent}
use Rattle.kbdif_events.specs.declared.RingEvent.TheVariants.{Motion, Key, Pos, TouchDown, TouchUp, TouchMotion, TouchSyn, TouchShape}
use Rattle.kbdif_events.specs.declared.RingEvent.TheVariants.{TouchOrient, Unknown}
use Rattle.kbdif_decode.specs.Decode.{Decoded, Event, Refused}
use Rattle.kbdif_decode.specs.declared.Form.{Form as FoundForm}
use Rattle.kbdif_decode.specs.declared.Form.TheVariants as read

-- Which fields an event has, and where. Two say that there is no event to read: it is malformed, or of another type or subtype.
pub data Form : Type 0 where
  Malformed : Form
  UnknownType : Form
  Pointer : Form
  KeyPress : Form
  Place : Form
  Contact : Form
  Axes : Form
  Orientation : Form

-- What the code finds: malformed bytes are refused, and any others have a form.
abbrev pub form_told : Form → Result FoundForm Refusal
form_told Malformed = Err Refusal.Malformed
form_told UnknownType = Ok read.UnknownType
form_told Pointer = Ok read.Pointer
form_told KeyPress = Ok read.KeyPress
form_told Place = Ok read.Place
form_told Contact = Ok read.Contact
form_told Axes = Ok read.Axes
form_told Orientation = Ok read.Orientation

-- A form that the code found, as one of these.
abbrev pub form_read : FoundForm → Form
form_read read.UnknownType = UnknownType
form_read read.Pointer = Pointer
form_read read.KeyPress = KeyPress
form_read read.Place = Place
form_read read.Contact = Contact
form_read read.Axes = Axes
form_read read.Orientation = Orientation

abbrev pub event_form : RingEvent → Form
event_form (Motion x y z) = Pointer
event_form (Key pressed keycode) = KeyPress
event_form (Pos x y wheel) = Pointer
event_form (TouchDown contact x y) = Place
event_form (TouchUp contact) = Contact
event_form (TouchMotion contact x y) = Place
event_form (TouchSyn contact) = Contact
event_form (TouchShape contact major minor) = Axes
event_form (TouchOrient contact orientation) = Orientation
event_form Unknown = UnknownType

abbrev pub form_of : Decoded → Form
form_of (Event event) = event_form event
form_of (Refused number) = Malformed
