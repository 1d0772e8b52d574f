-- An event that is written as numbers comes back.
use mathlib.Core.Path.{◌≡◌, refl}
use Rattle.kbdif_events.specs.declared.RingEvent.{RingEvent}
use Rattle.kbdif_events.specs.declared.RingEvent.TheVariants.{Motion, Key, Pos, TouchDown, TouchUp, TouchMotion}
use Rattle.kbdif_events.specs.declared.RingEvent.TheVariants.{TouchSyn, TouchShape, TouchOrient, Unknown}
use Rattle.kbdif_decode.specs.Decode.{Decoded, Event, Refused, lookup, number_of}
use Rattle.kbdif_numbers.specs.Numbers.{numbers_of, touch_of, event_of, found_of}

pub event-back : (event : RingEvent) → event_of (numbers_of event) ≡ event
unfolding numbers_of event_of touch_of lookup
event-back (Motion x y z) = refl
event-back (Key pressed keycode) = refl
event-back (Pos x y wheel) = refl
event-back (TouchDown contact x y) = refl
event-back (TouchUp contact) = refl
event-back (TouchMotion contact x y) = refl
event-back (TouchSyn contact) = refl
event-back (TouchShape contact major minor) = refl
event-back (TouchOrient contact orientation) = refl
event-back Unknown = refl

-- the number of what was found is its answer
pub found_number : (found : Decoded) → (found_of found).answer ≡ number_of found
found_number (Event event) = refl
found_number (Refused number) = refl
