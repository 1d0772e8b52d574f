-- Laws of an event's layout: the head, then the fields, within the 40 bytes.
use Prim.Native.Nat.{◌≤◌}
use native.Mathlib.Omega.{arith}
use Rattle.kbdif_events.specs.declared.RingEvent.{RingEvent}
use Rattle.kbdif_events.specs.declared.RingEvent.TheVariants.{Motion, Key, Pos, TouchDown, TouchUp, TouchMotion}
use Rattle.kbdif_events.specs.declared.RingEvent.TheVariants.{TouchSyn, TouchShape, TouchOrient, Unknown}
use Rattle.kbdif_events.specs.Event.{event_length, layout_of}
use Rattle.kbdif_decode.specs.Decode.{Extent, extent_of}

pub record Ordered (extent : Extent) : Type 0 where
  pub head_before : extent.head ≤ extent.start
  pub start-before : extent.start ≤ extent.end
  pub inside : extent.end ≤ event_length

pub ordered : (event : RingEvent) → Ordered (extent_of event)
unfolding extent_of layout_of
ordered (Motion x y z) = record { head_before = omega arith; start-before = omega arith; inside = omega arith }
ordered (Key pressed keycode) = record { head_before = omega arith; start-before = omega arith; inside = omega arith }
ordered (Pos x y wheel) = record { head_before = omega arith; start-before = omega arith; inside = omega arith }
ordered (TouchDown contact x y) = record { head_before = omega arith; start-before = omega arith; inside = omega arith }
ordered (TouchUp contact) = record { head_before = omega arith; start-before = omega arith; inside = omega arith }
ordered (TouchMotion contact x y) = record { head_before = omega arith; start-before = omega arith; inside = omega arith }
ordered (TouchSyn contact) = record { head_before = omega arith; start-before = omega arith; inside = omega arith }
ordered (TouchShape contact major minor) = record { head_before = omega arith; start-before = omega arith; inside = omega arith }
ordered (TouchOrient contact orientation) = record { head_before = omega arith; start-before = omega arith; inside = omega arith }
ordered Unknown = record { head_before = omega arith; start-before = omega arith; inside = omega arith }
