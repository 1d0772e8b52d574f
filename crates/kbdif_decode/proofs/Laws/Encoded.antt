-- Decode after encode gives the event back.
use Prim.Native.Nat.{ℕ, ◌<◌}
use mathlib.Core.Path.{◌≡◌, refl, ap, ◌∙◌}
use mathlib.Core.Bool.{true, false}
use lib.IntN.{ℤ}
use lib.ListN.{length}
use mir.Syntax.{w16, w32}
use mir.Val.{SFits}
use mir.Facts.{to_z-of_z, Fits-of_z}
use borrow.Author.Tests.{lt-leb}
use Rattle.answers.specs.Refusals.{first_refusal}
use Rattle.words.specs.Words.{u16_at, u32_at}
use Rattle.words.proofs.Laws.Word.{u16_digits, u32_digits}
use Rattle.signed.specs.Signed.{from_bits, to_bits}
use Rattle.kbdif_events.specs.declared.RingEvent.{RingEvent}
use Rattle.kbdif_events.specs.declared.RingEvent.TheVariants.{Motion, Key, Pos, TouchDown, TouchUp, TouchMotion}
use Rattle.kbdif_events.specs.declared.RingEvent.TheVariants.{TouchSyn, TouchShape, TouchOrient, Unknown}
use Rattle.kbdif_events.specs.Event.{event_length, layout_of, event_bytes, i32_bytes, i16_bytes, contact_of, EventFits}
use Rattle.kbdif_decode.specs.Reserved.{all_zero}
use Rattle.kbdif_decode.specs.Decode.{Event, lookup, touch_at, event_at, extent_of, reserved_is_zero, pressed_above_one, decoded}

pub event-length : (event : RingEvent) → length (event_bytes event) ≡ event_length
unfolding event_bytes layout_of
event-length (Motion x y z) = refl
event-length (Key pressed keycode) = refl
event-length (Pos x y wheel) = refl
event-length (TouchDown contact x y) = refl
event-length (TouchUp contact) = refl
event-length (TouchMotion contact x y) = refl
event-length (TouchSyn contact) = refl
event-length (TouchShape contact major minor) = refl
event-length (TouchOrient contact orientation) = refl
event-length Unknown = refl

-- ---- a field is read back

i32_back : {value : ℤ} → SFits w32 value → from_bits w32 (u32_at (i32_bytes value) 0) ≡ value
i32_back {value} fits = ap (from_bits w32) (u32_digits (to_bits w32 value) (Fits-of_z fits).fits) ∙ to_z-of_z fits

i16_back : {value : ℤ} → SFits w16 value → from_bits w16 (u16_at (i16_bytes value) 0) ≡ value
i16_back {value} fits = ap (from_bits w16) (u16_digits (to_bits w16 value) (Fits-of_z fits).fits) ∙ to_z-of_z fits

event-back : (event : RingEvent) → EventFits event → event_at (event_bytes event) ≡ event
unfolding event_bytes layout_of event_at touch_at lookup
event-back (Motion x y z) fits = λ i. Motion (i32_back fits.0 i) (i32_back fits.1 i) (i32_back fits.2 i)
event-back (Key true keycode) fits = λ i. Key true (u32_digits keycode fits.fits i)
event-back (Key false keycode) fits = λ i. Key false (u32_digits keycode fits.fits i)
event-back (Pos x y wheel) fits = λ i. Pos (i32_back fits.0 i) (i32_back fits.1 i) (i32_back fits.2 i)
event-back (TouchDown contact x y) fits = λ i. TouchDown contact (i32_back fits.1 i) (i32_back fits.2 i)
event-back (TouchUp contact) fits = refl
event-back (TouchMotion contact x y) fits = λ i. TouchMotion contact (i32_back fits.1 i) (i32_back fits.2 i)
event-back (TouchSyn contact) fits = refl
event-back (TouchShape contact major minor) fits = λ i.
    TouchShape contact (u32_digits major fits.1.fits i) (u32_digits minor fits.2.fits i)
event-back (TouchOrient contact orientation) fits = λ i. TouchOrient contact (i16_back fits.1 i)
event-back Unknown fits = refl

-- ---- no reason to refuse

reserved_zero : (event : RingEvent) → reserved_is_zero (event_bytes event) event ≡ true
unfolding event_bytes layout_of extent_of reserved_is_zero all_zero
reserved_zero (Motion x y z) = refl
reserved_zero (Key pressed keycode) = refl
reserved_zero (Pos x y wheel) = refl
reserved_zero (TouchDown contact x y) = refl
reserved_zero (TouchUp contact) = refl
reserved_zero (TouchMotion contact x y) = refl
reserved_zero (TouchSyn contact) = refl
reserved_zero (TouchShape contact major minor) = refl
reserved_zero (TouchOrient contact orientation) = refl
reserved_zero Unknown = refl

pressed_allowed : (event : RingEvent) → pressed_above_one (event_bytes event) ≡ false
unfolding event_bytes layout_of
pressed_allowed (Motion x y z) = refl
pressed_allowed (Key true keycode) = refl
pressed_allowed (Key false keycode) = refl
pressed_allowed (Pos x y wheel) = refl
pressed_allowed (TouchDown contact x y) = refl
pressed_allowed (TouchUp contact) = refl
pressed_allowed (TouchMotion contact x y) = refl
pressed_allowed (TouchSyn contact) = refl
pressed_allowed (TouchShape contact major minor) = refl
pressed_allowed (TouchOrient contact orientation) = refl
pressed_allowed Unknown = refl

pub decode_encoded : (event : RingEvent) (contact_limit : ℕ) → EventFits event → contact_of event < contact_limit
    → decoded (event_bytes event) contact_limit ≡ Event event
unfolding first_refusal
decode_encoded event contact_limit fits inside =
    rw (event-back event fits, reserved_zero event, pressed_allowed event, lt-leb contact_limit (contact_of event) inside)
