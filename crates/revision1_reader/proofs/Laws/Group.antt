-- The records of a packet with a form: each fits its fields, none before the last is a FENCE, and the position stays within 16 bits.
use Prim.Native.Nat.{ℕ, ◌^◌, ◌≤◌, ◌<◌}
use mathlib.Core.Path.{◌≡◌, refl}
use mathlib.Core.Bool.{Bool, true, false}
use mathlib.Core.List.{List, [], ◌∷◌, ◌++◌}
use native.Mathlib.Omega.{arith}
use lib.Dec.{leb, eqb}
use borrow.Author.Tests.{leb-true}
use Rattle.answers.proofs.Choice.{either}
use Rattle.bits.specs.Bits.{bit}
use Rattle.geometry.proofs.Laws.Allowed.{both}
use Rattle.records.specs.declared.Event.{Event}
use Rattle.records.specs.Event.{EventFits, AllFit}
use Rattle.records.specs.Codes.{ev_rel, rel_wheel, btn_left, btn_right}
use Rattle.records.specs.Put.{record_if}
use Rattle.revision1_gestures.specs.declared.Axis.{Axis}
use Rattle.revision1_gestures.specs.declared.Gesture.{Gesture}
use Rattle.revision1_records.specs.declared.Position.{Position}
use Rattle.revision1_records.specs.Flags.{ABSOLUTE, RELATIVE, VWHEEL, flagged, halves, fence, is_fence, button_flag}
use Rattle.revision1_motion.specs.Scaling.{is_negative, scaled}
use Rattle.revision1_gestures.specs.Gesture.{is, is_button, values_of, last_or, gesture_of}
use Rattle.revision1_gestures.specs.Form.{is_position}
use Rattle.revision1_records.specs.Records.{value_or, position_after, has_relative, has_absolute, relative_record, absolute_record}
use Rattle.revision1_records.specs.Records.{button_record, button_records, wheel_record, parts_of, group_of}

-- ---- the position

-- Both coordinates within 16 bits.
pub record PositionFits (position : Position) : Type 0 where
  pub x_fits : position.x < 65536
  pub y_fits : position.y < 65536

value_fits : (last : ℕ) (axis : Axis) → last < 65536 → axis.value ≤ 65535 → value_or last axis < 65536
value_fits last axis low small = either (λ (value : ℕ). value < 65536) axis.given (λ given. omega arith) (λ missing. low)

pub position_fits : {last : Position} (gesture : Gesture) → is_position gesture ≡ true → PositionFits last
    → PositionFits (position_after last gesture)
position_fits {last} gesture small low =
    let parts = both (leb gesture.absolute_x.value 65535) (leb gesture.absolute_y.value 65535) small in
    record {
      x_fits = value_fits last.x gesture.absolute_x low.x_fits (leb-true gesture.absolute_x.value 65535 parts.0);
      y_fits = value_fits last.y gesture.absolute_y low.y_fits (leb-true gesture.absolute_y.value 65535 parts.1);
    }

-- ---- records that may come before a FENCE: they fit, and are none themselves

record Part (event : Event) : Type 0 where
  fits : EventFits event
  plain : is_fence event ≡ false

abbrev AllParts : List Event → Type 0
AllParts [] = Unit {0}
AllParts (event ∷ rest) = Part event × AllParts rest

joined : (first second : List Event) → AllParts first → AllParts second → AllParts (first ++ second)
joined [] second a b = b
joined (event ∷ rest) second a b = (a.0, joined rest second a.1 b)

part : (flags content : ℕ) → flags < 2 ^ 16 → content < 2 ^ 32 → bit flags 2 ≡ false → Part (flagged flags content)
part flags content low small plain = record {
  fits = record { kind_fits = low; code_fits = omega arith; value_fits = small };
  plain = plain;
}

if_parts : (given : Bool) (event : Event) → Part event → AllParts (record_if given event)
if_parts true event p = (p, tt)
if_parts false event p = tt

-- ---- motion

halves_fit : (x y : ℕ) → x < 65536 → y < 65536 → halves x y < 2 ^ 32
halves_fit x y a b = omega arith

scaled_fits : (acceleration value : ℕ) → scaled acceleration value < 65536
unfolding scaled
scaled_fits acceleration value =
    either (λ (half : ℕ). half < 65536) (is_negative value) (λ negative. omega arith) (λ positive. omega arith)

relative_part : (acceleration : ℕ) (gesture : Gesture) → Part (relative_record acceleration gesture)
unfolding bit
relative_part acceleration gesture =
    part RELATIVE _ (omega arith) (halves_fit _ _ (scaled_fits acceleration _) (scaled_fits acceleration _)) refl

absolute_part : {position : Position} → PositionFits position → Part (absolute_record position)
unfolding bit
absolute_part low = part ABSOLUTE _ (omega arith) (halves_fit _ _ low.x_fits low.y_fits) refl

-- ---- buttons

button_part : (event : Event) → Part (button_record event)
unfolding button_flag bit
button_part event =
    let up : Bool = eqb event.value 0 in
    let Of : ℕ → Type 0 = λ flags. Part (flagged flags 0) in
    either Of (eqb event.code btn_left)
    (λ left. either Of up (λ z. part 0x010 0 (omega arith) (omega arith) refl) (λ z. part 0x008 0 (omega arith) (omega arith) refl))
    (λ other.
    either Of (eqb event.code btn_right)
    (λ right. either Of up (λ z. part 0x040 0 (omega arith) (omega arith) refl) (λ z. part 0x020 0 (omega arith) (omega arith) refl))
    (λ middle. either Of up (λ z. part 0x100 0 (omega arith) (omega arith) refl) (λ z. part 0x080 0 (omega arith) (omega arith) refl)))

buttons_parts : (events : List Event) → AllParts (button_records events)
unfolding button_records
buttons_parts [] = tt
buttons_parts (event ∷ rest) =
    joined (record_if (is_button event) (button_record event)) (button_records rest)
    (if_parts (is_button event) (button_record event) (button_part event)) (buttons_parts rest)

-- ---- the wheel: its value is one of the packet's

abbrev AllBelow : ℕ → List ℕ → Type 0
AllBelow bound [] = Unit {0}
AllBelow bound (value ∷ rest) = (value < bound) × AllBelow bound rest

last_below : (bound other : ℕ) (values : List ℕ) → other < bound → AllBelow bound values → last_or other values < bound
unfolding last_or
last_below bound other [] low all = low
last_below bound other (value ∷ rest) low all = last_below bound value rest all.0 all.1

values_below : (kind code : ℕ) (events : List Event) → AllFit events → AllBelow (2 ^ 32) (values_of kind code events)
unfolding values_of
values_below kind code [] fits = tt
values_below kind code (event ∷ rest) fits =
    let others = values_below kind code rest fits.1 in
    either (AllBelow (2 ^ 32)) (is kind code event) (λ same. (fits.0.value_fits, others)) (λ other. others)

wheel_part : (events : List Event) → AllFit events → Part (wheel_record (gesture_of events).wheel)
unfolding gesture_of bit
wheel_part events fits =
    part VWHEEL _ (omega arith)
    (last_below (2 ^ 32) 0 (values_of ev_rel rel_wheel events) (omega arith) (values_below ev_rel rel_wheel events fits)) refl

-- ---- the whole group

-- No FENCE among them.
abbrev pub AllPlain : List Event → Type 0
AllPlain [] = Unit {0}
AllPlain (event ∷ rest) = (is_fence event ≡ false) × AllPlain rest

parts_plain : (records : List Event) → AllParts records → AllPlain records
parts_plain [] all = tt
parts_plain (event ∷ rest) all = (all.0.plain, parts_plain rest all.1)

parts_fit : (records last : List Event) → AllParts records → AllFit last → AllFit (records ++ last)
parts_fit [] last all fits = fits
parts_fit (event ∷ rest) last all fits = (all.0.fits, parts_fit rest last all.1 fits)

module _ (acceleration : ℕ) (last : Position) (events : List Event) (small : is_position (gesture_of events) ≡ true)
    (low : PositionFits last) (fits : AllFit events) where
  all_parts : AllParts (parts_of acceleration last events)
  unfolding parts_of
  all_parts =
      let gesture : Gesture = gesture_of events in
      let relative : Event = relative_record acceleration gesture in
      let absolute : Event = absolute_record (position_after last gesture) in
      let wheels : List Event = record_if gesture.wheel.given (wheel_record gesture.wheel) in
      joined (record_if (has_relative gesture) relative) (record_if (has_absolute gesture) absolute ++ (button_records events ++ wheels))
      (if_parts (has_relative gesture) relative (relative_part acceleration gesture))
      (joined (record_if (has_absolute gesture) absolute) (button_records events ++ wheels)
      (if_parts (has_absolute gesture) absolute (absolute_part (position_fits gesture small low)))
      (joined (button_records events) wheels (buttons_parts events)
      (if_parts gesture.wheel.given (wheel_record gesture.wheel) (wheel_part events fits))))

  pub parts_are_plain : AllPlain (parts_of acceleration last events)
  parts_are_plain = parts_plain (parts_of acceleration last events) all_parts

  pub group_fits : AllFit (group_of acceleration last events)
  group_fits =
      parts_fit (parts_of acceleration last events) (fence ∷ []) all_parts
      (record { kind_fits = omega arith; code_fits = omega arith; value_fits = omega arith }, tt)
