-- The loop that reads a packet, and what its result tells: the packet's gesture, or that it isn't plain, which leaves it no form.
use Prim.Native.Nat.{ℕ, ◌+◌, ◌≤◌, ◌<◌}
use mathlib.Core.Path.{◌≡◌, refl, sym, ap, ◌∙◌}
use mathlib.Core.Bool.{Bool, true, false, not, ◌&&◌, and_assoc, false≢true}
use mathlib.Core.List.{List, ◌∷◌}
use native.Mathlib.Omega.{arith}
use native.Mathlib.Numerals.{add-one}
use lib.ListN.{length, get_or, drop, drop_of_length-le}
use lib.Seq.{drop-cons}
use Rattle.geometry.proofs.Laws.Allowed.{both}
use Rattle.bits.specs.Bits.{bit_of}
use Rattle.records.specs.declared.Event.{Event}
use Rattle.records.proofs.Laws.Packet.{none}
use Rattle.revision1_gestures.specs.declared.Gesture.{Gesture}
use Rattle.revision1_gestures.specs.Gesture.{is_button, gesture_of}
use Rattle.revision1_gestures.specs.Scan.{unread, gesture_with, read_with, Tells}
use Rattle.revision1_gestures.specs.Form.{is_repeated, is_plain, is_motion, is_position, has_form}
use Rattle.revision1_gestures.proofs.Laws.Scan.{scanned, scan_all, scan_one, scan_none}
use Rattle.revision1_gestures.proofs.Laws.Plain.{reads_on, went_on, stopped, not_plain_after}

-- ---- the loop over the events: those from `i` on remain

pub record Turn (events : List Event) (gesture : Gesture) (i : ℕ) : Type 0 where
  pub whole : scanned gesture (drop i events) ≡ gesture_of events
  pub few : gesture.buttons ≤ i
  pub plain : is_plain gesture ≡ true

at_most_one : (test : Bool) → bit_of test ≤ 1
at_most_one true = omega arith
at_most_one false = omega arith

module _ (events : List Event) where
  pub turn_begins : {gesture : Gesture} → gesture ≡ unread → Turn events gesture 0
  turn_begins e = record { whole = rw e (scan_all events); few = rw e (omega arith); plain = rw e }

  module _ {gesture : Gesture} {i : ℕ} (turn : Turn events gesture i) (low : i < length events) {event : Event}
      (read : event ≡ get_or events i none) {after : Gesture} (noted : after ≡ read_with event gesture) where
    next : drop i events ≡ event ∷ drop (i + 1) events
    next = drop-cons events i none low ∙ rw (read, add-one)

    pub turn_goes_on : after.known ≡ true → Turn events after (i + 1)
    unfolding gesture_with
    turn_goes_on known =
        let plain = went_on event gesture (rw noted at known) in
        let grown : after ≡ gesture_with event gesture = noted ∙ reads_on event gesture plain in
        record {
          whole = rw grown (scan_one gesture event (drop (i + 1) events) ∙ ap (scanned gesture) (sym next) ∙ turn.whole);
          few = rw grown (omega (arith, turn.few, at_most_one (is_button event)));
          plain = rw grown plain;
        }

    pub turn_stops : after.known ≡ false → Tells after (gesture_of events)
    turn_stops unknown =
        let never = not_plain_after gesture event (drop (i + 1) events) turn.plain (stopped event gesture (rw noted at unknown)) in
        let whole : is_plain (gesture_of events) ≡ false = ap is_plain (sym turn.whole ∙ ap (scanned gesture) next) ∙ never in
        let here : is_plain after ≡ false = rw unknown in
        (here ∙ sym whole, λ plain. absurd (false≢true (sym whole ∙ plain)))

  pub turn_ends : {gesture : Gesture} {i : ℕ} → Turn events gesture i → length events ≤ i → Tells gesture (gesture_of events)
  turn_ends {gesture} {i} turn h =
      let same = sym (scan_none gesture) ∙ ap (scanned gesture) (sym (drop_of_length-le events {i = i} h)) ∙ turn.whole in
      (ap is_plain same, λ plain. same)

-- ---- what the result tells

plain_form : (acceleration : ℕ) (gesture : Gesture)
    → has_form acceleration gesture ≡ (is_plain gesture && (is_motion acceleration gesture && is_position gesture))
unfolding has_form
plain_form acceleration gesture =
    sym (and_assoc gesture.known (not (is_repeated gesture)) (is_motion acceleration gesture && is_position gesture))

module _ {read whole : Gesture} (tells : Tells read whole) (acceleration : ℕ) where
  pub tells_form : has_form acceleration read ≡ has_form acceleration whole
  tells_form = go (is_plain whole) refl
    where
      go : (test : Bool) → is_plain whole ≡ test → has_form acceleration read ≡ has_form acceleration whole
      go true e = ap (has_form acceleration) (tells.1 e)
      go false e = plain_form acceleration read ∙ rw (tells.0 ∙ e) (sym (plain_form acceleration whole ∙ rw e))

  pub tells_whole : has_form acceleration read ≡ true → read ≡ whole
  tells_whole formed =
      let plain = (both (is_plain read) (is_motion acceleration read && is_position read)
      (sym (plain_form acceleration read) ∙ formed)).0 in
      tells.1 (sym tells.0 ∙ plain)
