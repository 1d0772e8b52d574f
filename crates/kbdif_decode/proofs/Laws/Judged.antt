-- What is decoded of an event, by the tests of its form.
use Prim.Native.Nat.{ℕ, ◌≤◌, ◌<◌}
use mathlib.Core.Path.{◌≡◌, refl, ap, ◌∙◌}
use mathlib.Core.Logic.{◌≢◌}
use mathlib.Core.Bool.{Bool, true, false, not, ◌&&◌, cond, and-true}
use mathlib.Core.List.{List, [], ◌∷◌}
use native.Mathlib.Omega.{arith}
use native.Mathlib.Decide.{dec_lt}
use lib.Dec.{leb, ltb, eqb}
use lib.ListN.{get_or}
use borrow.Author.Tests.{ne_eqb, lt-leb, lt-ltb, le-leb, le-ltb}
use Rattle.answers.specs.Answers.{malformed}
use Rattle.answers.specs.Refusals.{first_refusal}
use Rattle.kbdif_events.specs.declared.RingEvent.{RingEvent}
use Rattle.kbdif_events.specs.declared.RingEvent.TheVariants.{Motion, Key, Pos, TouchDown, TouchUp, TouchMotion, TouchSyn, TouchShape}
use Rattle.kbdif_events.specs.declared.RingEvent.TheVariants.{TouchOrient, Unknown}
use Rattle.words.specs.Words.{u32_at}
use Rattle.kbdif_events.specs.Types.{xenkbd_type_motion, xenkbd_type_key, xenkbd_type_pos, xenkbd_type_mtouch, xenkbd_mt_ev_down}
use Rattle.kbdif_events.specs.Types.{xenkbd_mt_ev_up, xenkbd_mt_ev_motion, xenkbd_mt_ev_syn, xenkbd_mt_ev_shape, xenkbd_mt_ev_orient}
use Rattle.kbdif_events.specs.Event.{layout_of, contact_of}
use Rattle.kbdif_decode.specs.Reserved.{all_zero, zero_outside}
use Rattle.kbdif_decode.specs.Decode.{Decoded, Event, Refused, i32_at, i16_at, lookup, touch_at, event_at, extent_of, reserved_is_zero}
use Rattle.kbdif_decode.specs.Decode.{pressed_above_one, answered, decoded}

-- an event, or 9
unfoldable pub judged : Bool → RingEvent → Decoded
judged fine event = cond fine (Event event) (Refused malformed)

verdict : (clear pressed beyond : Bool) (event : RingEvent)
    → answered (first_refusal ((not clear, malformed) ∷ (pressed, malformed) ∷ (beyond, malformed) ∷ [])) event
    ≡ judged (clear && (not pressed && not beyond)) event
unfolding first_refusal judged
verdict false pressed beyond event = refl
verdict true true beyond event = refl
verdict true false true event = refl
verdict true false false event = refl

-- two tests, each the other's opposite
above : (a b : ℕ) → not (ltb a b) ≡ leb b a
above a b = elim (dec_lt a b) [
  | yes h ↦ rw (lt-ltb a b h, lt-leb b a h)
  | no h ↦ rw (le-ltb a b (omega arith), le-leb b a (omega arith))
]

below : (a b : ℕ) → not (leb b a) ≡ ltb a b
below a b = elim (dec_lt a b) [
  | yes h ↦ rw (lt-ltb a b h, lt-leb b a h)
  | no h ↦ rw (le-ltb a b (omega arith), le-leb b a (omega arith))
]

-- a number past a key isn't the key
past : (number key : ℕ) → key < number → eqb number key ≡ false
past number key high = ne_eqb number key (λ e. omega arith)

module _ (bytes : List ℕ) (contact_limit : ℕ) where
  -- pressed and the contact
  abbrev allowed_as : RingEvent → Bool
  allowed_as event = not (pressed_above_one bytes) && not (leb contact_limit (contact_of event))

  abbrev pub fine : Bool
  fine = reserved_is_zero bytes (event_at bytes) && allowed_as (event_at bytes)

  -- what is decoded is the event or 9
  pub decoded_judged : decoded bytes contact_limit ≡ judged fine (event_at bytes)
  decoded_judged =
      let event : RingEvent = event_at bytes in
      verdict (reserved_is_zero bytes event) (pressed_above_one bytes) (leb contact_limit (contact_of event)) event

  formed : {event : RingEvent} {clear allowed : Bool} → event_at bytes ≡ event → clear ≡ reserved_is_zero bytes event
      → allowed_as event ≡ allowed
      → decoded bytes contact_limit ≡ judged (clear && allowed) event
  formed same e f = decoded_judged ∙ rw (same, f, ← e)

  -- ---- no touch

  module _ (some : 1 ≤ contact_limit) where
    none_to_allow : (event : RingEvent) → (get_or bytes 0 0 ≡ xenkbd_type_key → ⊥) → contact_of event ≡ 0 → allowed_as event ≡ true
    none_to_allow event other none = rw (ne_eqb (get_or bytes 0 0) xenkbd_type_key other, none, lt-leb contact_limit 0 some)

    other_formed : {event : RingEvent} {clear : Bool} → (get_or bytes 0 0 ≡ xenkbd_type_key → ⊥) → contact_of event ≡ 0
        → event_at bytes ≡ event → clear ≡ reserved_is_zero bytes event
        → decoded bytes contact_limit ≡ judged clear event
    other_formed {event} {clear} other none same e =
        formed same e (none_to_allow event other none) ∙ ap (λ (fine : Bool). judged fine event) (and-true clear)

    pub motion_judged : {clear : Bool} → get_or bytes 0 0 ≡ xenkbd_type_motion → clear ≡ zero_outside bytes 1 4 16
        → decoded bytes contact_limit ≡ judged clear (Motion (i32_at bytes 4) (i32_at bytes 8) (i32_at bytes 12))
    unfolding event_at lookup reserved_is_zero extent_of layout_of
    motion_judged kind e = other_formed (λ three. omega arith) refl (rw kind) e

    pub position_judged : {clear : Bool} → get_or bytes 0 0 ≡ xenkbd_type_pos → clear ≡ zero_outside bytes 1 4 16
        → decoded bytes contact_limit ≡ judged clear (Pos (i32_at bytes 4) (i32_at bytes 8) (i32_at bytes 12))
    unfolding event_at lookup reserved_is_zero extent_of layout_of
    position_judged kind e = other_formed (λ three. omega arith) refl (rw kind) e

    pub key_judged : {clear : Bool} → get_or bytes 0 0 ≡ xenkbd_type_key → clear ≡ zero_outside bytes 2 4 8
        → decoded bytes contact_limit ≡ judged (clear && leb (get_or bytes 1 0) 1) (Key (eqb (get_or bytes 1 0) 1) (u32_at bytes 4))
    unfolding event_at lookup reserved_is_zero extent_of layout_of
    key_judged kind e =
        formed (rw kind) e (rw (kind, lt-leb contact_limit 0 some, above 1 (get_or bytes 1 0)) (and-true (leb (get_or bytes 1 0) 1)))

    pub unknown_found : (get_or bytes 0 0 ≡ xenkbd_type_key → ⊥) → event_at bytes ≡ Unknown → decoded bytes contact_limit ≡ Event Unknown
    unfolding reserved_is_zero extent_of layout_of all_zero judged
    unknown_found other same = other_formed {clear = true} other refl same refl

    -- past the types below that of a touch
    pub other_found : xenkbd_type_pos < get_or bytes 0 0 → get_or bytes 0 0 ≢ xenkbd_type_mtouch
        → decoded bytes contact_limit ≡ Event Unknown
    unfolding event_at lookup
    other_found high other =
        unknown_found (λ three. omega arith) (rw (
          past (get_or bytes 0 0) xenkbd_type_motion (omega arith),
          past (get_or bytes 0 0) xenkbd_type_key (omega arith),
          past (get_or bytes 0 0) xenkbd_type_pos high,
          ne_eqb (get_or bytes 0 0) xenkbd_type_mtouch other,
        ))

  -- ---- touches

  module _ (kind : get_or bytes 0 0 ≡ xenkbd_type_mtouch) where
    touch_event : {event : RingEvent} → touch_at bytes ≡ event → event_at bytes ≡ event
    unfolding event_at lookup
    touch_event same = rw kind same

    touch_formed : {event : RingEvent} {clear : Bool} → contact_of event ≡ get_or bytes 2 0 → touch_at bytes ≡ event
        → clear ≡ reserved_is_zero bytes event
        → decoded bytes contact_limit ≡ judged (clear && ltb (get_or bytes 2 0) contact_limit) event
    touch_formed contact same e = formed (touch_event same) e (rw (kind, contact) (below (get_or bytes 2 0) contact_limit))

    pub down_judged : {clear : Bool} → get_or bytes 1 0 ≡ xenkbd_mt_ev_down → clear ≡ zero_outside bytes 3 8 16
        → decoded bytes contact_limit
        ≡ judged (clear && ltb (get_or bytes 2 0) contact_limit) (TouchDown (get_or bytes 2 0) (i32_at bytes 8) (i32_at bytes 12))
    unfolding touch_at lookup reserved_is_zero extent_of layout_of
    down_judged subtype e = touch_formed refl (rw subtype) e

    pub up_judged : {clear : Bool} → get_or bytes 1 0 ≡ xenkbd_mt_ev_up → clear ≡ zero_outside bytes 3 8 8
        → decoded bytes contact_limit ≡ judged (clear && ltb (get_or bytes 2 0) contact_limit) (TouchUp (get_or bytes 2 0))
    unfolding touch_at lookup reserved_is_zero extent_of layout_of
    up_judged subtype e = touch_formed refl (rw subtype) e

    pub touch_motion_judged : {clear : Bool} → get_or bytes 1 0 ≡ xenkbd_mt_ev_motion → clear ≡ zero_outside bytes 3 8 16
        → decoded bytes contact_limit
        ≡ judged (clear && ltb (get_or bytes 2 0) contact_limit) (TouchMotion (get_or bytes 2 0) (i32_at bytes 8) (i32_at bytes 12))
    unfolding touch_at lookup reserved_is_zero extent_of layout_of
    touch_motion_judged subtype e = touch_formed refl (rw subtype) e

    pub syn_judged : {clear : Bool} → get_or bytes 1 0 ≡ xenkbd_mt_ev_syn → clear ≡ zero_outside bytes 3 8 8
        → decoded bytes contact_limit ≡ judged (clear && ltb (get_or bytes 2 0) contact_limit) (TouchSyn (get_or bytes 2 0))
    unfolding touch_at lookup reserved_is_zero extent_of layout_of
    syn_judged subtype e = touch_formed refl (rw subtype) e

    pub shape_judged : {clear : Bool} → get_or bytes 1 0 ≡ xenkbd_mt_ev_shape → clear ≡ zero_outside bytes 3 8 16
        → decoded bytes contact_limit
        ≡ judged (clear && ltb (get_or bytes 2 0) contact_limit) (TouchShape (get_or bytes 2 0) (u32_at bytes 8) (u32_at bytes 12))
    unfolding touch_at lookup reserved_is_zero extent_of layout_of
    shape_judged subtype e = touch_formed refl (rw subtype) e

    pub orientation_judged : {clear : Bool} → get_or bytes 1 0 ≡ xenkbd_mt_ev_orient → clear ≡ zero_outside bytes 3 8 10
        → decoded bytes contact_limit
        ≡ judged (clear && ltb (get_or bytes 2 0) contact_limit) (TouchOrient (get_or bytes 2 0) (i16_at bytes 8))
    unfolding touch_at lookup reserved_is_zero extent_of layout_of
    orientation_judged subtype e = touch_formed refl (rw subtype) e

    -- past the last subtype
    pub unknown_touch_found : 1 ≤ contact_limit → xenkbd_mt_ev_orient < get_or bytes 1 0 → decoded bytes contact_limit ≡ Event Unknown
    unfolding touch_at lookup
    unknown_touch_found some high =
        unknown_found some (λ three. omega arith) (touch_event (rw (
          past (get_or bytes 1 0) xenkbd_mt_ev_down (omega arith),
          past (get_or bytes 1 0) xenkbd_mt_ev_up (omega arith),
          past (get_or bytes 1 0) xenkbd_mt_ev_motion (omega arith),
          past (get_or bytes 1 0) xenkbd_mt_ev_syn (omega arith),
          past (get_or bytes 1 0) xenkbd_mt_ev_shape (omega arith),
          past (get_or bytes 1 0) xenkbd_mt_ev_orient high,
        )))
