-- The form of what is decoded, by the numbers that are compared to tell it.
use Prim.Native.Nat.{ℕ, zero, suc, ◌*◌, ◌%◌, ◌≤◌, ◌<◌}
use mathlib.Core.Path.{◌≡◌, refl, sym, ap, ◌∙◌}
use mathlib.Core.Logic.{◌≢◌, ◌⊎◌, inl, inr}
use mathlib.Core.Bool.{Bool, true, false, ◌&&◌, cond, and-true, and-false}
use mathlib.Core.List.{List}
use native.Mathlib.Omega.{arith}
use lib.Dec.{ltb, eqb}
use lib.ListN.{length, get_or}
use Rattle.std.specs.Prelude.{Ok, Err}
use Rattle.answers.specs.declared.Refusal.{Refusal}
use Rattle.words.specs.Words.{u32_at, IsBytes}
use Rattle.kbdif_events.specs.declared.RingEvent.{RingEvent}
use Rattle.kbdif_events.specs.Types.{xenkbd_type_motion, xenkbd_type_key, xenkbd_type_pos, xenkbd_type_mtouch, xenkbd_mt_ev_down}
use Rattle.kbdif_events.specs.Types.{xenkbd_mt_ev_up, xenkbd_mt_ev_motion, xenkbd_mt_ev_syn, xenkbd_mt_ev_shape, xenkbd_mt_ev_orient}
use Rattle.kbdif_events.specs.Event.{event_length, between}
use Rattle.kbdif_decode.specs.Reserved.{u64_at, all_zero, zero_outside}
use Rattle.kbdif_events.specs.declared.RingEvent.TheVariants.{Motion, Key, Pos, TouchDown, TouchUp, TouchMotion}
use Rattle.kbdif_events.specs.declared.RingEvent.TheVariants.{TouchSyn, TouchShape, TouchOrient, Unknown}
use Rattle.kbdif_page.specs.declared.ContactLimit.{ContactLimit}
use Rattle.kbdif_decode.specs.Decode.{Decoded, Event, Refused, lookup, event_at, decoded, may_be_put}
use Rattle.kbdif_decode.specs.declared.Form.{Form as FoundForm}
use Rattle.kbdif_decode.specs.Form.{Form, Malformed, UnknownType, Pointer, KeyPress, Place, Contact, Axes, Orientation}
use Rattle.kbdif_decode.specs.Form.{event_form, form_of, form_told, form_read}
use Rattle.kbdif_decode.proofs.Laws.Judged.{judged, motion_judged, position_judged, key_judged, unknown_found, other_found, down_judged}
use Rattle.kbdif_decode.proofs.Laws.Judged.{up_judged, touch_motion_judged, syn_judged, shape_judged, orientation_judged}
use Rattle.kbdif_decode.proofs.Laws.Reserved.{tail_clear, no_fields, one_half, pointer_clear, key_clear, touch_clear}

-- a form, or malformed
unfoldable pub told : Bool → Form → Form
told fine form = cond fine form Malformed

judged_form : (fine : Bool) (event : RingEvent) {found : Decoded} → found ≡ judged fine event → form_of found ≡ told fine (event_form event)
unfolding judged told
judged_form true event e = ap form_of e
judged_form false event e = ap form_of e

-- what may be put, by its form
abbrev pub put_form : Form → Bool
put_form Malformed = false
put_form UnknownType = false
put_form Pointer = true
put_form KeyPress = true
put_form Place = true
put_form Contact = true
put_form Axes = true
put_form Orientation = true

pub put_told : (found : Decoded) {form : Form} → form ≡ form_of found → put_form form ≡ may_be_put found
put_told (Refused number) e = ap put_form e
put_told (Event (Motion x y z)) e = ap put_form e
put_told (Event (Key pressed keycode)) e = ap put_form e
put_told (Event (Pos x y wheel)) e = ap put_form e
put_told (Event (TouchDown contact x y)) e = ap put_form e
put_told (Event (TouchUp contact)) e = ap put_form e
put_told (Event (TouchMotion contact x y)) e = ap put_form e
put_told (Event (TouchSyn contact)) e = ap put_form e
put_told (Event (TouchShape contact major minor)) e = ap put_form e
put_told (Event (TouchOrient contact orientation)) e = ap put_form e
put_told (Event Unknown) e = ap put_form e

-- where the first or the last of three tests fails, so do all
spoiled : (first middle last : Bool) (form : Form) → (first && last) ≡ false → told (first && (middle && last)) form ≡ Malformed
unfolding told
spoiled false middle last form e = refl
spoiled true true last form e = rw e
spoiled true false last form e = refl

-- ---- which subtype and which type it can be

odd_subtype : (subtype : ℕ) → subtype < xenkbd_mt_ev_shape → subtype % 2 ≡ 1 → (subtype ≡ xenkbd_mt_ev_up) ⊎ (subtype ≡ xenkbd_mt_ev_syn)
odd_subtype zero low odd = absurd (omega arith)
odd_subtype (suc zero) low odd = inl refl
odd_subtype (suc (suc zero)) low odd = absurd (omega arith)
odd_subtype (suc (suc (suc zero))) low odd = inr refl
odd_subtype (suc (suc (suc (suc rest)))) low odd = absurd (omega arith)

even_subtype : (subtype : ℕ) → subtype < xenkbd_mt_ev_shape → subtype % 2 ≢ 1
    → (subtype ≡ xenkbd_mt_ev_down) ⊎ (subtype ≡ xenkbd_mt_ev_motion)
even_subtype zero low even = inl refl
even_subtype (suc zero) low even = absurd (even refl)
even_subtype (suc (suc zero)) low even = inr refl
even_subtype (suc (suc (suc zero))) low even = absurd (even refl)
even_subtype (suc (suc (suc (suc rest)))) low even = absurd (omega arith)

-- the types of events that are no touches
pub data OtherType (kind : ℕ) : Type 0 where
  pointer : (kind ≡ xenkbd_type_motion) ⊎ (kind ≡ xenkbd_type_pos) → OtherType kind
  key : kind ≡ xenkbd_type_key → OtherType kind

pub other_type : (kind : ℕ) → kind ≤ xenkbd_type_pos → kind ≢ 0 → kind ≢ 2 → OtherType kind
other_type zero low some listed = absurd (some refl)
other_type (suc zero) low some listed = pointer (inl refl)
other_type (suc (suc zero)) low some listed = absurd (listed refl)
other_type (suc (suc (suc zero))) low some listed = key refl
other_type (suc (suc (suc (suc zero)))) low some listed = pointer (inr refl)
other_type (suc (suc (suc (suc (suc rest))))) low some listed = absurd (omega arith)

pub pointer_type : {kind : ℕ} → OtherType kind → kind ≢ xenkbd_type_key → (kind ≡ xenkbd_type_motion) ⊎ (kind ≡ xenkbd_type_pos)
pointer_type (pointer is) other = is
pointer_type (key is) other = absurd (other is)

-- what form_of is lent
pub record Lent (bytes : List ℕ) (contact_limit : ℕ) : Type 0 where
  pub size : length bytes ≡ event_length
  pub are_bytes : IsBytes bytes
  pub some : 1 ≤ contact_limit
  pub small : contact_limit ≤ 256

pub lent : (bytes : List ℕ) (limit : ContactLimit) → length bytes ≡ event_length → IsBytes bytes → Lent bytes limit.contacts
lent bytes limit size are_bytes = record { size = size; are_bytes = are_bytes; some = limit.some; small = limit.small }

-- a form that is checked is told as itself or as a refusal
pub told_either : (clear : Bool) (form : Form) (found : Decoded) → form_of found ≡ cond clear form Malformed
    → cond clear (form_told form) (form_told Malformed) ≡ form_told (form_of found)
told_either true form found e = ap form_told (sym e)
told_either false form found e = ap form_told (sym e)

module _ {bytes : List ℕ} {contact_limit : ℕ} (lent : Lent bytes contact_limit) where
  -- types 0 and 2
  pub no_type : {kind : ℕ} → get_or bytes 0 0 ≡ kind → (kind ≡ 0) ⊎ (kind ≡ 2) → UnknownType ≡ form_of (decoded bytes contact_limit)
  unfolding event_at lookup
  no_type is (inl none) = sym (ap form_of (unknown_found bytes contact_limit lent.some (λ three. omega arith) (rw (is, none))))
  no_type is (inr two) = sym (ap form_of (unknown_found bytes contact_limit lent.some (λ three. omega arith) (rw (is, two))))

  -- and a type past that of a position that is no touch
  pub untyped : get_or bytes 0 0 ≢ xenkbd_type_mtouch
      → (xenkbd_type_pos < get_or bytes 0 0)
      ⊎ (((get_or bytes 0 0 ≤ xenkbd_type_pos) × (get_or bytes 0 0 ≡ 0))
      ⊎ ((get_or bytes 0 0 ≤ xenkbd_type_pos) × (get_or bytes 0 0 ≢ 0) × (get_or bytes 0 0 ≡ 2)))
      → UnknownType ≡ form_of (decoded bytes contact_limit)
  untyped other (inl high) = sym (ap form_of (other_found bytes contact_limit lent.some high other))
  untyped other (inr (inl none)) = no_type refl (inl none.1)
  untyped other (inr (inr two)) = no_type refl (inr two.2)

  abbrev clear_tail : Bool
  clear_tail = tail_clear bytes lent.size

  pub pointer_form : (get_or bytes 0 0 ≡ xenkbd_type_motion) ⊎ (get_or bytes 0 0 ≡ xenkbd_type_pos)
      → form_of (decoded bytes contact_limit) ≡ told (ltb (u32_at bytes 0) 256 && clear_tail) Pointer
  pointer_form (inl motion) =
      judged_form _ _ (motion_judged bytes contact_limit lent.some motion (sym (pointer_clear bytes lent.size lent.are_bytes)))
  pointer_form (inr position) =
      judged_form _ _ (position_judged bytes contact_limit lent.some position (sym (pointer_clear bytes lent.size lent.are_bytes)))

  pub key_form : get_or bytes 0 0 ≡ xenkbd_type_key
      → form_of (decoded bytes contact_limit) ≡ told (ltb (u32_at bytes 0) 512 && (eqb (u64_at bytes 8) 0 && clear_tail)) KeyPress
  key_form kind =
      judged_form _ _ (key_judged bytes contact_limit lent.some kind refl)
      ∙ ap (λ (fine : Bool). told fine KeyPress) (key_clear bytes lent.size lent.are_bytes)

  pub other_spoiled : OtherType (get_or bytes 0 0) → clear_tail ≡ false → form_of (decoded bytes contact_limit) ≡ Malformed
  other_spoiled (pointer kind) e =
      pointer_form kind
      ∙ spoiled (ltb (u32_at bytes 0) 256) true clear_tail Pointer (rw e (and-false (ltb (u32_at bytes 0) 256)))
  other_spoiled (key kind) e =
      key_form kind
      ∙ spoiled (ltb (u32_at bytes 0) 512) (eqb (u64_at bytes 8) 0) clear_tail KeyPress (rw e (and-false (ltb (u32_at bytes 0) 512)))

  module _ (kind : get_or bytes 0 0 ≡ xenkbd_type_mtouch) where
    abbrev clear_head : Bool
    clear_head = ltb (u64_at bytes 0) (contact_limit * 65536)

    touch_told : (end : ℕ) (event : RingEvent) → end ≤ 16
        → decoded bytes contact_limit ≡ judged (zero_outside bytes 3 8 end && ltb (get_or bytes 2 0) contact_limit) event
        → form_of (decoded bytes contact_limit) ≡ told (clear_head && (all_zero (between bytes end 16) && clear_tail)) (event_form event)
    touch_told end event inside e =
        judged_form _ event e
        ∙ ap (λ (fine : Bool). told fine (event_form event)) (
        touch_clear bytes lent.size lent.are_bytes contact_limit end lent.small inside
        )

    axes_told : get_or bytes 1 0 ≡ xenkbd_mt_ev_shape → form_of (decoded bytes contact_limit) ≡ told (clear_head && clear_tail) Axes
    unfolding all_zero
    axes_told is = touch_told 16 _ (omega arith) (shape_judged bytes contact_limit kind is refl)

    place_told : (get_or bytes 1 0 ≡ xenkbd_mt_ev_down) ⊎ (get_or bytes 1 0 ≡ xenkbd_mt_ev_motion)
        → form_of (decoded bytes contact_limit) ≡ told (clear_head && clear_tail) Place
    unfolding all_zero
    place_told (inl down) = touch_told 16 _ (omega arith) (down_judged bytes contact_limit kind down refl)
    place_told (inr motion) = touch_told 16 _ (omega arith) (touch_motion_judged bytes contact_limit kind motion refl)

    contact_told : (get_or bytes 1 0 ≡ xenkbd_mt_ev_up) ⊎ (get_or bytes 1 0 ≡ xenkbd_mt_ev_syn)
        → form_of (decoded bytes contact_limit) ≡ told (clear_head && (eqb (u64_at bytes 8) 0 && clear_tail)) Contact
    contact_told (inl up) = rw (← no_fields bytes lent.size) (touch_told 8 _ (omega arith) (up_judged bytes contact_limit kind up refl))
    contact_told (inr syn) =
        rw (← no_fields bytes lent.size) (touch_told 8 _ (omega arith) (syn_judged bytes contact_limit kind syn refl))

    orientation_told : get_or bytes 1 0 ≡ xenkbd_mt_ev_orient
        → form_of (decoded bytes contact_limit) ≡ told (clear_head && (ltb (u64_at bytes 8) 65536 && clear_tail)) Orientation
    orientation_told is =
        rw (← one_half bytes lent.size lent.are_bytes)
        (touch_told 10 _ (omega arith) (orientation_judged bytes contact_limit kind is refl))

    -- ---- each way out of a touch

    pub touch_spoiled : (subtype : ℕ) → get_or bytes 1 0 ≡ subtype → subtype ≤ xenkbd_mt_ev_orient → (clear_head && clear_tail) ≡ false
        → form_of (decoded bytes contact_limit) ≡ Malformed
    touch_spoiled zero is low e = place_told (inl is) ∙ spoiled clear_head true clear_tail Place e
    touch_spoiled (suc zero) is low e = contact_told (inl is) ∙ spoiled clear_head (eqb (u64_at bytes 8) 0) clear_tail Contact e
    touch_spoiled (suc (suc zero)) is low e = place_told (inr is) ∙ spoiled clear_head true clear_tail Place e
    touch_spoiled (suc (suc (suc zero))) is low e = contact_told (inr is) ∙ spoiled clear_head (eqb (u64_at bytes 8) 0) clear_tail Contact e
    touch_spoiled (suc (suc (suc (suc zero)))) is low e = axes_told is ∙ spoiled clear_head true clear_tail Axes e
    touch_spoiled (suc (suc (suc (suc (suc zero))))) is low e =
        orientation_told is ∙ spoiled clear_head (ltb (u64_at bytes 8) 65536) clear_tail Orientation e
    touch_spoiled (suc (suc (suc (suc (suc (suc rest)))))) is low e = absurd (omega arith)

    module _ (head : clear_head ≡ true) (rest : clear_tail ≡ true) where
      pub axes_form : get_or bytes 1 0 ≡ xenkbd_mt_ev_shape → form_of (decoded bytes contact_limit) ≡ Axes
      unfolding told
      axes_form is = axes_told is ∙ rw (head, rest)

      pub place_form : get_or bytes 1 0 < xenkbd_mt_ev_shape → get_or bytes 1 0 % 2 ≢ 1 → form_of (decoded bytes contact_limit) ≡ Place
      unfolding told
      place_form low even = place_told (even_subtype (get_or bytes 1 0) low even) ∙ rw (head, rest)

      pub contact_form : get_or bytes 1 0 < xenkbd_mt_ev_shape → get_or bytes 1 0 % 2 ≡ 1
          → form_of (decoded bytes contact_limit) ≡ cond (eqb (u64_at bytes 8) 0) Contact Malformed
      unfolding told
      contact_form low odd = contact_told (odd_subtype (get_or bytes 1 0) low odd) ∙ rw (head, rest, and-true (eqb (u64_at bytes 8) 0))

      pub orientation_form : get_or bytes 1 0 ≡ xenkbd_mt_ev_orient
          → form_of (decoded bytes contact_limit) ≡ cond (ltb (u64_at bytes 8) 65536) Orientation Malformed
      unfolding told
      orientation_form is = orientation_told is ∙ rw (head, rest, and-true (ltb (u64_at bytes 8) 65536))

-- ---- what the code finds tells the form

pub read_back : (form : Form) (found : FoundForm) → Ok found ≡ form_told form → form_read found ≡ form
read_back Malformed found e = cc
read_back UnknownType found e = cc
read_back Pointer found e = cc
read_back KeyPress found e = cc
read_back Place found e = cc
read_back Contact found e = cc
read_back Axes found e = cc
read_back Orientation found e = cc

pub refused_back : (form : Form) (refusal : Refusal) → Err refusal ≡ form_told form → (form ≡ Malformed) × (refusal ≡ Refusal.Malformed)
refused_back Malformed refusal e = (refl, cc)
refused_back UnknownType refusal e = (cc, cc)
refused_back Pointer refusal e = (cc, cc)
refused_back KeyPress refusal e = (cc, cc)
refused_back Place refusal e = (cc, cc)
refused_back Contact refusal e = (cc, cc)
refused_back Axes refusal e = (cc, cc)
refused_back Orientation refusal e = (cc, cc)
