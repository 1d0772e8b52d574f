-- Encode after decode gives the bytes back.
use Prim.Native.Nat.{ℕ, ◌+◌, ◌≤◌}
use mathlib.Core.Path.{◌≡◌, refl, sym, ap, ◌∙◌}
use mathlib.Core.Bool.{true, false, cond, false≢true}
use mathlib.Core.List.{List, [], ◌∷◌, ◌++◌}
use native.Mathlib.Omega.{arith}
use native.Mathlib.Decide.{ℕ_discrete}
use lib.Dec.{eqb}
use lib.ListN.{length, get_or}
use mir.Syntax.{w16, w32}
use mir.Val.{Fits}
use mir.Facts.{of_z-to_z}
use borrow.Author.Tests.{eq-eqb, ne_eqb, ltb-false, not-false}
use Rattle.answers.specs.Answers.{malformed}
use Rattle.answers.specs.Refusals.{first_refusal}
use Rattle.answers.proofs.Laws.{none_holds}
use Rattle.words.specs.Words.{u16_at, u32_at, u16_bytes, u32_bytes, IsBytes}
use Rattle.kbdif_events.specs.declared.RingEvent.{RingEvent}
use Rattle.kbdif_events.specs.declared.RingEvent.TheVariants.{Unknown}
use Rattle.kbdif_events.specs.Types.{xenkbd_type_key, xenkbd_type_mtouch}
use Rattle.kbdif_events.specs.Event.{event_length, between, layout_of, event_bytes, i32_bytes, i16_bytes, known}
use Rattle.kbdif_decode.specs.Decode.{Event, i32_at, i16_at, touch_at, event_at, extent_of, reserved_is_zero, pressed_above_one}
use Rattle.kbdif_decode.specs.Decode.{event_refusals, decoded}
use Rattle.kbdif_decode.proofs.Laws.Answer.{answered-event}
use Rattle.kbdif_decode.proofs.Laws.Layout.{ordered}
use Rattle.kbdif_decode.proofs.Laws.Lookup.{Entries, picked}
use Rattle.kbdif_decode.proofs.Laws.Pieces.{pieces, joined, one_byte, two_bytes, three_bytes, u16_bytes_lem, u32_bytes_lem}
use Rattle.kbdif_decode.proofs.Laws.Reserved.{zeros_outside}

-- ---- bytes whose reserved ones are zero are those of an event that has their head and fields

laid_out : (bytes : List ℕ) (event : RingEvent) → length bytes ≡ event_length → reserved_is_zero bytes event ≡ true
    → (layout_of event).head ≡ between bytes 0 (extent_of event).head
    → (layout_of event).fields ≡ between bytes (extent_of event).start (extent_of event).end
    → event_bytes event ≡ bytes
unfolding event_bytes reserved_is_zero extent_of
laid_out bytes event size reserved head fields =
    let o = ordered event in
    let e : ℕ = (extent_of event).end in
    let zero = zeros_outside bytes (extent_of event).head (extent_of event).start e size (omega (arith, o)) reserved in
    (λ i. head i ++ (sym zero.0 i ++ (fields i ++ sym zero.1 i)))
    ∙ pieces bytes (extent_of event).head (extent_of event).start e o.head_before o.start-before

-- an event that is read, if known, is laid out as the bytes are
record Laid (bytes : List ℕ) (event : RingEvent) : Type 0 where
  laid : known event ≡ true → reserved_is_zero bytes event ≡ true → event_bytes event ≡ bytes

module _ (bytes : List ℕ) (size : length bytes ≡ event_length) (ok : IsBytes bytes) where
  -- ---- heads

  plain_head : {kind : ℕ} → get_or bytes 0 0 ≡ kind → kind ∷ [] ≡ between bytes 0 1
  plain_head kind = sym (one_byte bytes 0 (omega arith) ∙ rw kind)

  key_head : {kind : ℕ} → get_or bytes 0 0 ≡ kind → get_or bytes 1 0 ≤ 1
      → kind ∷ cond (eqb (get_or bytes 1 0) 1) 1 0 ∷ [] ≡ between bytes 0 2
  key_head {kind} e low = sym (two_bytes bytes 0 (omega arith) ∙ rw e (ap (λ (n : ℕ). kind ∷ n ∷ []) (bit (get_or bytes 1 0) low)))
    where
      bit : (n : ℕ) → n ≤ 1 → n ≡ cond (eqb n 1) 1 0
      bit n h = elim (ℕ_discrete n 1) [
        | yes e ↦ rw (eq-eqb n 1 e) e
        | no e ↦ rw (ne_eqb n 1 e) (omega arith)
      ]

  touch_head : {kind subtype : ℕ} → get_or bytes 0 0 ≡ kind → get_or bytes 1 0 ≡ subtype
      → kind ∷ subtype ∷ get_or bytes 2 0 ∷ [] ≡ between bytes 0 3
  touch_head kind subtype = sym (three_bytes bytes 0 (omega arith) ∙ rw (kind, subtype))

  -- ---- fields

  u32_fits : (at : ℕ) → Fits w32 (u32_at bytes at)
  u32_fits at = record { fits = omega (arith, ok at, ok (at + 1), ok (at + 2), ok (at + 3)) }

  u16_fits : (at : ℕ) → Fits w16 (u16_at bytes at)
  u16_fits at = record { fits = omega (arith, ok at, ok (at + 1)) }

  i32_field : (at : ℕ) → at + 4 ≤ event_length → i32_bytes (i32_at bytes at) ≡ between bytes at (at + 4)
  i32_field at h = ap u32_bytes (of_z-to_z (u32_fits at)) ∙ u32_bytes_lem bytes at ok (omega arith)

  i16_field : (at : ℕ) → at + 2 ≤ event_length → i16_bytes (i16_at bytes at) ≡ between bytes at (at + 2)
  i16_field at h = ap u16_bytes (of_z-to_z (u16_fits at)) ∙ u16_bytes_lem bytes at ok (omega arith)

  u32_field : (at : ℕ) → at + 4 ≤ event_length → u32_bytes (u32_at bytes at) ≡ between bytes at (at + 4)
  u32_field at h = u32_bytes_lem bytes at ok (omega arith)

  after : {left right : List ℕ} (from middle until : ℕ) → from ≤ middle → middle ≤ until → left ≡ between bytes from middle
      → right ≡ between bytes middle until
      → left ++ right ≡ between bytes from until
  after from middle until h k e f = (λ i. e i ++ f i) ∙ joined bytes from middle until h k

  position : i32_bytes (i32_at bytes 8) ++ i32_bytes (i32_at bytes 12) ≡ between bytes 8 16
  position = after 8 12 16 (omega arith) (omega arith) (i32_field 8 (omega arith)) (i32_field 12 (omega arith))

  coordinates : i32_bytes (i32_at bytes 4) ++ (i32_bytes (i32_at bytes 8) ++ i32_bytes (i32_at bytes 12)) ≡ between bytes 4 16
  coordinates = after 4 8 16 (omega arith) (omega arith) (i32_field 4 (omega arith)) position

  axes : u32_bytes (u32_at bytes 8) ++ u32_bytes (u32_at bytes 12) ≡ between bytes 8 16
  axes = after 8 12 16 (omega arith) (omega arith) (u32_field 8 (omega arith)) (u32_field 12 (omega arith))

  -- ---- events

  nothing_known : Laid bytes Unknown
  nothing_known = record { laid = λ k. absurd (false≢true k) }

  -- a touch with such fields, where its subtype is the one looked for
  touch : (event : RingEvent) {subtype : ℕ} → (layout_of event).head ≡ xenkbd_type_mtouch ∷ subtype ∷ get_or bytes 2 0 ∷ []
      → (extent_of event).head ≡ 3
      → get_or bytes 0 0 ≡ xenkbd_type_mtouch → (layout_of event).fields ≡ between bytes (extent_of event).start (extent_of event).end
      → get_or bytes 1 0 ≡ subtype → Laid bytes event
  touch event head three kind fields subtype = record {
    laid = λ k reserved. laid_out bytes event size reserved (head ∙ touch_head kind subtype ∙ ap (between bytes 0) (sym three)) fields;
  }

  touch_laid : get_or bytes 0 0 ≡ xenkbd_type_mtouch → Laid bytes (touch_at bytes)
  unfolding touch_at Entries layout_of extent_of
  touch_laid kind =
      picked (Laid bytes) (get_or bytes 1 0) _ Unknown (
        touch _ refl refl kind position,
        (
          touch _ refl refl kind refl,
          (
            touch _ refl refl kind position,
            (
              touch _ refl refl kind refl,
              (touch _ refl refl kind axes, (touch _ refl refl kind (i16_field 8 (omega arith)), tt)),
            ),
          ),
        ),
      )
      nothing_known

  pressed_bit : get_or bytes 0 0 ≡ xenkbd_type_key → pressed_above_one bytes ≡ false → get_or bytes 1 0 ≤ 1
  pressed_bit kind allowed = ltb-false 1 (get_or bytes 1 0) (rw (eq-eqb (get_or bytes 0 0) xenkbd_type_key kind) at allowed)

  event_laid : pressed_above_one bytes ≡ false → Laid bytes (event_at bytes)
  unfolding event_at Entries layout_of extent_of
  event_laid allowed =
      picked (Laid bytes) (get_or bytes 0 0) _ Unknown (
        (λ kind. record { laid = λ k reserved. laid_out bytes _ size reserved (plain_head kind) coordinates }),
        (
          (λ kind. record {
            laid =
                λ k reserved. laid_out bytes _ size reserved (key_head kind (pressed_bit kind allowed)) (u32_field 4 (omega arith));
          }),
          ((λ kind. record { laid = λ k reserved. laid_out bytes _ size reserved (plain_head kind) coordinates }), (touch_laid, tt)),
        ),
      )
      nothing_known

-- ---- any well-formed bytes

pub encode_decoded : (bytes : List ℕ) (contact_limit : ℕ) (event : RingEvent) → length bytes ≡ event_length → IsBytes bytes
    → decoded bytes contact_limit ≡ Event event → known event ≡ true → event_bytes event ≡ bytes
encode_decoded bytes contact_limit event size ok answer sure =
    let found = answered-event (first_refusal (event_refusals bytes contact_limit)) (event_at bytes) answer in
    let reserved = none_holds _ malformed _ (omega arith) found.0 in
    let pressed = none_holds _ malformed _ (omega arith) reserved.1 in
    let same : event_at bytes ≡ event = found.1 in
    rw (← same) ((event_laid bytes size ok pressed.0).laid (rw (← same) at sure) (not-false _ reserved.0))
