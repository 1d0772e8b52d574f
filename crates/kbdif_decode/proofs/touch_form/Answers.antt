-- Each test decides one of three booleans of the form's law: the head's, the tail's, and that of the fields.
use Prim.Native.Nat.{ℕ, ◌*◌, ◌≤◌, ◌<◌}
use mathlib.Core.Path.{◌≡◌, refl, sym, ap, ◌∙◌}
use native.Mathlib.Omega.{arith}
use mathlib.Core.Bool.{Bool, true, and-false}
use mathlib.Core.List.{List}
use lib.Dec.{ltb}
use borrow.Author.Tests.{lt-ltb, le-ltb}
use Rattle.kbdif_decode.specs.Reserved.{u64_at}
use Rattle.kbdif_decode.specs.Form.{form_of, form_told}
use Rattle.kbdif_decode.proofs.Laws.Judged.{unknown_touch_found}
use Rattle.kbdif_decode.proofs.Laws.Form.{lent, touch_spoiled, axes_form, place_form, contact_form, orientation_form, told_either}
use Rattle.kbdif_decode.proofs.touch_form.Goals.{then-eight_at-from-via-then-eight_at-from}
use Rattle.kbdif_decode.proofs.touch_form.Goals.{then-eight_at-from-via-else-eight_at-from+then-not-tail_is_zero}
use Rattle.kbdif_decode.proofs.touch_form.Goals as goal

-- the head is clear, by the eight bytes that were read
head_clear : (bytes : List ℕ) (limit : ℕ) {eight : ℕ} → eight ≡ u64_at bytes 0 → eight < limit * 65536
    → ltb (u64_at bytes 0) (limit * 65536) ≡ true
head_clear bytes limit e h = rw (← e) (lt-ltb _ _ h)

pub returns-then-subtype-gt-XENKBD_MT_EV_ORIENT : goal.returns-then-subtype-gt-XENKBD_MT_EV_ORIENT
returns-then-subtype-gt-XENKBD_MT_EV_ORIENT c =
    let unknown = unknown_touch_found c.args.bytes.now c.args.limit.contacts c.requires c.args.limit.some in
    sym (ap (λ found. form_told (form_of found)) (unknown c.if-subtype-gt-XENKBD_MT_EV_ORIENT.true))

pub returns-then-eight_at-from : goal.returns-then-eight_at-from
returns-then-eight_at-from c =
    let bytes : List ℕ = c.args.bytes.now in
    let l = lent bytes c.args.limit (omega arith) c.fits-bytes in
    let head : Bool = ltb (u64_at bytes 0) (c.args.limit.contacts * 65536) in
    let spoiled = touch_spoiled l c.requires _ refl c.if-subtype-gt-XENKBD_MT_EV_ORIENT.false in
    elim c.then-eight_at-from.branch [
      | then-eight_at-from-via-then-eight_at-from w ↦
          let past : c.args.limit.contacts * 65536 ≤ c.eight_at.result = omega arith in
          let off = le-ltb c.eight_at.result (c.args.limit.contacts * 65536) past in
          sym (ap form_told (spoiled (rw (← c.eight_at.ensures, off))))
      | then-eight_at-from-via-else-eight_at-from+then-not-tail_is_zero w ↦
          let off = sym w.tail_is_zero.ensures ∙ w.if-not-tail_is_zero.true in
          sym (ap form_told (spoiled (rw off (and-false head))))
    ]

pub returns-then-subtype-eq-XENKBD_MT_EV_SHAPE : goal.returns-then-subtype-eq-XENKBD_MT_EV_SHAPE
returns-then-subtype-eq-XENKBD_MT_EV_SHAPE c =
    let bytes : List ℕ = c.args.bytes.now in
    let l = lent bytes c.args.limit (omega arith) c.fits-bytes in
    let head = head_clear bytes c.args.limit.contacts c.eight_at.ensures (omega arith) in
    let rest = sym c.tail_is_zero.ensures ∙ c.if-not-tail_is_zero.false in
    sym (ap form_told (axes_form l c.requires head rest c.if-subtype-eq-XENKBD_MT_EV_SHAPE.true))

pub returns-then-subtype-eq-XENKBD_MT_EV_ORIENT : goal.returns-then-subtype-eq-XENKBD_MT_EV_ORIENT
returns-then-subtype-eq-XENKBD_MT_EV_ORIENT c =
    let bytes : List ℕ = c.args.bytes.now in
    let l = lent bytes c.args.limit (omega arith) c.fits-bytes in
    let head = head_clear bytes c.args.limit.contacts c.eight_at.ensures (omega arith) in
    let rest = sym c.tail_is_zero.ensures ∙ c.if-not-tail_is_zero.false in
    let fields = c.eight_at-then-subtype-eq-XENKBD_MT_EV_ORIENT.ensures in
    c.checked.ensures ∙ rw fields (told_either _ _ _ (orientation_form l c.requires head rest c.if-subtype-eq-XENKBD_MT_EV_ORIENT.true))

pub returns-then-subtype-eq1 : goal.returns-then-subtype-eq1
returns-then-subtype-eq1 c =
    let bytes : List ℕ = c.args.bytes.now in
    let l = lent bytes c.args.limit (omega arith) c.fits-bytes in
    let head = head_clear bytes c.args.limit.contacts c.eight_at.ensures (omega arith) in
    let rest = sym c.tail_is_zero.ensures ∙ c.if-not-tail_is_zero.false in
    let fields = c.eight_at-then-subtype-eq1.ensures in
    c.checked-then-subtype-eq1.ensures
    ∙ rw fields (told_either _ _ _ (contact_form l c.requires head rest (omega arith) c.if-subtype-eq1.true))

pub returns-else-subtype-eq1 : goal.returns-else-subtype-eq1
returns-else-subtype-eq1 c =
    let bytes : List ℕ = c.args.bytes.now in
    let l = lent bytes c.args.limit (omega arith) c.fits-bytes in
    let head = head_clear bytes c.args.limit.contacts c.eight_at.ensures (omega arith) in
    let rest = sym c.tail_is_zero.ensures ∙ c.if-not-tail_is_zero.false in
    sym (ap form_told (place_form l c.requires head rest (omega arith) c.if-subtype-eq1.false))
