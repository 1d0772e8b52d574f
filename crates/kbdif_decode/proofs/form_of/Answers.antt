-- A type that is no touch is one of three past the tests for the others; then each test decides a boolean of the form's law.
use Prim.Native.Nat.{ℕ}
use mathlib.Core.Path.{sym, ap, ◌∙◌}
use native.Mathlib.Omega.{arith}
use mathlib.Core.Bool.{false, and-true}
use mathlib.Core.List.{List}
use lib.Dec.{ltb, eqb}
use borrow.Author.Tests.{lt-ltb, le-ltb}
use Rattle.words.specs.Words.{u32_at}
use Rattle.kbdif_decode.specs.Reserved.{u64_at}
use Rattle.kbdif_decode.specs.Decode.{Decoded, decoded}
use Rattle.kbdif_decode.specs.Form.{Pointer, KeyPress, form_told}
use Rattle.kbdif_decode.proofs.Laws.Form.{told, lent, other_type, pointer_type, untyped, other_spoiled, pointer_form}
use Rattle.kbdif_decode.proofs.Laws.Form.{key_form, told_either}
use Rattle.kbdif_decode.proofs.form_of.Goals.{then-head-lt-PRESSED_END, else-head-lt-PRESSED_END}
use Rattle.kbdif_decode.proofs.form_of.Goals as goal

pub returns-then-kind-gt-XENKBD_TYPE_POS : goal.returns-then-kind-gt-XENKBD_TYPE_POS
returns-then-kind-gt-XENKBD_TYPE_POS c =
    let l = lent c.args.bytes.now c.args.limit (omega arith) c.fits-bytes in
    ap form_told (untyped l c.if-kind-eq-XENKBD_TYPE_MTOUCH.false c.then-kind-gt-XENKBD_TYPE_POS.either)

pub returns-then-not-tail_is_zero : goal.returns-then-not-tail_is_zero
returns-then-not-tail_is_zero c =
    let l = lent c.args.bytes.now c.args.limit (omega arith) c.fits-bytes in
    let kind = other_type _ c.if-kind-gt-XENKBD_TYPE_POS.false (λ none. omega arith) (λ two. omega arith) in
    sym (ap form_told (other_spoiled l kind (sym c.tail_is_zero.ensures ∙ c.if-not-tail_is_zero.true)))

pub returns-after-head-lt-PRESSED_END : goal.returns-after-head-lt-PRESSED_END
unfolding told
returns-after-head-lt-PRESSED_END c =
    let l = lent c.args.bytes.now c.args.limit (omega arith) c.fits-bytes in
    let head = c.read_u32-head.ensures in
    let rest = sym c.tail_is_zero.ensures ∙ c.if-not-tail_is_zero.false in
    let bytes : List ℕ = c.args.bytes.now in
    let found : Decoded = decoded bytes c.args.limit.contacts in
    let form = key_form l c.if-kind-eq-XENKBD_TYPE_KEY.true in
    elim c.if-head-lt-PRESSED_END.branch [
      | then-head-lt-PRESSED_END w ↦
          c.checked.ensures ∙ rw (w.checked-is, w.eight_at.ensures)
          (told_either (eqb (u64_at bytes 8) 0) KeyPress found
          (form ∙ rw (← head, lt-ltb c.read_u32-head.result 512 w.if-head-lt-PRESSED_END.true, rest, and-true _)))
      | else-head-lt-PRESSED_END w ↦
          c.checked.ensures ∙ rw (w.checked-is, le-ltb c.read_u32-head.result 512 w.if-head-lt-PRESSED_END.false)
          (told_either false KeyPress found
          (form ∙ rw (← head, le-ltb c.read_u32-head.result 512 w.if-head-lt-PRESSED_END.false)))
    ]

pub returns-else-kind-eq-XENKBD_TYPE_KEY : goal.returns-else-kind-eq-XENKBD_TYPE_KEY
unfolding told
returns-else-kind-eq-XENKBD_TYPE_KEY c =
    let l = lent c.args.bytes.now c.args.limit (omega arith) c.fits-bytes in
    let kind = other_type _ c.if-kind-gt-XENKBD_TYPE_POS.false (λ none. omega arith) (λ two. omega arith) in
    let rest = sym c.tail_is_zero.ensures ∙ c.if-not-tail_is_zero.false in
    let bytes : List ℕ = c.args.bytes.now in
    let found : Decoded = decoded bytes c.args.limit.contacts in
    c.checked-else-kind-eq-XENKBD_TYPE_KEY.ensures
    ∙ rw c.read_u32-head.ensures
    (told_either (ltb (u32_at bytes 0) 256) Pointer found
    (pointer_form l (pointer_type kind c.if-kind-eq-XENKBD_TYPE_KEY.false) ∙ rw (rest, and-true _)))
