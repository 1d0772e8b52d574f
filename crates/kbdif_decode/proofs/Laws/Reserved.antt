-- Laws of stretches of zero bytes, tested by the numbers that their bytes make.
use Prim.Native.Nat.{ℕ, zero, suc, ◌+◌, ◌-◌, ◌*◌, ◌≤◌, ◌<◌}
use mathlib.Core.Path.{◌≡◌, refl, sym, ap, ◌∙◌}
use mathlib.Core.Bool.{Bool, true, false, ◌&&◌, and_assoc, and-true, and-false, and-eq-true_iff}
use mathlib.Core.List.{List, [], ◌∷◌, ◌++◌}
use native.Mathlib.Omega.{arith}
use native.Mathlib.Numerals.{add-one}
use native.Mathlib.Decide.{ℕ_discrete, dec_lt}
use lib.Dec.{eqb, leb, ltb}
use lib.ListN.{length, get_or, take, drop, length-take, length-drop}
use lib.Seq.{drop-cons, take_all}
use borrow.Author.Tests.{eq-eqb, ne_eqb, eqb-true, lt-ltb, le-ltb, le-leb, leb-true, ltb-true}
use Rattle.words.specs.Words.{u32_at, IsBytes}
use Rattle.kbdif_events.specs.Event.{event_length, between, zeros}
use Rattle.kbdif_decode.specs.Reserved.{u64_at, all_zero, zero_outside}
use Rattle.kbdif_decode.proofs.Laws.Pieces.{joined}

-- two tests that hold together
same_test : (a b c d : ℕ) → (a ≡ b → c ≡ d) → (c ≡ d → a ≡ b) → eqb a b ≡ eqb c d
same_test a b c d there back = elim (ℕ_discrete a b) [
  | yes e ↦ eq-eqb a b e ∙ sym (eq-eqb c d (there e))
  | no n ↦ ne_eqb a b n ∙ sym (ne_eqb c d (λ e. n (back e)))
]

-- ---- a stretch is zero where the number that its bytes make is

number_from : List ℕ → ℕ → ℕ → ℕ
number_from bytes at zero = 0
number_from bytes at (suc count) = get_or bytes at 0 + 256 * number_from bytes (at + 1) count

both_zero : (byte rest : ℕ) → (eqb byte 0 && eqb rest 0) ≡ eqb (byte + 256 * rest) 0
both_zero byte rest = elim (ℕ_discrete byte 0) [
  | yes e ↦ rw (eq-eqb byte 0 e) (same_test rest 0 (byte + 256 * rest) 0 (λ f. omega arith) (λ f. omega arith))
  | no n ↦ rw (ne_eqb byte 0 n) (sym (ne_eqb (byte + 256 * rest) 0 (λ f. n (omega arith))))
]

stretch_number : (bytes : List ℕ) (at count : ℕ) → at + count ≤ length bytes
    → all_zero (take count (drop at bytes)) ≡ eqb (number_from bytes at count) 0
unfolding all_zero number_from
stretch_number bytes at zero h = refl
stretch_number bytes at (suc count) h =
    let next : drop at bytes ≡ get_or bytes at 0 ∷ drop (at + 1) bytes = rw (add-one, drop-cons bytes at 0 (omega arith)) in
    rw (next, stretch_number bytes (at + 1) count (omega arith)) (both_zero (get_or bytes at 0) (number_from bytes (at + 1) count))

-- ---- two stretches, one after the other

zero_append : (first second : List ℕ) → all_zero (first ++ second) ≡ (all_zero first && all_zero second)
unfolding all_zero
zero_append [] second = refl
zero_append (byte ∷ rest) second = rw (zero_append rest second) (sym (and_assoc (eqb byte 0) (all_zero rest) (all_zero second)))

zero_between : (bytes : List ℕ) (from middle until : ℕ) → from ≤ middle → middle ≤ until
    → all_zero (between bytes from until) ≡ (all_zero (between bytes from middle) && all_zero (between bytes middle until))
zero_between bytes from middle until low high =
    ap all_zero (sym (joined bytes from middle until low high)) ∙ zero_append (between bytes from middle) (between bytes middle until)

-- ---- what is tested to be zero is zeros

zeros_are : (bytes : List ℕ) → all_zero bytes ≡ true → bytes ≡ zeros (length bytes)
unfolding all_zero
zeros_are [] h = refl
zeros_are (byte ∷ rest) h =
    let both = (and-eq-true_iff (eqb byte 0) (all_zero rest)).0 h in
    λ i. eqb-true byte 0 both.0 i ∷ zeros_are rest both.1 i

zeros-between : (bytes : List ℕ) (from until : ℕ) → until ≤ length bytes → all_zero (between bytes from until) ≡ true
    → between bytes from until ≡ zeros (until - from)
zeros-between bytes from until h clear =
    let n : length (between bytes from until) ≡ until - from = simp (length-take, length-drop) (omega arith) in
    zeros_are (between bytes from until) clear ∙ ap zeros n

pub zeros_outside : (bytes : List ℕ) (head start end : ℕ) → length bytes ≡ event_length → start ≤ event_length
    → zero_outside bytes head start end ≡ true
    → (between bytes head start ≡ zeros (start - head)) × (drop end bytes ≡ zeros (event_length - end))
zeros_outside bytes head start end size inside clear =
    let both = (and-eq-true_iff (all_zero (between bytes head start)) (all_zero (between bytes end event_length))).0 clear in
    let n : length (drop end bytes) ≤ event_length - end = simp length-drop (omega arith) in (
      zeros-between bytes head start (omega arith) both.0,
      sym (take_all (event_length - end) (drop end bytes) n) ∙ zeros-between bytes end event_length (omega arith) both.1,
    )

-- ---- a stretch is zero, and a field below it small, where the number of both is small

low_test : (number a b : ℕ) → (a < b → number ≡ 0) → (number ≡ 0 → a < b) → eqb number 0 ≡ ltb a b
low_test number a b there back = elim (dec_lt a b) [
  | yes h ↦ eq-eqb number 0 (there h) ∙ sym (lt-ltb a b h)
  | no h ↦ ne_eqb number 0 (λ e. h (back e)) ∙ sym (le-ltb a b (omega arith))
]

neither : (number : ℕ) (test : Bool) → (number ≡ 0 → test ≡ true → ⊥) → (eqb number 0 && test) ≡ false
neither number false h = and-false (eqb number 0)
neither number true h = rw (ne_eqb number 0 (λ e. h e refl))

both_test : (number a b : ℕ) (test : Bool) → (a < b → (number ≡ 0) × (test ≡ true)) → (number ≡ 0 → test ≡ true → a < b)
    → (eqb number 0 && test) ≡ ltb a b
both_test number a b test there back = elim (dec_lt a b) [
  | yes h ↦ rw (eq-eqb number 0 (there h).0, (there h).1, lt-ltb a b h)
  | no h ↦ neither number test (λ e f. h (back e f)) ∙ sym (le-ltb a b (omega arith))
]

regroup : (first middle last field : Bool) → ((first && (middle && last)) && field) ≡ ((first && field) && (middle && last))
regroup false middle last field = refl
regroup true middle last true = and-true (middle && last)
regroup true middle last false = and-false (middle && last)

-- ---- the reserved bytes of each form, and the field that is tested with them

module _ (bytes : List ℕ) (size : length bytes ≡ event_length) where
  -- no event has a field past byte 16
  abbrev pub tail_clear : Bool
  tail_clear = all_zero (between bytes 16 event_length)

  -- a stretch whose number is a word
  word_is : (at count word : ℕ) → at + count ≤ event_length → number_from bytes at count ≡ word
      → all_zero (take count (drop at bytes)) ≡ eqb word 0
  word_is at count word h e = stretch_number bytes at count (omega arith) ∙ ap (λ (n : ℕ). eqb n 0) e

  pub tail : tail_clear ≡ (eqb (u64_at bytes 16) 0 && (eqb (u64_at bytes 24) 0 && eqb (u64_at bytes 32) 0))
  unfolding number_from
  tail =
      zero_between bytes 16 24 event_length (omega arith) (omega arith)
      ∙ rw (
        zero_between bytes 24 32 event_length (omega arith) (omega arith),
        word_is 16 8 (u64_at bytes 16) (omega arith) (omega arith),
        word_is 24 8 (u64_at bytes 24) (omega arith) (omega arith),
        word_is 32 8 (u64_at bytes 32) (omega arith) (omega arith),
      )

  pub no_fields : all_zero (between bytes 8 16) ≡ eqb (u64_at bytes 8) 0
  unfolding number_from
  no_fields = word_is 8 8 (u64_at bytes 8) (omega arith) (omega arith)

  -- what follows a form's fields, up to byte 16 and from there on
  outside_and : (head start end : ℕ) (field : Bool) → end ≤ 16
      → (zero_outside bytes head start end && field)
      ≡ ((all_zero (between bytes head start) && field) && (all_zero (between bytes end 16) && tail_clear))
  outside_and head start end field low =
      ap (λ (after : Bool). (all_zero (between bytes head start) && after) && field) (
      zero_between bytes end 16 event_length low (omega arith)
      )
      ∙ regroup (all_zero (between bytes head start)) (all_zero (between bytes end 16)) tail_clear field

  module _ (ok : IsBytes bytes) where
    pub one_half : all_zero (between bytes 10 16) ≡ ltb (u64_at bytes 8) 65536
    unfolding number_from
    one_half =
        let low = ok 8 in
        let high = ok 9 in
        stretch_number bytes 10 6 (omega arith)
        ∙ low_test (number_from bytes 10 6) (u64_at bytes 8) 65536 (λ e. omega arith) (λ e. omega arith)

    pub pointer_clear : zero_outside bytes 1 4 16 ≡ (ltb (u32_at bytes 0) 256 && tail_clear)
    unfolding number_from
    pointer_clear =
        let low = ok 0 in
        ap (λ (front : Bool). front && tail_clear) (
        stretch_number bytes 1 3 (omega arith) ∙ low_test (number_from bytes 1 3) (u32_at bytes 0) 256 (λ e. omega arith) (λ e. omega arith)
        )

    pub key_clear : (zero_outside bytes 2 4 8 && leb (get_or bytes 1 0) 1)
        ≡ (ltb (u32_at bytes 0) 512 && (eqb (u64_at bytes 8) 0 && tail_clear))
    unfolding number_from
    key_clear =
        let low = ok 0 in
        outside_and 2 4 8 (leb (get_or bytes 1 0) 1) (omega arith)
        ∙ rw (no_fields, stretch_number bytes 2 2 (omega arith))
        (ap (λ (front : Bool). front && (eqb (u64_at bytes 8) 0 && tail_clear)) (
        both_test (number_from bytes 2 2) (u32_at bytes 0) 512 (leb (get_or bytes 1 0) 1)
        (λ e. (omega arith, le-leb (get_or bytes 1 0) 1 (omega arith)))
        (λ e f. let pressed = leb-true (get_or bytes 1 0) 1 f in omega arith)
        ))

    pub touch_clear : (contact_limit end : ℕ) → contact_limit ≤ 256 → end ≤ 16
        → (zero_outside bytes 3 8 end && ltb (get_or bytes 2 0) contact_limit)
        ≡ (ltb (u64_at bytes 0) (contact_limit * 65536) && (all_zero (between bytes end 16) && tail_clear))
    unfolding number_from
    touch_clear contact_limit end limit inside =
        let low = ok 0 in
        let high = ok 1 in
        outside_and 3 8 end (ltb (get_or bytes 2 0) contact_limit) inside
        ∙ rw (stretch_number bytes 3 5 (omega arith))
        (ap (λ (front : Bool). front && (all_zero (between bytes end 16) && tail_clear)) (
        both_test (number_from bytes 3 5) (u64_at bytes 0) (contact_limit * 65536) (ltb (get_or bytes 2 0) contact_limit)
        (λ e. (omega arith, lt-ltb (get_or bytes 2 0) contact_limit (omega arith)))
        (λ e f. let contact = ltb-true (get_or bytes 2 0) contact_limit f in omega arith)
        ))
