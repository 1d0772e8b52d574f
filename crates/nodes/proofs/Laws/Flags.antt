-- Laws of a flag's text: by its length and its first byte, as code sees them, and which texts are accepted.
use Prim.Native.Nat.{ℕ, ◌≤◌}
use mathlib.Core.Path.{◌≡◌, refl, ap, ◌∙◌}
use mathlib.Core.Bool.{Bool, true, false, cond}
use mathlib.Core.Logic.{◌↔◌}
use mathlib.Core.List.{List, [], ◌∷◌}
use native.Mathlib.Omega.{arith}
use Rattle.std.specs.Prelude.{Ok}
use borrow.Author.Tests.{lt-ltb, ltb-false, ne_eqb, eqb-true, eqb-false}
use lib.Dec.{ltb, eqb}
use lib.ListN.{length, get_or}
use Rattle.answers.specs.Refusals.{first_refusal}
use Rattle.text.specs.Ascii.{ascii}
use Rattle.std.proofs.lemmas.Bool.{or_parts}
use Rattle.nodes.specs.Nodes.{Flag, bad_at, no_flag, read_flag, flag_answer, flag_refusals}

pub flag_of_text : (text : List ℕ) → read_flag text
    ≡ cond (eqb (length text) 0) (bad_at 0) (cond (no_flag (get_or text 0 0)) (bad_at 0)
    (cond (ltb 1 (length text)) (bad_at 1) (Ok (eqb (get_or text 0 0) 49))))
unfolding read_flag
flag_of_text [] = refl
flag_of_text (byte ∷ []) = refl
flag_of_text (byte ∷ next ∷ rest) =
    rw (ne_eqb (length (byte ∷ next ∷ rest)) 0 (λ z. omega arith), lt-ltb 1 (length (byte ∷ next ∷ rest)) (omega arith))

-- ---- 01's number of a text

text_answer : (text : List ℕ) → flag_answer (read_flag text) ≡ first_refusal (flag_refusals text)
unfolding read_flag first_refusal
text_answer [] = refl
text_answer (byte ∷ []) = go (no_flag byte) refl
  where
    go : (other : Bool) → no_flag byte ≡ other → flag_answer (read_flag (byte ∷ [])) ≡ first_refusal (flag_refusals (byte ∷ []))
    go true e = rw e
    go false e = rw e
text_answer (byte ∷ next ∷ rest) = go (no_flag byte) refl
  where
    go : (other : Bool) → no_flag byte ≡ other
        → flag_answer (read_flag (byte ∷ next ∷ rest)) ≡ first_refusal (flag_refusals (byte ∷ next ∷ rest))
    go true e = rw (ne_eqb (length (byte ∷ next ∷ rest)) 0 (λ z. omega arith), e)
    go false e =
        rw (ne_eqb (length (byte ∷ next ∷ rest)) 0 (λ z. omega arith), e, lt-ltb 1 (length (byte ∷ next ∷ rest)) (omega arith))

-- What a text is answered, by its number and whole.
pub answered : (text : List ℕ) {flag : Flag} → flag ≡ read_flag text
    → (flag_answer flag ≡ first_refusal (flag_refusals text)) × (flag ≡ read_flag text)
answered text e = (ap flag_answer e ∙ text_answer text, e)

-- ---- exactly "0" and "1" are accepted, and each says its flag

abbrev pub flag_text : Bool → List ℕ
flag_text on = cond on (ascii "1") (ascii "0")

bad_or : (test : Bool) (place : ℕ) (on : Bool) → cond test (bad_at 0) (bad_at place) ≡ Ok on → ⊥
bad_or true place on h = cc
bad_or false place on h = cc

value_said : (test value on : Bool) → cond test (bad_at 0) (Ok value) ≡ Ok on → (test ≡ false) × (value ≡ on)
value_said true value on h = absurd cc
value_said false value on h = (refl, cc)

flag_byte : (byte : ℕ) (on : Bool) → no_flag byte ≡ false → eqb byte 49 ≡ on → byte ∷ [] ≡ flag_text on
flag_byte byte true fine said = ap (λ (b : ℕ). b ∷ []) (eqb-true byte 49 said)
flag_byte byte false fine said =
    let range = or_parts (ltb byte 48) (ltb 49 byte) fine in
    let low : 48 ≤ byte = ltb-false byte 48 range.0 in
    let high : byte ≤ 49 = ltb-false 49 byte range.1 in
    let zero-byte : byte ≡ 48 = omega (arith, eqb-false byte 49 said) in
    ap (λ (b : ℕ). b ∷ []) zero-byte

flag_accepted : (text : List ℕ) (on : Bool) → read_flag text ≡ Ok on → text ≡ flag_text on
unfolding read_flag
flag_accepted [] on h = absurd cc
flag_accepted (byte ∷ []) on h =
    let said = value_said (no_flag byte) (eqb byte 49) on h in
    flag_byte byte on said.0 said.1
flag_accepted (byte ∷ next ∷ rest) on h = absurd (bad_or (no_flag byte) 1 on h)

flag_back : (on : Bool) → read_flag (flag_text on) ≡ Ok on
unfolding read_flag
flag_back true = refl
flag_back false = refl

pub flag_exactly : (text : List ℕ) (on : Bool) → (read_flag text ≡ Ok on) ↔ (text ≡ flag_text on)
flag_exactly text on = (flag_accepted text on, λ same. rw same (flag_back on))
