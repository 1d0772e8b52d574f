-- Laws of a comparison of two names, whole and byte by byte.
use Prim.Native.Nat.{ℕ}
use mathlib.Core.Path.{◌≡◌, refl}
use mathlib.Core.Bool.{true, false≢true}
use mathlib.Core.Logic.{◌↔◌}
use mathlib.Core.List.{List, [], ◌∷◌}
use borrow.Author.Tests.{eqb-true, eq-eqb}
use lib.Dec.{eqb}
use lib.Pointwise.{pointwise}
use Rattle.std.specs.Prelude.{nat_eq}
use Rattle.std.proofs.lemmas.Bool.{and_parts}
use Rattle.node_names.specs.Names.{same_bytes}

-- ---- the comparison holds exactly of equal names

pub same_equal : (left right : List ℕ) → same_bytes left right ≡ true → left ≡ right
unfolding same_bytes
same_equal [] [] h = refl
same_equal [] (byte ∷ rest) h = absurd (false≢true h)
same_equal (byte ∷ rest) [] h = absurd (false≢true h)
same_equal (left ∷ lefts) (right ∷ rights) h =
    let parts = and_parts (eqb left right) (same_bytes lefts rights) h in
    let first : left ≡ right = eqb-true left right parts.0 in
    let others : lefts ≡ rights = same_equal lefts rights parts.1 in
    cc

pub same_itself : (name : List ℕ) → same_bytes name name ≡ true
unfolding same_bytes
same_itself [] = refl
same_itself (byte ∷ rest) = rw (eq-eqb byte byte refl) (same_itself rest)

pub same_exactly : (left right : List ℕ) → (same_bytes left right ≡ true) ↔ (left ≡ right)
same_exactly left right = (same_equal left right, λ equal. rw equal (same_itself right))

-- how the code compares
pub compared : (left right : List ℕ) → pointwise nat_eq left right ≡ same_bytes left right
unfolding same_bytes
compared [] [] = refl
compared [] (byte ∷ rest) = refl
compared (byte ∷ rest) [] = refl
compared (left ∷ lefts) (right ∷ rights) = rw (compared lefts rights)
