-- Laws of an order of refusals, one for each thing that can be known of a test, and that a refusal's number tells it.
use Prim.Native.Nat.{ℕ, ◌<◌}
use mathlib.Core.Path.{◌≡◌, refl, sym, ◌∙◌}
use mathlib.Core.Bool.{Bool, true, false, ◌&&◌, ◌||◌, cond, and-eq-true_iff, false≢true}
use mathlib.Core.List.{List, [], ◌∷◌, ◌++◌}
use native.Mathlib.Omega.{arith}
use lib.Dec.{ltb, eqb}
use borrow.Author.Tests.{eq-eqb, ne_eqb, ltb-true}
use Rattle.answers.specs.Answers.{done}
use Rattle.answers.specs.declared.Refusal.{Refusal}
use Rattle.answers.specs.declared.Refusal.TheVariants.{Invalid, BadAccess, ReadOnly, NoRegister, DeviceOff, BadSlot, NoRoom}
use Rattle.answers.specs.declared.Refusal.TheVariants.{NotOffered, Malformed, BadIndex, NothingToRead, BadSetting}
use Rattle.answers.specs.Refusal.{number_of}
use Rattle.answers.specs.Refusals.{first_refusal}

-- a test that doesn't hold is passed
pub passed : {test : Bool} (number : ℕ) (rest : List (Bool × ℕ)) → test ≡ false → first_refusal ((test, number) ∷ rest) ≡ first_refusal rest
unfolding first_refusal
passed number rest h = rw h

-- a test that holds decides
pub refused : {test : Bool} (number : ℕ) (rest : List (Bool × ℕ)) → test ≡ true → first_refusal ((test, number) ∷ rest) ≡ number
unfolding first_refusal
refused number rest h = rw h

-- where nothing is refused, no test holds
pub none_holds : (test : Bool) (number : ℕ) (rest : List (Bool × ℕ)) → 0 < number → first_refusal ((test, number) ∷ rest) ≡ 0
    → (test ≡ false) × (first_refusal rest ≡ 0)
unfolding first_refusal
none_holds true number rest some h = absurd (omega arith)
none_holds false number rest some h = (refl, h)

-- Every number of a table is some refusal. Of a table it is computed.
abbrev pub all_refuse : List (Bool × ℕ) → Bool
all_refuse [] = true
all_refuse ((test, number) ∷ rest) = ltb 0 number && all_refuse rest

-- one table after another: the second decides where the first refuses nothing
pub first-joined : (first second : List (Bool × ℕ)) → all_refuse first ≡ true
    → first_refusal (first ++ second) ≡ cond (eqb (first_refusal first) done) (first_refusal second) (first_refusal first)
unfolding first_refusal
first-joined [] second some = refl
first-joined ((false, number) ∷ rest) second some = first-joined rest second ((and-eq-true_iff (ltb 0 number) (all_refuse rest)).0 some).1
first-joined ((true, number) ∷ rest) second some =
    let low = ltb-true 0 number ((and-eq-true_iff (ltb 0 number) (all_refuse rest)).0 some).0 in
    rw (ne_eqb number 0 (λ e. omega (arith, low)))

-- Whether an order can answer a number: a test with that number holds, or none does and it is 0. Of a table it is computed.
abbrev pub can_answer : ℕ → List (Bool × ℕ) → Bool
can_answer number [] = eqb done number
can_answer number ((test, other) ∷ rest) = cond (eqb other number) (test || can_answer number rest) (can_answer number rest)

-- both ways of the choice are the same where the test fails
either_none : (same rest : Bool) → cond same (false || rest) rest ≡ false → rest ≡ false
either_none true rest h = h
either_none false rest h = h

pub never_answers : (number : ℕ) (refusals : List (Bool × ℕ)) → can_answer number refusals ≡ false → first_refusal refusals ≡ number → ⊥
unfolding first_refusal
never_answers number [] none e = false≢true (sym none ∙ eq-eqb done number e)
never_answers number ((true, other) ∷ rest) none e = false≢true (sym (rw (eq-eqb other number e) at none))
never_answers number ((false, other) ∷ rest) none e = never_answers number rest (either_none (eqb other number) _ none) e

-- no refusal has the number of what is done
pub never_done : (refusal : Refusal) → number_of refusal ≡ done → ⊥
never_done Invalid e = omega arith
never_done BadAccess e = omega arith
never_done ReadOnly e = omega arith
never_done NoRegister e = omega arith
never_done DeviceOff e = omega arith
never_done BadSlot e = omega arith
never_done NoRoom e = omega arith
never_done NotOffered e = omega arith
never_done Malformed e = omega arith
never_done BadIndex e = omega arith
never_done NothingToRead e = omega arith
never_done BadSetting e = omega arith
