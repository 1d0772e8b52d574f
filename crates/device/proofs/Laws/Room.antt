-- Where there is room: the tests of a call that puts records, read backwards.
use Prim.Native.Nat.{ℕ, ◌<◌}
use mathlib.Core.Path.{◌≡◌}
use mathlib.Core.Bool.{Bool, true, false, not, ◌||◌, cond}
use mathlib.Core.List.{List, [], ◌∷◌}
use native.Mathlib.Omega.{arith}
use lib.Dec.{leb, eqb}
use borrow.Author.Tests.{ne_eqb, leb-false, not-false}
use Rattle.answers.specs.Answers.{bad_index, no_room}
use Rattle.answers.specs.Refusals.{first_refusal}
use Rattle.answers.proofs.Laws.{none_holds}
use Rattle.geometry.specs.declared.Ring.{Ring}
use Rattle.records.specs.Ring.{read_pointer, has_room}
use Rattle.device.specs.Room.{room_refusal}

-- some records fit
pub room_enough : (ring : Ring) (area : List ℕ) (index count : ℕ) → (count ≡ 0 → ⊥) → room_refusal ring area index count ≡ 0
    → (read_pointer area < ring.length) × (has_room ring (read_pointer area) index count ≡ true)
room_enough ring area index count some h =
    let far = none_holds _ _ _ (omega arith) (rw (ne_eqb count 0 some) at h) in
    let near = none_holds _ _ _ (omega arith) far.1 in
    (leb-false _ _ far.0, not-false _ near.0)

-- what is refused for room is answered 10 or 7
pub room_lost : (ring : Ring) (area : List ℕ) (index count : ℕ) {answer : ℕ} → answer ≡ room_refusal ring area index count
    → (answer ≡ 0 → ⊥) → (eqb answer bad_index || eqb answer no_room) ≡ true
unfolding first_refusal
room_lost ring area index count {answer} judged n =
    go (eqb count 0) (leb ring.length (read_pointer area)) (not (has_room ring (read_pointer area) index count)) judged
  where
    go : (none far full : Bool) → answer ≡ first_refusal (cond none [] ((far, bad_index) ∷ (full, no_room) ∷ []))
        → (eqb answer bad_index || eqb answer no_room) ≡ true
    go true far full e = absurd (n e)
    go false true full e = rw e
    go false false true e = rw e
    go false false false e = absurd (n e)
