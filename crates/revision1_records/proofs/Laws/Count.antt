-- How many records a packet gives: the lengths of its parts added up. There is always one, the FENCE.
use Prim.Native.Nat.{ℕ, ◌≤◌}
use mathlib.Core.Path.{◌≡◌}
use mathlib.Core.Bool.{Bool, true, false}
use mathlib.Core.List.{List, [], ◌∷◌}
use native.Mathlib.Omega.{arith}
use lib.ListN.{length, length-append}
use Rattle.bits.specs.Bits.{bit_of}
use Rattle.records.specs.declared.Event.{Event}
use Rattle.records.proofs.Laws.PutAll.{if_length}
use Rattle.revision1_records.specs.declared.Position.{Position}
use Rattle.revision1_gestures.specs.Gesture.{is_button, button_count, gesture_of}
use Rattle.revision1_records.specs.Records.{parts_of, group_of, record_count}
use Rattle.revision1_records.proofs.Laws.Buttons.{button_count_lem}

few : (test : Bool) → bit_of test ≤ 1
few true = omega arith
few false = omega arith

button_few : (events : List Event) → button_count events ≤ length events
unfolding button_count
button_few [] = omega arith
button_few (event ∷ rest) = omega (arith, few (is_button event), button_few rest)

-- no more buttons than events
pub few_buttons : (events : List Event) → (gesture_of events).buttons ≤ length events
unfolding gesture_of
few_buttons events = button_few events

pub group_count : (acceleration : ℕ) (last : Position) (events : List Event)
    → length (group_of acceleration last events) ≡ record_count (gesture_of events)
unfolding parts_of gesture_of
group_count acceleration last events = simp (length-append, if_length, button_count_lem) (omega arith)

pub group_some : (acceleration : ℕ) (last : Position) (events : List Event) → length (group_of acceleration last events) ≡ 0 → ⊥
group_some acceleration last events h = omega (arith, group_count acceleration last events)
