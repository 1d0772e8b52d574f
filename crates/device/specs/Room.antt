-- Room for the records that a call puts (01, "Writing records"): r at or above R is 10; too little room is 7. A call that puts none
-- needs no room, so it is answered with neither.
use Rattle.std.specs.Prelude.{ℕ, Bool, not, cond, List, [], ◌∷◌, leb, eqb}
use Rattle.answers.specs.Answers.{bad_index, no_room}
use Rattle.answers.specs.Refusals.{first_refusal}
use Rattle.geometry.specs.declared.Ring.{Ring}
use Rattle.records.specs.Ring.{read_pointer, has_room}

-- By the number of records. The device trusts its private write index; the guest's read pointer comes from the area.
abbrev pub room_refusals : Ring → List ℕ → ℕ → ℕ → List (Bool × ℕ)
room_refusals ring area index count =
    cond (eqb count 0) []
    ((leb ring.length (read_pointer area), bad_index)
    ∷ (not (has_room ring (read_pointer area) index count), no_room)
    ∷ [])

abbrev pub room_refusal : Ring → List ℕ → ℕ → ℕ → ℕ
room_refusal ring area index count = first_refusal (room_refusals ring area index count)
