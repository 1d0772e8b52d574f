-- The ways out of a step, each with what is handed back and what stands in the area; and the number that it answers.
use Prim.Native.Nat.{ℕ}
use mathlib.Core.Path.{◌≡◌, refl, ap, ◌∙◌}
use mathlib.Core.Bool.{Bool, true, false}
use mathlib.Core.List.{List}
use lib.Dec.{leb, eqb}
use lib.ListN.{length}
use Rattle.std.specs.Prelude.{Result, Ok, Err, IfOk, IfErr}
use Rattle.answers.specs.declared.Refusal.{Refusal}
use Rattle.answers.specs.declared.Refusal.TheVariants.{Invalid}
use Rattle.answers.specs.Refusal.{number_of, answer_of}
use Rattle.answers.specs.Refusals.{first_refusal}
use Rattle.geometry.specs.declared.Ring.{Ring}
use Rattle.geometry.specs.declared.Geometry.{Geometry}
use Rattle.geometry.specs.Geometry.{ring_length, ring_of}
use Rattle.records.specs.declared.Event.{Event}
use Rattle.records.specs.Ring.{read_pointer, write_pointer, with_read_pointer, next_index}
use Rattle.reading.specs.Oldest as oldest
use Rattle.reading.specs.Reading.{is_valid_area, reading_refusal}
use Rattle.reading.specs.Oldest.{oldest_of}
use Rattle.revision1_reader.specs.declared.Taken.{Taken}
use Rattle.revision1_reader.specs.Step.{taken_as, refused_with, taken_of, take_answer, take_of}

module _ (geometry : Geometry) (area : List ℕ) where
  take-answer : (take_of geometry area).taken.answer ≡ take_answer geometry area
  unfolding take_of oldest_of reading_refusal first_refusal
  take-answer =
      go (is_valid_area geometry (length area)) (leb (ring_length geometry) (read_pointer area))
      (leb (ring_length geometry) (write_pointer area)) (eqb (read_pointer area) (write_pointer area)) refl refl refl refl
    where
      go : (a b c d : Bool) → is_valid_area geometry (length area) ≡ a → leb (ring_length geometry) (read_pointer area) ≡ b
          → leb (ring_length geometry) (write_pointer area) ≡ c → eqb (read_pointer area) (write_pointer area) ≡ d
          → (take_of geometry area).taken.answer ≡ take_answer geometry area
      go false b c d p q r s = rw p
      go true true c d p q r s = rw (p, q)
      go true false true d p q r s = rw (p, q, r)
      go true false false true p q r s = rw (p, q, r, s)
      go true false false false p q r s = rw (p, q, r, s)

  -- what a step promises
  abbrev pub Leaves : Taken → List ℕ → Type 0
  Leaves taken after =
      (taken ≡ (take_of geometry area).taken) × ((after ≡ (take_of geometry area).area) × (taken.answer ≡ take_answer geometry area))

  answered : {taken : Taken} {after : List ℕ} → taken ≡ (take_of geometry area).taken → after ≡ (take_of geometry area).area
      → Leaves taken after
  answered t a = (t, (a, ap (λ (taken : Taken). taken.answer) t ∙ take-answer))

  -- the code's answer has the number of what it hands back
  same_number : (result : Result Event Refusal) → answer_of result ≡ (taken_of result).answer
  same_number (Ok event) = refl
  same_number (Err refusal) = refl

  abbrev pub Answers : Result Event Refusal → List ℕ → Type 0
  Answers result after =
      (taken_of result ≡ (take_of geometry area).taken)
      × ((after ≡ (take_of geometry area).area) × (answer_of result ≡ take_answer geometry area))

  by_number : (result : Result Event Refusal) {after : List ℕ} → Leaves (taken_of result) after → Answers result after
  by_number result left = (left.0, (left.1.0, same_number result ∙ left.1.1))

  pub take-invalid : is_valid_area geometry (length area) ≡ false → {taken : Taken} → taken ≡ refused_with 1 → Leaves taken area
  unfolding take_of
  take-invalid h t = answered (t ∙ rw h) (rw h)

  module _ (valid : is_valid_area geometry (length area) ≡ true) where
    pub take_refused : {number : ℕ} → oldest_of (ring_of geometry) area ≡ oldest.Refused number
        → {taken : Taken} → taken ≡ refused_with number → Leaves taken area
    unfolding take_of
    take_refused e t = answered (t ∙ rw (valid, e)) (rw (valid, e))

    pub take_one : {index : ℕ} {event : Event} → oldest_of (ring_of geometry) area ≡ oldest.Record index event
        → {taken : Taken} {after : List ℕ} → taken ≡ taken_as event → after ≡ with_read_pointer area (next_index (ring_of geometry) index)
        → Leaves taken after
    unfolding take_of
    take_one e t a = answered (t ∙ rw (valid, e)) (a ∙ rw (valid, e))

    -- the oldest record is taken, or there is none
    take_either : (result : Result Event Refusal) {ring : Ring} {after : List ℕ} → ring ≡ ring_of geometry
        → IfOk result (λ event. (oldest_of ring area ≡ oldest.Record (read_pointer area) event)
        × (after ≡ with_read_pointer area (next_index ring (read_pointer area))))
        → IfErr result (λ refusal. (oldest_of ring area ≡ oldest.Refused (number_of refusal)) × (after ≡ area))
        → Leaves (taken_of result) after
    take_either (Ok event) same taken refused = take_one (rw same at taken.0) refl (rw same at taken.1)
    take_either (Err refusal) same taken refused = rw refused.1 (take_refused (rw same at refused.0) refl)

    pub take_oldest : (result : Result Event Refusal) {ring : Ring} {after : List ℕ} → ring ≡ ring_of geometry
        → IfOk result (λ event. (oldest_of ring area ≡ oldest.Record (read_pointer area) event)
        × (after ≡ with_read_pointer area (next_index ring (read_pointer area))))
        → IfErr result (λ refusal. (oldest_of ring area ≡ oldest.Refused (number_of refusal)) × (after ≡ area))
        → Answers result after
    take_oldest result same taken refused = by_number result (take_either result same taken refused)

  pub refused_invalid : is_valid_area geometry (length area) ≡ false → Answers (Err Invalid) area
  refused_invalid h = by_number (Err Invalid) (take-invalid h refl)
