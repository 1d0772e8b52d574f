-- The number that a step tells is the one that the order of refusals gives.
use Prim.Native.Nat.{ℕ}
use mathlib.Core.Path.{◌≡◌, refl, ap, ◌∙◌}
use mathlib.Core.Bool.{Bool, true, false, cond}
use mathlib.Core.List.{List}
use lib.Dec.{leb, eqb}
use lib.ListN.{length}
use Rattle.std.proofs.Common.{Result, Ok, Err}
use Rattle.answers.specs.declared.Refusal.{Refusal}
use Rattle.answers.specs.Refusal.{answer_of as number_answered}
use Rattle.answers.specs.Refusals.{first_refusal}
use Rattle.geometry.specs.declared.Geometry.{Geometry}
use Rattle.geometry.specs.Geometry.{ring_length, ring_of}
use Rattle.records.specs.declared.Event.{Event}
use Rattle.records.specs.Ring.{read_pointer, write_pointer}
use Rattle.records.specs.Unread.{record_at}
use Rattle.assembly.specs.declared.Driver.{Driver}
use Rattle.assembly.specs.declared.Told.{Told as Answered}
use Rattle.assembly.specs.declared.Told.TheVariants as told
use Rattle.assembly.specs.Told.{Told, Stepped, told_of}
use Rattle.assembly.specs.declared.Kind.{Kind}
use Rattle.assembly.specs.declared.Kind.TheVariants.{SynReport, SynDropped, DevSet, DevConf, DevReset, DevResetAll}
use Rattle.assembly.specs.declared.Kind.TheVariants.{BadDevSet, BadDev, Other}
use Rattle.assembly.specs.Kind.{kind_of}
use Rattle.assembly.specs.Transition.{answer_of, tells, reported, received}
use Rattle.reading.specs.Reading.{reading_refusal}
use Rattle.reading.specs.Oldest.{oldest_of}
use Rattle.driver.specs.Step.{is_valid_step, step_of}
use Rattle.driver.specs.Answer.{is_malformed, step_answer}
use Rattle.driver.proofs.Laws.Step.{Leaves}

report_answer : (driver : Driver) → answer_of (reported driver) ≡ cond (is_malformed SynReport driver) 9 0
unfolding reported
report_answer driver = go driver.ignoring driver.spoiled driver.overlong (eqb driver.held 0) refl refl refl refl
  where
    go : (a b c d : Bool) → driver.ignoring ≡ a → driver.spoiled ≡ b → driver.overlong ≡ c → eqb driver.held 0 ≡ d
        → answer_of (reported driver) ≡ cond (is_malformed SynReport driver) 9 0
    go true b c d p q r s = rw p
    go false true c d p q r s = rw (p, q)
    go false false true d p q r s = rw (p, q, r)
    go false false false true p q r s = rw (p, q, r, s)
    go false false false false p q r s = rw (p, q, r, s)

record_answer : (kind : Kind) (event : Event) (driver : Driver)
    → answer_of (received kind event driver).told ≡ cond (is_malformed kind driver) 9 0
record_answer SynReport event driver = report_answer driver
record_answer SynDropped event driver = refl
record_answer DevSet event driver = refl
record_answer DevConf event driver = refl
record_answer DevReset event driver = refl
record_answer DevResetAll event driver = refl
record_answer BadDevSet event driver = refl
record_answer BadDev event driver = refl
record_answer Other event driver = refl

-- the code's answer has the number of what it tells
same_number : (result : Result Answered Refusal) → number_answered result ≡ answer_of (told_of result)
same_number (Err refusal) = refl
same_number (Ok told.Nothing) = refl
same_number (Ok told.Gap) = refl
same_number (Ok told.EmptyReport) = refl
same_number (Ok (told.Packet slot count)) = refl
same_number (Ok (told.Set slot)) = refl
same_number (Ok (told.Conf slot)) = refl
same_number (Ok (told.Reset slot)) = refl
same_number (Ok told.ResetAll) = refl

module _ (geometry : Geometry) (driver : Driver) (area packet : List ℕ) where
  step_answer_lem : answer_of (step_of geometry driver area packet).stepped.told ≡ step_answer geometry driver area packet
  unfolding step_of oldest_of reading_refusal first_refusal
  step_answer_lem =
      go (is_valid_step geometry driver (length area) (length packet))
      (leb (ring_length geometry) (read_pointer area)) (leb (ring_length geometry) (write_pointer area))
      (eqb (read_pointer area) (write_pointer area)) refl refl refl refl
    where
      go : (a b c d : Bool) → is_valid_step geometry driver (length area) (length packet) ≡ a
          → leb (ring_length geometry) (read_pointer area) ≡ b → leb (ring_length geometry) (write_pointer area) ≡ c
          → eqb (read_pointer area) (write_pointer area) ≡ d
          → answer_of (step_of geometry driver area packet).stepped.told ≡ step_answer geometry driver area packet
      go false b c d p q r s = rw p
      go true true c d p q r s = rw (p, q)
      go true false true d p q r s = rw (p, q, r)
      go true false false true p q r s = rw (p, q, r, s)
      go true false false false p q r s =
          let event : Event = record_at (ring_of geometry) area (read_pointer area) in
          rw (p, q, r, s) (record_answer (kind_of geometry event) event driver)

  -- what a step leaves, with the number that it tells
  pub answered : (result : Result Answered Refusal) {driver' : Driver} {area' packet' : List ℕ}
      → Leaves geometry driver area packet (tells (told_of result) driver') area' packet'
      → (told_of result ≡ (step_of geometry driver area packet).stepped.told)
      × ((driver' ≡ (step_of geometry driver area packet).stepped.driver)
      × ((area' ≡ (step_of geometry driver area packet).area) × ((packet' ≡ (step_of geometry driver area packet).packet)
      × (number_answered result ≡ step_answer geometry driver area packet))))
  answered result e =
      let same : told_of result ≡ (step_of geometry driver area packet).stepped.told = ap (λ (s : Stepped). s.told) e.told in (
        same,
        (
          ap (λ (s : Stepped). s.driver) e.told,
          (e.area_left, (e.packet_left, same_number result ∙ ap (λ (t : Told). answer_of t) same ∙ step_answer_lem)),
        ),
      )
