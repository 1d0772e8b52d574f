-- What a write leaves while the device is on: the device's end of the ring, the revision and the records stay; ACCELERATION moves at its
-- own place alone.
use Prim.Native.Nat.{ℕ}
use mathlib.Core.Path.{◌≡◌, refl, sym, ◌∙◌}
use mathlib.Core.Bool.{Bool, true, false, not, ◌&&◌, cond, false≢true}
use mathlib.Core.List.{List}
use native.Mathlib.Omega.{arith}
use native.Mathlib.Decide.{ℕ_discrete}
use lib.Dec.{eqb}
use lib.ListN.{length}
use borrow.Author.Tests.{ne_eqb}
use Rattle.answers.proofs.Choice.{either}
use Rattle.answers.proofs.Laws.{never_answers}
use Rattle.bits.specs.Bits.{bit}
use Rattle.geometry.specs.declared.Geometry.{Geometry}
use Rattle.geometry.specs.Geometry.{ring_of}
use Rattle.records.specs.Ring.{Holds, write_pointer}
use Rattle.records.specs.Unread.{records_from}
use Rattle.records.proofs.Laws.Put.{moved-write_pointer}
use Rattle.records.proofs.Laws.Unread.{moved_keeps}
use Rattle.device.specs.declared.Device.{Device}
use Rattle.device.specs.declared.Revision.{Revision}
use Rattle.device.specs.declared.Revision.TheVariants.{One, Two}
use Rattle.device.specs.Revision.{is_revision1, may_run, revision_of}
use Rattle.device.specs.Setters.{with_acceleration}
use Rattle.device.specs.State.{is_acceleration, client_rev_rule}
use Rattle.device.specs.Call.{is_valid_call}
use Rattle.device.specs.Result.{Result, result_of}
use Rattle.device.proofs.Laws.Revision.{is_one, revision_on}
use Rattle.access.specs.declared.Place.{Place}
use Rattle.access.specs.declared.Place.TheVariants as place
use Rattle.access.specs.Place.{place_of}
use Rattle.access.specs.Access.{access_refusals, access_answer}
use Rattle.access.proofs.Laws.Acceleration.{is_acceleration_place, acceleration_place}
use Rattle.registers.specs.Write.{control_of, client_rev_of, acceleration_of, effect_of, write_of}
use Rattle.delivery.specs.Sent.{acceleration_in}

-- no access is answered with 10
pub access_not_ten : (geometry : Geometry) (device : Device) (area_size page_size : ℕ) (writes : Bool) (offset width : ℕ)
    → access_answer geometry device area_size page_size writes offset width ≡ 10 → ⊥
unfolding access_answer
access_not_ten geometry device area_size page_size writes offset width =
    never_answers 10 (access_refusals (is_valid_call geometry device area_size page_size) geometry writes offset width) refl

-- What a write leaves as it was, where `takes` says whether it is taken by ACCELERATION.
pub record Written (geometry : Geometry) (device : Device) (area : List ℕ) (value : ℕ) (takes : Bool) (result : Result) : Type 0 where
  pub same_producer : result.outcome.device.producer ≡ device.producer
  pub same_client_rev : result.outcome.device.registers.client_rev ≡ device.registers.client_rev
  pub acceleration : result.outcome.device.registers.acceleration
      ≡ acceleration_in (revision_of device.registers) (takes && eqb result.outcome.answer 0) value device.registers.acceleration
  pub same_write : write_pointer result.area ≡ write_pointer area
  pub same_records : (index count : ℕ)
      → records_from (ring_of geometry) result.area index count ≡ records_from (ring_of geometry) area index count
  pub not_ten : result.outcome.answer ≡ 10 → ⊥

-- a write that isn't taken
not_taken : (revision : Revision) (value old : ℕ) → old ≡ acceleration_in revision false value old
not_taken One value old = refl
not_taken Two value old = refl

and_false : (test : Bool) → (test && false) ≡ false
and_false true = refl
and_false false = refl

module _ (geometry : Geometry) (device : Device) (area : List ℕ) (on : device.registers.on ≡ true) (value : ℕ) where
  -- nothing changes
  same : {answer : ℕ} → (answer ≡ 10 → ⊥) → Written geometry device area value false (result_of answer device area)
  same n = record {
    same_producer = refl;
    same_client_rev = refl;
    acceleration = not_taken (revision_of device.registers) value device.registers.acceleration;
    same_write = refl;
    same_records = λ index count. refl;
    not_ten = n;
  }

  unmoved : Written geometry device area value false (result_of 0 device area)
  unmoved = same (λ e. omega arith)

  -- a refusal, wherever it was
  refusal : {answer : ℕ} (takes : Bool) → eqb answer 0 ≡ false → (answer ≡ 10 → ⊥)
      → Written geometry device area value takes (result_of answer device area)
  refusal takes refused n = record {
    same_producer = refl;
    same_client_rev = refl;
    acceleration = rw (refused, and_false takes) (not_taken (revision_of device.registers) value device.registers.acceleration);
    same_write = refl;
    same_records = λ index count. refl;
    not_ten = n;
  }

  never_again : (wanted may : Bool) → (wanted && (may && not device.registers.on)) ≡ false
  never_again true true = rw on
  never_again true false = refl
  never_again false may = refl

  control_written : Written geometry device area value false (control_of geometry device area value)
  unfolding control_of
  control_written =
      rw (never_again (bit value 0) (may_run device.registers)) (record {
        same_producer = refl;
        same_client_rev = refl;
        acceleration = not_taken (revision_of device.registers) value device.registers.acceleration;
        same_write = refl;
        same_records = λ index count. refl;
        not_ten = λ e. omega arith;
      })

  client_rev_written : Written geometry device area value false (result_of 0 (client_rev_of device value) area)
  unfolding client_rev_of
  client_rev_written =
      either (λ (after : Device). Written geometry device area value false (result_of 0 after area)) device.registers.on
      (λ still. unmoved) (λ off. absurd (false≢true (sym off ∙ on)))

  -- ---- ACCELERATION

  -- a test that is true where it is revision 1
  moved : (right : Bool) → (cond right (with_acceleration value device) device).registers.acceleration
      ≡ cond right value device.registers.acceleration
  moved true = refl
  moved false = refl

  moved_in : (revision : Revision) → is_revision1 device.registers ≡ is_one revision
      → (acceleration_of device value).registers.acceleration ≡ acceleration_in revision true value device.registers.acceleration
  unfolding acceleration_of
  moved_in One is_one = rw is_one (moved (is_acceleration value))
  moved_in Two is_one = rw is_one

  module _ (rule : client_rev_rule device.registers ≡ true) where
    acceleration_written : Written geometry device area value true (result_of 0 (acceleration_of device value) area)
    unfolding acceleration_of
    acceleration_written =
        let takes : Bool = is_revision1 device.registers && is_acceleration value in
        record {
          same_producer = either (λ (after : Device). after.producer ≡ device.producer) takes (λ t. refl) (λ f. refl);
          same_client_rev = either (λ (after : Device). after.registers.client_rev ≡ device.registers.client_rev) takes
              (λ t. refl) (λ f. refl);
          acceleration = moved_in (revision_of device.registers) (revision_on device.registers rule on);
          same_write = refl;
          same_records = λ index count. refl;
          not_ten = λ e. omega arith;
        }

    -- ---- every place

    module _ (holds : Holds (length area) (ring_of geometry)) where
      effect_written : (at : Place) → Written geometry device area value (is_acceleration_place at)
          (effect_of geometry device area value at)
      effect_written place.Magic = unmoved
      effect_written place.Rev = unmoved
      effect_written place.Control = control_written
      effect_written place.EventSize = unmoved
      effect_written place.Npages = unmoved
      effect_written place.Acceleration = acceleration_written
      effect_written place.Isr = record {
        same_producer = refl;
        same_client_rev = refl;
        acceleration = not_taken (revision_of device.registers) value device.registers.acceleration;
        same_write = refl;
        same_records = λ index count. refl;
        not_ten = λ e. omega arith;
      }
      effect_written place.ConfSize = unmoved
      effect_written place.ClientRev = client_rev_written
      effect_written place.ReadPtr = record {
        same_producer = refl;
        same_client_rev = refl;
        acceleration = not_taken (revision_of device.registers) value device.registers.acceleration;
        same_write = moved-write_pointer (ring_of geometry) area holds value;
        same_records = λ index count. moved_keeps (ring_of geometry) area holds value index count;
        not_ten = λ e. omega arith;
      }
      effect_written place.EventArea = unmoved
      effect_written place.EntryPage = unmoved
      effect_written place.Nothing = unmoved

      pub write_written : (page_size offset width : ℕ)
          → Written geometry device area value (eqb offset 0x10C) (write_of geometry device area page_size offset width value)
      unfolding write_of
      write_written page_size offset width =
          let answer : ℕ = access_answer geometry device (length area) page_size true offset width in
          let not_ten = access_not_ten geometry device (length area) page_size true offset width in
          elim (ℕ_discrete answer 0) [
            | yes done ↦ rw (done, ← acceleration_place geometry offset) (effect_written (place_of geometry offset))
            | no refused ↦ rw (ne_eqb answer 0 refused) (refusal (eqb offset 0x10C) (ne_eqb answer 0 refused) not_ten)
          ]
