-- Whatever an area holds beyond what a driver knows, a step gives the same and leaves an area that is the same to it.
use Prim.Native.Nat.{ℕ}
use mathlib.Core.Path.{◌≡◌, refl}
use mathlib.Core.Bool.{Bool, true, false}
use mathlib.Core.List.{List}
use native.Mathlib.Omega.{arith}
use lib.ListN.{length}
use Rattle.geometry.specs.declared.Geometry.{Geometry}
use Rattle.geometry.specs.Geometry.{ring_of}
use Rattle.geometry.proofs.Laws.Allowed.{sizes}
use Rattle.records.specs.Ring.{Holds, next_index}
use Rattle.records.specs.Unread.{SameToDriver}
use Rattle.records.proofs.Laws.Unknown.{same_moved}
use Rattle.assembly.specs.declared.Driver.{Driver}
use Rattle.reading.specs.Oldest.{Oldest}
use Rattle.reading.specs.Oldest.{Record, Refused}
use Rattle.reading.specs.Oldest.{oldest_of}
use Rattle.reading.proofs.Laws.Oldest.{same_oldest}
use Rattle.driver.specs.Step.{is_valid_step, StepResult, step_on, step_of}
use Rattle.driver.proofs.Laws.Step.{valid, valid_holds}

module _ (geometry : Geometry) (driver : Driver) (packet left right : List ℕ) (same : SameToDriver (ring_of geometry) left right) where
  Same : StepResult → StepResult → Type 0
  Same one other =
      (one.stepped ≡ other.stepped) × (one.packet ≡ other.packet) × SameToDriver (ring_of geometry) one.area other.area

  same_on : (oldest : Oldest) → Holds (length left) (ring_of geometry)
      → Same (step_on geometry driver left packet oldest) (step_on geometry driver right packet oldest)
  unfolding Same
  same_on (Record index event) holds =
      (refl, refl, same_moved (ring_of geometry) left right same holds (next_index (ring_of geometry) index))
  same_on (Refused number) holds = (refl, refl, same)

  pub same_step : ((step_of geometry driver left packet).stepped ≡ (step_of geometry driver right packet).stepped)
      × ((step_of geometry driver left packet).packet ≡ (step_of geometry driver right packet).packet)
      × SameToDriver (ring_of geometry) (step_of geometry driver left packet).area (step_of geometry driver right packet).area
  unfolding step_of Same
  same_step = go (is_valid_step geometry driver (length left) (length packet)) refl
    where
      go : (test : Bool) → is_valid_step geometry driver (length left) (length packet) ≡ test
          → Same (step_of geometry driver left packet) (step_of geometry driver right packet)
      go false h = rw (← same.same_length, h) (refl, refl, same)
      go true h =
          let s = sizes geometry (valid geometry driver (length left) (length packet) h).is_allowed in
          rw (← same.same_length, h, same_oldest (ring_of geometry) left right (omega (arith, s.ring_low)) same)
          (same_on (oldest_of (ring_of geometry) right) (valid_holds geometry driver left packet h))
