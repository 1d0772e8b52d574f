-- Whatever an area holds beyond what a reader knows, a step hands back the same and leaves an area that is the same to it.
use Prim.Native.Nat.{ℕ}
use mathlib.Core.Path.{◌≡◌, refl}
use mathlib.Core.Bool.{Bool, true, false}
use mathlib.Core.List.{List}
use native.Mathlib.Omega.{arith}
use lib.ListN.{length}
use Rattle.geometry.specs.declared.Geometry.{Geometry}
use Rattle.geometry.specs.Geometry.{ring_of}
use Rattle.geometry.proofs.Laws.Allowed.{sizes}
use Rattle.records.specs.Ring.{Holds, next_index}
use Rattle.records.specs.Unread.{SameToDriver}
use Rattle.records.proofs.Laws.Place.{allowed-holds}
use Rattle.records.proofs.Laws.Unknown.{same_moved}
use Rattle.reading.specs.Oldest.{Oldest}
use Rattle.reading.specs.Oldest.{Record, Refused}
use Rattle.reading.specs.Reading.{is_valid_area}
use Rattle.reading.specs.Oldest.{oldest_of}
use Rattle.reading.proofs.Laws.Reading.{sized}
use Rattle.reading.proofs.Laws.Oldest.{same_oldest}
use Rattle.revision1_reader.specs.Step.{TakeResult, take_on, take_of}

module _ (geometry : Geometry) (left right : List ℕ) (same : SameToDriver (ring_of geometry) left right) where
  Same : TakeResult → TakeResult → Type 0
  Same one other = (one.taken ≡ other.taken) × SameToDriver (ring_of geometry) one.area other.area

  same_on : (oldest : Oldest) → Holds (length left) (ring_of geometry)
      → Same (take_on geometry left oldest) (take_on geometry right oldest)
  unfolding Same
  same_on (Record index event) holds = (refl, same_moved (ring_of geometry) left right same holds (next_index (ring_of geometry) index))
  same_on (Refused number) holds = (refl, same)

  pub same_take : ((take_of geometry left).taken ≡ (take_of geometry right).taken)
      × SameToDriver (ring_of geometry) (take_of geometry left).area (take_of geometry right).area
  unfolding take_of Same
  same_take = go (is_valid_area geometry (length left)) refl
    where
      go : (test : Bool) → is_valid_area geometry (length left) ≡ test → Same (take_of geometry left) (take_of geometry right)
      go false h = rw (← same.same_length, h) (refl, same)
      go true h =
          let valid = sized geometry (length left) h in
          let s = sizes geometry valid.0 in
          rw (← same.same_length, h, same_oldest (ring_of geometry) left right (omega (arith, s.ring_low)) same)
          (same_on (oldest_of (ring_of geometry) right) (rw valid.1 (allowed-holds geometry valid.0)))
