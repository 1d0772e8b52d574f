-- The ways out of a step, each with what is told and what stands in the area.
use Prim.Native.Nat.{ℕ}
use mathlib.Core.Path.{◌≡◌, ◌∙◌}
use mathlib.Core.Logic.{◌≢◌}
use mathlib.Core.Bool.{true, false}
use mathlib.Core.List.{List}
use lib.Dec.{eqb}
use lib.ListN.{length}
use borrow.Author.Tests.{eqb-true, eq-eqb, ne_eqb}
use Rattle.geometry.specs.declared.Geometry.{Geometry}
use Rattle.geometry.specs.Geometry.{allowed, area_length, ring_of}
use Rattle.geometry.proofs.Laws.Allowed.{both}
use Rattle.records.specs.declared.Event.{Event}
use Rattle.records.specs.Ring.{Holds, with_read_pointer, next_index}
use Rattle.records.proofs.Laws.Place.{allowed-holds}
use Rattle.assembly.specs.declared.Driver.{Driver}
use Rattle.assembly.specs.Told.{Told, Stepped}
use Rattle.assembly.specs.Told as told
use Rattle.reading.specs.Oldest as oldest
use Rattle.assembly.specs.Transition.{tells, receive}
use Rattle.assembly.specs.Collect.{packet_length, collected}
use Rattle.reading.specs.Reading.{is_valid_area}
use Rattle.reading.proofs.Laws.Reading.{sized}
use Rattle.reading.specs.Oldest.{oldest_of}
use Rattle.driver.specs.Step.{is_driver, is_valid_step, step_of}

pub record Valid (geometry : Geometry) (driver : Driver) (area_size packet_size : ℕ) : Type 0 where
  pub is_allowed : allowed geometry ≡ true
  pub is_area_length : area_size ≡ area_length geometry
  pub holds_packet : packet_size ≡ packet_length

pub valid : (geometry : Geometry) (driver : Driver) (area_size packet_size : ℕ)
    → is_valid_step geometry driver area_size packet_size ≡ true
    → Valid geometry driver area_size packet_size
unfolding is_valid_step
valid geometry driver area_size packet_size h =
    let a = both (is_valid_area geometry area_size) _ h in
    let b = both (eqb packet_size packet_length) (is_driver geometry driver) a.1 in
    let s = sized geometry area_size a.0 in
    record { is_allowed = s.0; is_area_length = s.1; holds_packet = eqb-true packet_size packet_length b.0 }

-- ---- the tests in their order

module _ (geometry : Geometry) (driver : Driver) (area_size packet_size : ℕ) where
  pub wrong_area : is_valid_area geometry area_size ≡ false → is_valid_step geometry driver area_size packet_size ≡ false
  unfolding is_valid_step
  wrong_area h = rw h

  module _ (fine : is_valid_area geometry area_size ≡ true) where
    pub wrong_packet : packet_size ≢ packet_length → is_valid_step geometry driver area_size packet_size ≡ false
    unfolding is_valid_step
    wrong_packet n = rw (fine, ne_eqb packet_size packet_length n)

    pub wrong_driver : packet_size ≡ packet_length → is_driver geometry driver ≡ false
        → is_valid_step geometry driver area_size packet_size ≡ false
    unfolding is_valid_step
    wrong_driver e h = rw (fine, eq-eqb packet_size packet_length e, h)

    pub all_valid : packet_size ≡ packet_length → is_driver geometry driver ≡ true
        → is_valid_step geometry driver area_size packet_size ≡ true
    unfolding is_valid_step
    all_valid e h = rw (fine, eq-eqb packet_size packet_length e, h)

-- ---- the ways out

-- what a step tells, with the driver after it
pub told_with : {stepped : Stepped} {what : Told} {driver : Driver} → what ≡ stepped.told → driver ≡ stepped.driver
    → tells what driver ≡ stepped
told_with w d = rw (w, d)

-- What a step leaves is what the definition says.
pub record Leaves (geometry : Geometry) (driver : Driver) (area packet : List ℕ) (result : Stepped) (area' packet' : List ℕ) : Type 0 where
  pub told : result ≡ (step_of geometry driver area packet).stepped
  pub area_left : area' ≡ (step_of geometry driver area packet).area
  pub packet_left : packet' ≡ (step_of geometry driver area packet).packet

module _ (geometry : Geometry) (driver : Driver) (area packet : List ℕ) where
  -- the area of a valid call holds the ring
  pub valid_holds : is_valid_step geometry driver (length area) (length packet) ≡ true → Holds (length area) (ring_of geometry)
  valid_holds h =
      let v = valid geometry driver (length area) (length packet) h in
      rw v.is_area_length (allowed-holds geometry v.is_allowed)

  pub step_invalid : is_valid_step geometry driver (length area) (length packet) ≡ false
      → Leaves geometry driver area packet (tells (told.Refused 1) driver) area packet
  unfolding step_of
  step_invalid h = record { told = rw h; area_left = rw h; packet_left = rw h }

  pub step_refused : {number : ℕ} → is_valid_step geometry driver (length area) (length packet) ≡ true
      → oldest_of (ring_of geometry) area ≡ oldest.Refused number
      → Leaves geometry driver area packet (tells (told.Refused number) driver) area packet
  unfolding step_of
  step_refused h e = record { told = rw (h, e); area_left = rw (h, e); packet_left = rw (h, e) }

  pub step_received : {index : ℕ} {event : Event} {area' packet' : List ℕ} {result : Stepped}
      → is_valid_step geometry driver (length area) (length packet) ≡ true
      → oldest_of (ring_of geometry) area ≡ oldest.Record index event → result ≡ receive geometry event driver
      → area' ≡ with_read_pointer area (next_index (ring_of geometry) index)
      → packet' ≡ collected driver (receive geometry event driver).driver event packet
      → Leaves geometry driver area packet result area' packet'
  unfolding step_of
  step_received h e r a p = record { told = r ∙ rw (h, e); area_left = a ∙ rw (h, e); packet_left = p ∙ rw (h, e) }
