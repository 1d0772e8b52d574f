-- What is known of a reading call that is not refused.
use Prim.Native.Nat.{ℕ, ◌<◌}
use mathlib.Core.Path.{◌≡◌}
use mathlib.Core.Bool.{true}
use mathlib.Core.List.{List}
use native.Mathlib.Omega.{arith}
use lib.ListN.{length}
use borrow.Author.Tests.{leb-false, eqb-false, eqb-true}
use Rattle.answers.proofs.Laws.{none_holds}
use Rattle.geometry.specs.declared.Geometry.{Geometry}
use Rattle.geometry.specs.declared.Ring.{Ring}
use Rattle.geometry.specs.declared.layout.Layout.{Layout}
use Rattle.geometry.specs.Geometry.{allowed, area_length, ring_of}
use Rattle.geometry.proofs.Laws.Allowed.{both}
use Rattle.records.specs.Ring.{Holds}
use Rattle.records.proofs.Laws.Place.{allowed-holds}
use Rattle.reading.specs.Reading.{is_valid_area, reading_refusal}

pub sized : (geometry : Geometry) (size : ℕ) → is_valid_area geometry size ≡ true
    → (allowed geometry ≡ true) × (size ≡ area_length geometry)
unfolding is_valid_area
sized geometry size h =
    let a = both (allowed geometry) _ h in
    (a.0, eqb-true size (area_length geometry) a.1)

-- an area of the right length holds the ring
pub sized_holds : (geometry : Geometry) (area : List ℕ) → is_valid_area geometry (length area) ≡ true
    → Holds (length area) (ring_of geometry)
sized_holds geometry area h =
    let s = sized geometry (length area) h in
    rw s.1 (allowed-holds geometry s.0)

-- an area of a layout's own length holds its ring
pub layout_holds : (layout : Layout) {geometry : Geometry} {size : ℕ} → layout.geometry ≡ geometry → size ≡ area_length geometry
    → Holds size (ring_of geometry)
layout_holds layout same long =
    let known : allowed _ ≡ true = rw same at layout.is_allowed in
    rw long (allowed-holds _ known)

pub record Possible (ring : Ring) (read write : ℕ) : Type 0 where
  pub read_inside : read < ring.length
  pub write_inside : write < ring.length
  pub some_unread : read ≡ write → ⊥

-- where reading is not refused, the pointers are possible and apart
pub possible : (ring : Ring) (read write : ℕ) → reading_refusal ring read write ≡ 0 → Possible ring read write
unfolding reading_refusal
possible ring read write h =
    let a = none_holds _ _ _ (omega arith) h in
    let b = none_holds _ _ _ (omega arith) a.1 in
    let c = none_holds _ _ _ (omega arith) b.1 in
    record { read_inside = leb-false _ read a.0; write_inside = leb-false _ write b.0; some_unread = eqb-false read write c.0 }
