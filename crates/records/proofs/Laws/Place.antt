-- Where records lie: behind the pointers, within the area, and apart from one another.
use Prim.Native.Nat.{ℕ, ◌+◌, ◌*◌, ◌≤◌, ◌<◌}
use mathlib.Core.Path.{◌≡◌}
use mathlib.Core.Bool.{true}
use native.Mathlib.Omega.{arith}
use native.Mathlib.Nat.{mul-le-mul_left, mul-add, mul-one}
use Rattle.geometry.specs.declared.Geometry.{Geometry}
use Rattle.geometry.specs.declared.Ring.{Ring}
use Rattle.geometry.specs.Geometry.{allowed, area_length, ring_of, record_place}
use Rattle.geometry.proofs.Laws.Allowed.{sizes}
use Rattle.records.specs.Ring.{Holds}

-- the area of an allowed geometry holds its ring
pub allowed-holds : (geometry : Geometry) → allowed geometry ≡ true → Holds (area_length geometry) (ring_of geometry)
allowed-holds geometry h =
    let s = sizes geometry h in
    record { wide = s.record_low; inside = omega (arith, s.ring_fills); small = omega (arith, s.ring_high) }

module _ (size : ℕ) (ring : Ring) (holds : Holds size ring) where
  pub place_low : (index : ℕ) → 8 ≤ record_place ring index
  place_low index =
      let least : ring.record_size * 1 ≤ ring.record_size * (index + 1) = mul-le-mul_left ring.record_size (omega arith) in
      omega (arith, mul-one ring.record_size)

  -- a record ends where the next one may begin
  place_next : (index next : ℕ) → index < next → record_place ring index + 8 ≤ ring.record_size * (next + 1)
  place_next index next h =
      let most : ring.record_size * (index + 1 + 1) ≤ ring.record_size * (next + 1) =
      mul-le-mul_left ring.record_size (omega arith) in
      omega (arith, mul-add ring.record_size (index + 1) 1, mul-one ring.record_size)

  pub place_apart : (index next : ℕ) → index < next → record_place ring index + 8 ≤ record_place ring next
  place_apart index next h = place_next index next h

  pub place_inside : (index : ℕ) → index < ring.length → record_place ring index + 8 ≤ size
  place_inside index h = omega (arith, place_next index ring.length h)

  pub pointers_inside : 8 ≤ size
  pointers_inside =
      let least : ring.record_size * 1 ≤ ring.record_size * (ring.length + 1) =
      mul-le-mul_left ring.record_size (omega arith) in
      omega (arith, mul-one ring.record_size)
