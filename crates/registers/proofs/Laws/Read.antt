-- The ways out of a read.
use Prim.Native.Nat.{ℕ}
use mathlib.Core.Path.{◌≡◌}
use mathlib.Core.Bool.{false}
use mathlib.Core.List.{List}
use lib.ListN.{length}
use borrow.Author.Tests.{ne_eqb}
use Rattle.geometry.specs.declared.Geometry.{Geometry}
use Rattle.device.specs.declared.Device.{Device}
use Rattle.registers.specs.declared.Value.{Value}
use Rattle.access.specs.Place.{place_of}
use Rattle.access.specs.Access.{access_answer}
use Rattle.registers.specs.Read.{value_of, read_of}

module _ (geometry : Geometry) (device : Device) (area page : List ℕ) (offset width : ℕ) {answer : ℕ}
    (judged : answer ≡ access_answer geometry device (length area) (length page) false offset width) where
  pub read_refused : (answer ≡ 0 → ⊥) → ◌≡◌ {A = Value} (record { answer = answer; value = 0 })
      (read_of geometry device area page offset width)
  unfolding read_of
  read_refused h = rw (← judged, ne_eqb answer 0 h)

  pub read_granted : answer ≡ 0 → {value : ℕ} → value ≡ value_of geometry device area page offset (place_of geometry offset)
      → ◌≡◌ {A = Value} (record { answer = 0; value = value }) (read_of geometry device area page offset width)
  unfolding read_of
  read_granted h e = rw (← judged, h, e)
