-- ACCELERATION stands at 0x10C, and nowhere else: the table, row by row.
use Prim.Native.Nat.{ℕ}
use mathlib.Core.Path.{◌≡◌, refl, sym, ◌∙◌}
use mathlib.Core.Bool.{Bool, true, false}
use mathlib.Core.Logic.{◌≢◌}
use native.Mathlib.Decide.{ℕ_discrete}
use lib.Dec.{ltb, eqb}
use borrow.Author.Tests.{eqb-true, ne_eqb}
use Rattle.answers.proofs.Choice.{either}
use Rattle.geometry.specs.declared.Geometry.{Geometry}
use Rattle.access.specs.declared.Place.{Place}
use Rattle.access.specs.declared.Place.TheVariants.{Magic, Rev, Control, EventSize, Npages, Acceleration, Isr}
use Rattle.access.specs.declared.Place.TheVariants.{ConfSize, ClientRev, ReadPtr, EventArea, EntryPage, Nothing}
use Rattle.access.specs.Place.{registers, place_in, place_of}

abbrev pub is_acceleration_place : Place → Bool
is_acceleration_place Magic = false
is_acceleration_place Rev = false
is_acceleration_place Control = false
is_acceleration_place EventSize = false
is_acceleration_place Npages = false
is_acceleration_place Acceleration = true
is_acceleration_place Isr = false
is_acceleration_place ConfSize = false
is_acceleration_place ClientRev = false
is_acceleration_place ReadPtr = false
is_acceleration_place EventArea = false
is_acceleration_place EntryPage = false
is_acceleration_place Nothing = false

abbrev Elsewhere : Place → Type 0
Elsewhere place = is_acceleration_place place ≡ false

module _ (offset : ℕ) (other : offset ≢ 0x10C) where
  in_table : Elsewhere (place_in registers offset)
  unfolding place_in
  in_table =
      either Elsewhere (eqb offset 0x000) (λ e. refl)
      (λ e. either Elsewhere (eqb offset 0x004) (λ e. refl)
      (λ e. either Elsewhere (eqb offset 0x100) (λ e. refl)
      (λ e. either Elsewhere (eqb offset 0x104) (λ e. refl)
      (λ e. either Elsewhere (eqb offset 0x108) (λ e. refl)
      (λ e. either Elsewhere (eqb offset 0x10C) (λ e. absurd (other (eqb-true offset 0x10C e)))
      (λ e. either Elsewhere (eqb offset 0x110) (λ e. refl)
      (λ e. either Elsewhere (eqb offset 0x114) (λ e. refl)
      (λ e. either Elsewhere (eqb offset 0x118) (λ e. refl) (λ e. refl)))))))))

  elsewhere : (geometry : Geometry) → Elsewhere (place_of geometry offset)
  unfolding place_of
  elsewhere geometry =
      either Elsewhere (ltb offset 0x1000) (λ low. in_table)
      (λ high. either Elsewhere (eqb offset 0x1000) (λ e. refl) (λ e. either Elsewhere (ltb offset _) (λ e. refl) (λ e. refl)))

pub acceleration_place : (geometry : Geometry) (offset : ℕ) → is_acceleration_place (place_of geometry offset) ≡ eqb offset 0x10C
unfolding place_of place_in
acceleration_place geometry offset = elim (ℕ_discrete offset 0x10C) [
  | yes e ↦ rw e
  | no n ↦ elsewhere offset n geometry ∙ sym (ne_eqb offset 0x10C n)
]
