-- The ways out of a write.
use Prim.Native.Nat.{ℕ}
use mathlib.Core.Path.{◌≡◌, refl, ◌∙◌}
use mathlib.Core.Bool.{Bool, true, false}
use mathlib.Core.List.{List, [], ◌∷◌}
use types.Run.{OneOf, miss}
use denote.Enum.Declared.{tag_of}
use lib.ListN.{length}
use borrow.Author.Tests.{ne_eqb}
use Rattle.bits.specs.Bits.{bit}
use Rattle.geometry.specs.declared.Geometry.{Geometry}
use Rattle.device.specs.declared.Device.{Device}
use Rattle.device.specs.Result.{Outcome}
use Rattle.access.specs.declared.Place.{Place}
use Rattle.access.specs.declared.Place.TheVariants.{Magic, Rev, Control, EventSize, Npages, Acceleration, Isr}
use Rattle.access.specs.declared.Place.TheVariants.{ConfSize, ClientRev, ReadPtr, EventArea, EntryPage, Nothing}
use Rattle.access.specs.Place.{place_of}
use Rattle.access.specs.Access.{access_answer}
use Rattle.switch_on.specs.SwitchOn.{switch_on}
use Rattle.device.specs.Revision.{may_run}
use Rattle.device.specs.Setters.{with_control}
use Rattle.device.specs.Result.{outcome_of, result_of}
use Rattle.registers.specs.Write.{control_of, effect_of, write_of}
use Rattle.access.specs.contracts.Place.{the_type}
use Rattle.switch_on.proofs.Laws.SwitchOn.{Leaves}

-- ---- a write to CONTROL

module _ (geometry : Geometry) (device : Device) (area : List ℕ) (value : ℕ) {first second : Bool}
    (on : first ≡ bit value 0) (interrupts : second ≡ bit value 1) where
  -- bit 0 is clear
  pub control_off : first ≡ false → {outcome : Outcome} → outcome ≡ outcome_of 0 (with_control false second device)
      → Leaves outcome area (control_of geometry device area value)
  unfolding control_of
  control_off h o = (o ∙ rw (← on, h, interrupts), rw (← on, h))

  module _ (set : first ≡ true) where
    -- it may not run, so bit 0 stays 0
    pub control_stays_off : may_run device.registers ≡ false → {outcome : Outcome}
        → outcome ≡ outcome_of 0 (with_control false second device)
        → Leaves outcome area (control_of geometry device area value)
    unfolding control_of
    control_stays_off r o = (o ∙ rw (← on, set, r, interrupts), rw (← on, set, r))

    module _ (may : may_run device.registers ≡ true) where
      pub control_stays_on : device.registers.on ≡ true → {outcome : Outcome} → outcome ≡ outcome_of 0 (with_control true second device)
          → Leaves outcome area (control_of geometry device area value)
      unfolding control_of
      control_stays_on was o = (o ∙ rw (← on, set, may, was, interrupts), rw (← on, set, may, was))

      pub control_switches : device.registers.on ≡ false → {outcome : Outcome} {after : List ℕ}
          → Leaves outcome after (switch_on geometry device area second) → Leaves outcome after (control_of geometry device area value)
      unfolding control_of
      control_switches was left = (left.0 ∙ rw (← on, set, may, was, interrupts), left.1 ∙ rw (← on, set, may, was, interrupts))

-- ---- a write to another place

-- the places that have no effect of their own, by their numbers
abbrev others : List ℕ
others = 0 ∷ 1 ∷ 3 ∷ 4 ∷ 7 ∷ 10 ∷ 11 ∷ 12 ∷ []

-- a write to one of them leaves all as it was
pub no_effect : (geometry : Geometry) (device : Device) (area : List ℕ) (value : ℕ) (place : Place)
    → OneOf others (tag_of the_type place) → effect_of geometry device area value place ≡ result_of 0 device area
no_effect geometry device area value Magic h = refl
no_effect geometry device area value Rev h = refl
no_effect geometry device area value Control h = absurd (miss others 2 tt h)
no_effect geometry device area value EventSize h = refl
no_effect geometry device area value Npages h = refl
no_effect geometry device area value Acceleration h = absurd (miss others 5 tt h)
no_effect geometry device area value Isr h = absurd (miss others 6 tt h)
no_effect geometry device area value ConfSize h = refl
no_effect geometry device area value ClientRev h = absurd (miss others 8 tt h)
no_effect geometry device area value ReadPtr h = absurd (miss others 9 tt h)
no_effect geometry device area value EventArea h = refl
no_effect geometry device area value EntryPage h = refl
no_effect geometry device area value Nothing h = refl

-- ---- any write

module _ (geometry : Geometry) (device : Device) (area : List ℕ) (page_size offset width value : ℕ) {answer : ℕ}
    (judged : answer ≡ access_answer geometry device (length area) page_size true offset width) where
  pub write_refused : (answer ≡ 0 → ⊥) → Leaves (outcome_of answer device) area (write_of geometry device area page_size offset width value)
  unfolding write_of
  write_refused h = (rw (← judged, ne_eqb answer 0 h), rw (← judged, ne_eqb answer 0 h))

  pub write_granted : answer ≡ 0 → {place : Place} {outcome : Outcome} {after : List ℕ}
      → place ≡ place_of geometry offset → Leaves outcome after (effect_of geometry device area value place)
      → Leaves outcome after (write_of geometry device area page_size offset width value)
  unfolding write_of
  write_granted h e left = (left.0 ∙ rw (← judged, h, e), left.1 ∙ rw (← judged, h, e))
