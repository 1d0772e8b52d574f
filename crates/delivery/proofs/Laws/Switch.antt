-- The access that switches the device on: what it leaves of the state and of the area, and that it was a call.
use Prim.Native.Nat.{ℕ, ◌≤◌}
use mathlib.Core.Path.{◌≡◌, refl, sym, ap, ◌∙◌}
use mathlib.Core.Bool.{Bool, true, false, not, ◌&&◌, false≢true}
use mathlib.Core.List.{List}
use native.Mathlib.Omega.{arith}
use lib.Dec.{eqb}
use lib.ListN.{length}
use borrow.Author.Tests.{eqb-true}
use Rattle.answers.proofs.Choice.{either}
use Rattle.words.specs.Words.{u32_bytes}
use Rattle.copying.proofs.Laws.Overwrite.{overwrite-length, overwrite-before}
use Rattle.words.proofs.Laws.Word.{agree_u32, u32_back}
use Rattle.bits.specs.Bits.{bit}
use Rattle.geometry.specs.declared.Geometry.{Geometry}
use Rattle.geometry.specs.Geometry.{allowed, ring_of}
use Rattle.records.specs.Ring.{read_pointer, write_pointer, with_read_pointer}
use Rattle.records.specs.Put.{put_records, index_after}
use Rattle.device.specs.declared.Device.{Device}
use Rattle.device.specs.Revision.{is_revision1, may_run}
use Rattle.device.specs.State.{is_acceleration}
use Rattle.device.specs.Result.{Result}
use Rattle.device.proofs.Laws.Call.{Call}
use Rattle.access.specs.declared.Place.{Place}
use Rattle.access.specs.declared.Place.TheVariants as place
use Rattle.access.specs.Place.{place_of}
use Rattle.access.specs.Access.{access_answer}
use Rattle.access.proofs.Laws.Access.{granted}
use Rattle.switch_on.specs.SwitchOn.{start_records, cleared_pointers, switched_on}
use Rattle.switch_on.proofs.Laws.SwitchOn.{always_starts}
use Rattle.registers.specs.Write.{control_of, client_rev_of, acceleration_of, effect_of, write_of}

-- ---- both pointers 0

module _ (area : List ℕ) (room : 8 ≤ length area) where
  half : length (with_read_pointer area 0) ≡ length area
  half = overwrite-length area 0 (u32_bytes 0) (omega arith)

  pub cleared_length : length (cleared_pointers area) ≡ length area
  cleared_length = overwrite-length (with_read_pointer area 0) 4 (u32_bytes 0) (omega (arith, half)) ∙ half

  pub cleared_write : write_pointer (cleared_pointers area) ≡ 0
  cleared_write = u32_back (with_read_pointer area 0) 4 0 (omega arith) (omega (arith, half))

  pub cleared_read : read_pointer (cleared_pointers area) ≡ 0
  cleared_read =
      agree_u32 (cleared_pointers area) (with_read_pointer area 0) 0
      (overwrite-before (with_read_pointer area 0) 4 (u32_bytes 0) 0 4 (omega (arith, half)) (omega arith))
      ∙ u32_back area 0 0 (omega arith) (omega arith)

-- ---- the access

-- A write after which a device that was off is on.
pub record Switched (geometry : Geometry) (device : Device) (area : List ℕ) (result : Result) : Type 0 where
  pub interrupts : Bool
  pub device_after : result.outcome.device ≡ switched_on interrupts (index_after (ring_of geometry) 0 (start_records geometry device))
      device
  pub area-after : result.area ≡ put_records (ring_of geometry) 0 (start_records geometry device) (cleared_pointers area)

module _ (geometry : Geometry) (device : Device) (area : List ℕ) (ok : allowed geometry ≡ true) (off : device.registers.on ≡ false) where
  OnlyOn : Result → Type 0
  OnlyOn result = result.outcome.device.registers.on ≡ true → Switched geometry device area result

  stays_off : (result : Result) → result.outcome.device.registers.on ≡ false → OnlyOn result
  unfolding OnlyOn
  stays_off result still on = absurd (false≢true (sym still ∙ on))

  not_asked : (wanted two : Bool) → (wanted && (two && not device.registers.on)) ≡ false → (wanted && two) ≡ false
  not_asked true true h = absurd (false≢true (sym (rw off at h)))
  not_asked true false h = refl
  not_asked false two h = refl

  control_switches : (value : ℕ) → OnlyOn (control_of geometry device area value)
  unfolding control_of OnlyOn
  control_switches value =
      either OnlyOn (bit value 0 && (may_run device.registers && not device.registers.on))
      (λ asked on.
      let start = always_starts geometry device ok area (bit value 1) in
      record {
        interrupts = bit value 1;
        device_after = ap (λ (result : Result). result.outcome.device) start;
        area-after = ap (λ (result : Result). result.area) start;
      })
      (λ kept. stays_off _ (not_asked (bit value 0) (may_run device.registers) kept))

  client_rev_off : (value : ℕ) → (client_rev_of device value).registers.on ≡ false
  unfolding client_rev_of
  client_rev_off value = either (λ (after : Device). after.registers.on ≡ false) device.registers.on (λ on. off) (λ still. off)

  acceleration_off : (value : ℕ) → (acceleration_of device value).registers.on ≡ false
  unfolding acceleration_of
  acceleration_off value =
      either (λ (after : Device). after.registers.on ≡ false) (is_revision1 device.registers && is_acceleration value)
      (λ taken. off) (λ ignored. off)

  effect_switches : (value : ℕ) (at : Place) → OnlyOn (effect_of geometry device area value at)
  effect_switches value place.Magic = stays_off _ off
  effect_switches value place.Rev = stays_off _ off
  effect_switches value place.Control = control_switches value
  effect_switches value place.EventSize = stays_off _ off
  effect_switches value place.Npages = stays_off _ off
  effect_switches value place.Acceleration = stays_off _ (acceleration_off value)
  effect_switches value place.Isr = stays_off _ off
  effect_switches value place.ConfSize = stays_off _ off
  effect_switches value place.ClientRev = stays_off _ (client_rev_off value)
  effect_switches value place.ReadPtr = stays_off _ off
  effect_switches value place.EventArea = stays_off _ off
  effect_switches value place.EntryPage = stays_off _ off
  effect_switches value place.Nothing = stays_off _ off

  pub write_switches : (page_size offset width value : ℕ)
      → (write_of geometry device area page_size offset width value).outcome.device.registers.on ≡ true
      → Switched geometry device area (write_of geometry device area page_size offset width value)
  unfolding write_of OnlyOn
  write_switches page_size offset width value =
      either OnlyOn (eqb (access_answer geometry device (length area) page_size true offset width) 0)
      (λ done. effect_switches value (place_of geometry offset)) (λ refused. stays_off _ off)

-- a write that changes the state was a call
pub was_call : (geometry : Geometry) (device : Device) (area : List ℕ) (page_size offset width value : ℕ) → device.registers.on ≡ false
    → (write_of geometry device area page_size offset width value).outcome.device.registers.on ≡ true
    → Call geometry device (length area) page_size
unfolding write_of
was_call geometry device area page_size offset width value off on =
    go (eqb (access_answer geometry device (length area) page_size true offset width) 0) refl
  where
    go : (test : Bool) → eqb (access_answer geometry device (length area) page_size true offset width) 0 ≡ test
        → Call geometry device (length area) page_size
    go true done = (granted geometry device (length area) page_size true offset width (eqb-true _ 0 done)).is_call
    go false refused = absurd (false≢true (sym off ∙ rw refused at on))
