-- What a write keeps: the state rules, by what each setter needs, and the length of the event area.
use Prim.Native.Nat.{ℕ, ◌≤◌}
use mathlib.Core.Path.{◌≡◌, refl, ◌∙◌}
use mathlib.Core.Bool.{Bool, true, false, not, ◌&&◌, cond, false≢true}
use mathlib.Core.List.{List}
use native.Mathlib.Omega.{arith}
use lib.Dec.{eqb}
use lib.ListN.{length}
use borrow.Author.Tests.{eqb-true}
use Rattle.answers.proofs.Choice.{either}
use Rattle.words.specs.Words.{u32_bytes}
use Rattle.copying.proofs.Laws.Overwrite.{overwrite-length}
use Rattle.bits.specs.Bits.{bit}
use Rattle.geometry.specs.declared.Geometry.{Geometry}
use Rattle.geometry.specs.Geometry.{allowed, ring_of}
use Rattle.geometry.proofs.Laws.Allowed.{both, sizes}
use Rattle.records.specs.Ring.{Holds, with_read_pointer}
use Rattle.records.proofs.Laws.Place.{pointers_inside}
use Rattle.records.proofs.Laws.PutAll.{after_inside, puts_length}
use Rattle.device.specs.declared.Device.{Device}
use Rattle.device.specs.Revision.{is_revision1, may_run}
use Rattle.device.specs.State.{fresh_producer, is_acceleration, is_client_rev}
use Rattle.device.specs.Result.{Result}
use Rattle.device.proofs.Laws.Rules.{Rules, rules_isr, rules_control, rules_client_rev, rules_acceleration, rules_producer}
use Rattle.device.proofs.Laws.Rules.{rules_write_index, none_current}
use Rattle.access.specs.declared.Place.{Place}
use Rattle.access.specs.declared.Place.TheVariants.{Magic, Rev, Control, EventSize, Npages, Acceleration, Isr}
use Rattle.access.specs.declared.Place.TheVariants.{ConfSize, ClientRev, ReadPtr, EventArea, EntryPage, Nothing}
use Rattle.access.specs.Place.{place_of}
use Rattle.access.specs.Access.{access_answer}
use Rattle.access.proofs.Laws.Access.{granted}
use Rattle.switch_on.specs.SwitchOn.{start_records, cleared_pointers, switch_on}
use Rattle.switch_on.proofs.Laws.SwitchOn.{always_starts}
use Rattle.registers.specs.Write.{control_of, client_rev_of, acceleration_of, effect_of, write_of}

-- on only where it may run
on_if_may : (wanted may : Bool) → (wanted && may) ≡ true → may ≡ true
on_if_may true may h = h
on_if_may false may h = absurd (false≢true h)

-- CLIENT_REV after a write is 0, 1 or 2
is_client_rev_lem : (two one : Bool) → is_client_rev (cond two 2 (cond one 1 0)) ≡ true
is_client_rev_lem true one = refl
is_client_rev_lem false true = refl
is_client_rev_lem false false = refl

module _ (geometry : Geometry) (device : Device) (keeps : Rules geometry device) where
  client_rev_keeps : (value : ℕ) → Rules geometry (client_rev_of device value)
  unfolding client_rev_of
  client_rev_keeps value =
      either (Rules geometry) device.registers.on (λ on. keeps)
      (λ off. rules_client_rev keeps _ off (is_client_rev_lem (eqb value 2) (eqb value 1)))

  acceleration_keeps : (value : ℕ) → Rules geometry (acceleration_of device value)
  unfolding acceleration_of
  acceleration_keeps value =
      either (Rules geometry) (is_revision1 device.registers && is_acceleration value)
      (λ taken. rules_acceleration keeps value (both (is_revision1 device.registers) _ taken).1) (λ ignored. keeps)

  module _ (sized : allowed geometry ≡ true) (area : List ℕ) (value : ℕ) where
    switch_keeps : may_run device.registers ≡ true → Rules geometry (switch_on geometry device area (bit value 1)).outcome.device
    switch_keeps may =
        let s = sizes geometry sized in
        rw (always_starts geometry device sized area (bit value 1))
        (rules_write_index
        (rules_producer (rules_control keeps true (bit value 1) (λ on. may)) fresh_producer (omega (arith, s))
        (none_current device.taken))
        _ (after_inside (ring_of geometry) 0 (start_records geometry device) (omega (arith, s))))

    control_keeps : Rules geometry (control_of geometry device area value).outcome.device
    unfolding control_of
    control_keeps =
        either (λ (r : Result). Rules geometry r.outcome.device)
        (bit value 0 && (may_run device.registers && not device.registers.on))
        (λ on. switch_keeps (both _ _ (both (bit value 0) _ on).1).0)
        (λ on. rules_control keeps _ (bit value 1) (on_if_may (bit value 0) (may_run device.registers)))

    effect_keeps : (place : Place) → Rules geometry (effect_of geometry device area value place).outcome.device
    effect_keeps Magic = keeps
    effect_keeps Rev = keeps
    effect_keeps Control = control_keeps
    effect_keeps EventSize = keeps
    effect_keeps Npages = keeps
    effect_keeps Acceleration = acceleration_keeps value
    effect_keeps Isr = rules_isr keeps false
    effect_keeps ConfSize = keeps
    effect_keeps ClientRev = client_rev_keeps value
    effect_keeps ReadPtr = keeps
    effect_keeps EventArea = keeps
    effect_keeps EntryPage = keeps
    effect_keeps Nothing = keeps

  -- any write, refused or not
  pub write_keeps : (area : List ℕ) (page_size offset width value : ℕ)
      → Rules geometry (write_of geometry device area page_size offset width value).outcome.device
  unfolding write_of
  write_keeps area page_size offset width value =
      either (λ (r : Result). Rules geometry r.outcome.device)
      (eqb (access_answer geometry device (length area) page_size true offset width) 0)
      (λ done. effect_keeps (granted _ _ _ _ _ _ _ (eqb-true _ 0 done)).is_call.is_allowed area value (place_of geometry offset))
      (λ refused. keeps)

-- ---- the event area's length

module _ (geometry : Geometry) (device : Device) (area : List ℕ) (value : ℕ) (sized : allowed geometry ≡ true)
    (holds : Holds (length area) (ring_of geometry)) where
  room : 8 ≤ length area
  room = pointers_inside (length area) (ring_of geometry) holds

  read_pointer_size : (index : ℕ) → length (with_read_pointer area index) ≡ length area
  read_pointer_size index = overwrite-length area 0 (u32_bytes index) (omega (arith, room))

  cleared_size : length (cleared_pointers area) ≡ length area
  cleared_size = overwrite-length (with_read_pointer area 0) 4 (u32_bytes 0) (omega (arith, room, read_pointer_size 0))
      ∙ read_pointer_size 0

  switch_size : (interrupts : Bool) → length (switch_on geometry device area interrupts).area ≡ length area
  switch_size interrupts =
      rw (always_starts geometry device sized area interrupts)
      (puts_length (ring_of geometry) 0 (start_records geometry device) (cleared_pointers area) (rw cleared_size holds)
      (omega (arith, sizes geometry sized)) ∙ cleared_size)

  control_size : length (control_of geometry device area value).area ≡ length area
  unfolding control_of
  control_size =
      either (λ (r : Result). length r.area ≡ length area) (bit value 0 && (may_run device.registers && not device.registers.on))
      (λ on. switch_size (bit value 1)) (λ on. refl)

  effect_size : (place : Place) → length (effect_of geometry device area value place).area ≡ length area
  effect_size Magic = refl
  effect_size Rev = refl
  effect_size Control = control_size
  effect_size EventSize = refl
  effect_size Npages = refl
  effect_size Acceleration = refl
  effect_size Isr = refl
  effect_size ConfSize = refl
  effect_size ClientRev = refl
  effect_size ReadPtr = read_pointer_size _
  effect_size EventArea = refl
  effect_size EntryPage = refl
  effect_size Nothing = refl

pub write_size : (geometry : Geometry) (device : Device) (area : List ℕ) (page_size offset width value : ℕ)
    → length (write_of geometry device area page_size offset width value).area ≡ length area
unfolding write_of
write_size geometry device area page_size offset width value =
    either (λ (r : Result). length r.area ≡ length area) (eqb (access_answer geometry device (length area) page_size true offset width) 0)
    (λ done. let call = (granted _ _ _ _ _ _ _ (eqb-true _ 0 done)).is_call in effect_size geometry device area value call.is_allowed
    call.holds (place_of geometry offset))
    (λ refused. refl)
