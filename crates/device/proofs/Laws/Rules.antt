-- The state's rules as facts, and what each setter needs to keep them. Whoever changes a state shows that it keeps its rules by these
-- laws alone, so that a rule that is widened is proved again here.
use Prim.Native.Nat.{ℕ, ◌^◌, ◌<◌}
use mathlib.Core.Path.{◌≡◌, refl, sym, ◌∙◌}
use mathlib.Core.Bool.{Bool, true, false, not, ◌||◌, false≢true}
use native.Mathlib.Omega.{arith}
use native.Mathlib.Decide.{dec_lt}
use lib.Dec.{eqb}
use borrow.Author.Tests.{ltb-true, lt-ltb}
use Rattle.bits.proofs.Laws.{bit_above}
use Rattle.geometry.specs.declared.Geometry.{Geometry}
use Rattle.geometry.specs.Geometry.{ring_length, slot_count}
use Rattle.geometry.proofs.Laws.Allowed.{both}
use Rattle.records.specs.Codes.{no_slot}
use Rattle.revision1_records.specs.declared.Position.{Position}
use Rattle.device.specs.declared.Registers.{Registers}
use Rattle.device.specs.declared.Producer.{Producer}
use Rattle.device.specs.declared.Device.{Device}
use Rattle.device.specs.Revision.{may_run}
use Rattle.device.specs.Setters.{with_producer, with_taken, with_control, with_isr, with_client_rev, with_acceleration}
use Rattle.device.specs.Setters.{with_lost, with_position, with_write_index, with_current_slot}
use Rattle.device.specs.State.{is_taken, is_acceleration, is_client_rev, taken_rule, write_index_rule, client_rev_rule, current_rule}
use Rattle.device.specs.State.{is_device}

pub record Rules (geometry : Geometry) (device : Device) : Type 0 where
  pub write_inside : device.producer.write_index < ring_length geometry
  pub client_rev : client_rev_rule device.registers ≡ true
  pub acceleration : is_acceleration device.registers.acceleration ≡ true
  pub taken_inside : device.taken < 2 ^ slot_count geometry
  pub current : current_rule device.taken device.producer.current_slot ≡ true

-- ---- the test and the facts

pub rules : (geometry : Geometry) (device : Device) → is_device geometry device ≡ true → Rules geometry device
unfolding is_device
rules geometry device h =
    let a = both (write_index_rule geometry device.producer.write_index) _ h in
    let b = both (taken_rule geometry device.taken) _ a.1 in
    let c = both (client_rev_rule device.registers) _ b.1 in
    let d = both (is_acceleration device.registers.acceleration) _ c.1 in
    record {
      write_inside = ltb-true _ _ a.0;
      client_rev = c.0;
      acceleration = d.0;
      taken_inside = ltb-true device.taken (2 ^ slot_count geometry) b.0;
      current = d.1;
    }

pub rules_hold : (geometry : Geometry) (device : Device) → Rules geometry device → is_device geometry device ≡ true
unfolding is_device
rules_hold geometry device keeps =
    rw (
      lt-ltb device.producer.write_index (ring_length geometry) keeps.write_inside,
      keeps.client_rev,
      keeps.acceleration,
      lt-ltb device.taken (2 ^ slot_count geometry) keeps.taken_inside,
      keeps.current,
    )

-- ---- the registers

-- CLIENT_REV is 0, 1 or 2, and 0 if never written: what CONTROL doesn't decide
client_rev_parts : (registers : Registers) → client_rev_rule registers ≡ true
    → (is_client_rev registers.client_rev ≡ true)
    × ((registers.client_rev_written || eqb registers.client_rev 0) ≡ true)
unfolding client_rev_rule
client_rev_parts registers rule =
    let a = both (is_client_rev registers.client_rev) _ rule in
    (a.0, (both (not registers.on || may_run registers) _ a.1).1)

on_if : (on may : Bool) → (on ≡ true → may ≡ true) → (not on || may) ≡ true
on_if true may h = h refl
on_if false may h = refl

module _ {geometry : Geometry} {device : Device} (keeps : Rules geometry device) where
  pub rules_isr : (isr : Bool) → Rules geometry (with_isr isr device)
  unfolding client_rev_rule
  rules_isr isr = record {
    write_inside = keeps.write_inside;
    client_rev = keeps.client_rev;
    acceleration = keeps.acceleration;
    taken_inside = keeps.taken_inside;
    current = keeps.current;
  }

  -- a device is switched on only where it may run
  pub rules_control : (on interrupts : Bool) → (on ≡ true → may_run device.registers ≡ true)
      → Rules geometry (with_control on interrupts device)
  unfolding client_rev_rule
  rules_control on interrupts may =
      let parts = client_rev_parts device.registers keeps.client_rev in
      record {
        write_inside = keeps.write_inside;
        client_rev = rw (parts.0, on_if on (may_run device.registers) may, parts.1);
        acceleration = keeps.acceleration;
        taken_inside = keeps.taken_inside;
        current = keeps.current;
      }

  -- while off CLIENT_REV becomes 0, 1 or 2
  pub rules_client_rev : (rev : ℕ) → device.registers.on ≡ false → is_client_rev rev ≡ true
      → Rules geometry (with_client_rev rev device)
  unfolding client_rev_rule
  rules_client_rev rev off allowed = record {
    write_inside = keeps.write_inside;
    client_rev = rw (allowed, off);
    acceleration = keeps.acceleration;
    taken_inside = keeps.taken_inside;
    current = keeps.current;
  }

  pub rules_acceleration : (acceleration : ℕ) → is_acceleration acceleration ≡ true → Rules geometry (with_acceleration acceleration device)
  unfolding client_rev_rule
  rules_acceleration acceleration inside = record {
    write_inside = keeps.write_inside;
    client_rev = keeps.client_rev;
    acceleration = inside;
    taken_inside = keeps.taken_inside;
    current = keeps.current;
  }

  -- ---- the device's end of the ring

  pub rules_producer : (producer : Producer) → producer.write_index < ring_length geometry
      → current_rule device.taken producer.current_slot ≡ true → Rules geometry (with_producer producer device)
  rules_producer producer inside current = record {
    write_inside = inside;
    client_rev = keeps.client_rev;
    acceleration = keeps.acceleration;
    taken_inside = keeps.taken_inside;
    current = current;
  }

  pub rules_write_index : (index : ℕ) → index < ring_length geometry → Rules geometry (with_write_index index device)
  rules_write_index index inside = rules_producer _ inside keeps.current

  pub rules_current : (slot : ℕ) → current_rule device.taken slot ≡ true → Rules geometry (with_current_slot slot device)
  rules_current slot current = rules_producer _ keeps.write_inside current

  pub rules_lost : (lost : Bool) → Rules geometry (with_lost lost device)
  rules_lost lost = rules_producer _ keeps.write_inside keeps.current

  pub rules_position : (position : Position) → Rules geometry (with_position position device)
  rules_position position = rules_producer _ keeps.write_inside keeps.current

  -- ---- the taken slots

  pub rules_taken : (taken : ℕ) → taken < 2 ^ slot_count geometry → current_rule taken device.producer.current_slot ≡ true
      → Rules geometry (with_taken taken device)
  rules_taken taken inside current = record {
    write_inside = keeps.write_inside;
    client_rev = keeps.client_rev;
    acceleration = keeps.acceleration;
    taken_inside = inside;
    current = current;
  }

  -- a taken slot is in range
  pub taken_slot : (slot : ℕ) → is_taken device.taken slot ≡ true → slot < slot_count geometry
  taken_slot slot taken = elim (dec_lt slot (slot_count geometry)) [
    | yes h ↦ h
    | no h ↦ absurd (false≢true (sym (bit_above device.taken (slot_count geometry) slot keeps.taken_inside (omega arith)) ∙ taken))
  ]

-- ---- the current slot

pub none_current : (taken : ℕ) → current_rule taken no_slot ≡ true
unfolding current_rule
none_current taken = refl

pub taken_current : (taken slot : ℕ) → is_taken taken slot ≡ true → current_rule taken slot ≡ true
unfolding current_rule
taken_current taken slot set = rw set (either (eqb slot no_slot))
  where
    either : (none : Bool) → (none || true) ≡ true
    either true = refl
    either false = refl

-- a current slot, none or taken, stays current where it stays taken
pub still_current : (taken after slot : ℕ) → current_rule taken slot ≡ true → (is_taken taken slot ≡ true → is_taken after slot ≡ true)
    → current_rule after slot ≡ true
unfolding current_rule
still_current taken after slot rule stays = go (eqb slot no_slot) rule
  where
    go : (none : Bool) → (none || is_taken taken slot) ≡ true → (none || is_taken after slot) ≡ true
    go true h = refl
    go false h = stays h
