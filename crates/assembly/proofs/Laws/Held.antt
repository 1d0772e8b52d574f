-- How many events a driver holds after a record: at most 32, if it was so before.
use Prim.Native.Nat.{ℕ, ◌≤◌}
use mathlib.Core.Path.{◌≡◌, refl}
use mathlib.Core.Bool.{Bool, true, false}
use native.Mathlib.Omega.{arith}
use native.Mathlib.Decide.{dec_le}
use lib.Dec.{eqb}
use borrow.Author.Tests.{le-leb, lt-leb}
use Rattle.geometry.specs.declared.Geometry.{Geometry}
use Rattle.records.specs.declared.Event.{Event}
use Rattle.records.specs.Codes.{no_slot}
use Rattle.records.specs.Event.{most_events}
use Rattle.assembly.specs.declared.Driver.{Driver}
use Rattle.assembly.specs.declared.Kind.{Kind}
use Rattle.assembly.specs.declared.Kind.TheVariants as kind
use Rattle.assembly.specs.Kind.{kind_of}
use Rattle.assembly.specs.Transition.{spoiled, moved, joined, without_slot, received, receive}

pub moved_held : (slot : ℕ) (driver : Driver) → (moved slot driver).held ≡ driver.held
unfolding spoiled
moved_held slot driver = go (eqb driver.held 0) refl
  where
    go : (test : Bool) → eqb driver.held 0 ≡ test → (moved slot driver).held ≡ driver.held
    go true e = rw e
    go false e = rw e

pub without_held : (slot : ℕ) (driver : Driver) → (without_slot slot driver).held ≡ driver.held
unfolding without_slot
without_held slot driver = go (eqb driver.slot slot) refl
  where
    go : (test : Bool) → eqb driver.slot slot ≡ test → (without_slot slot driver).held ≡ driver.held
    go true e = rw e (moved_held no_slot driver)
    go false e = rw e

joined_held : (driver : Driver) → driver.held ≤ most_events → (joined driver).held ≤ most_events
unfolding joined
joined_held driver few = go driver.ignoring refl (dec_le most_events driver.held)
  where
    go : (ignoring : Bool) → driver.ignoring ≡ ignoring → Dec (most_events ≤ driver.held) → (joined driver).held ≤ most_events
    go true e d = rw e few
    go false e (yes full) = rw (e, le-leb most_events driver.held full) few
    go false e (no free) = rw (e, lt-leb most_events driver.held (omega arith)) (omega arith)

kind_held : (k : Kind) (event : Event) (driver : Driver) → driver.held ≤ most_events → (received k event driver).driver.held ≤ most_events
kind_held kind.SynReport event driver few = omega arith
kind_held kind.SynDropped event driver few = omega arith
kind_held kind.DevSet event driver few = omega (arith, moved_held event.value driver)
kind_held kind.DevConf event driver few = few
kind_held kind.DevReset event driver few = omega (arith, without_held event.value driver)
kind_held kind.DevResetAll event driver few = omega (arith, moved_held no_slot driver)
kind_held kind.BadDevSet event driver few = omega (arith, moved_held no_slot driver)
kind_held kind.BadDev event driver few = few
kind_held kind.Other event driver few = joined_held driver few

pub held_few : (geometry : Geometry) (event : Event) (driver : Driver) → driver.held ≤ most_events
    → (receive geometry event driver).driver.held ≤ most_events
held_few geometry event driver few = kind_held (kind_of geometry event) event driver few
