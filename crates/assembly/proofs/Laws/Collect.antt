-- The events that a driver holds after a record.
use Prim.Native.Nat.{ℕ, ◌+◌, ◌*◌, ◌≤◌, ◌<◌, zero-le}
use mathlib.Core.Path.{◌≡◌, refl, sym, ◌∙◌}
use mathlib.Core.Bool.{true, false}
use mathlib.Core.List.{List, [], ◌∷◌, ◌++◌}
use native.Mathlib.Omega.{arith}
use native.Mathlib.Nat.{le_refl, le_of_eq}
use native.Mathlib.Numerals.{add-one}
use lib.ListN.{length}
use borrow.Author.Tests.{le-leb, lt-leb, le-ltb, lt-ltb}
use Rattle.copying.specs.Copying.{overwrite}
use Rattle.copying.proofs.Laws.Overwrite.{overwrite-length}
use Rattle.geometry.specs.declared.Geometry.{Geometry}
use Rattle.records.specs.declared.Event.{Event}
use Rattle.records.specs.Codes.{no_slot}
use Rattle.records.specs.Event.{most_events, EventFits, event_bytes, events_from}
use Rattle.records.proofs.Laws.Event.{event-length}
use Rattle.records.proofs.Laws.Events.{events_joined}
use Rattle.assembly.specs.declared.Driver.{Driver}
use Rattle.assembly.specs.declared.Kind.{Kind}
use Rattle.assembly.specs.declared.Kind.TheVariants.{SynReport, SynDropped, DevSet, DevConf}
use Rattle.assembly.specs.declared.Kind.TheVariants.{DevReset, DevResetAll, BadDevSet, BadDev, Other}
use Rattle.assembly.specs.Kind.{kind_of}
use Rattle.assembly.specs.Transition.{with_overlong, with_one_more, joined, received, receive}
use Rattle.assembly.specs.Collect.{collected}
use Rattle.assembly.proofs.Laws.Held.{moved_held, without_held}

module _ (before after : Driver) (event : Event) (packet : List ℕ) where
  -- none joined
  pub none_joined : after.held ≤ before.held → collected before after event packet ≡ packet
  unfolding collected
  none_joined fewer = rw (le-ltb before.held after.held fewer)

  module _ (more : after.held ≡ before.held + 1) where
    pub one_joined : collected before after event packet ≡ overwrite packet (before.held * 8) (event_bytes event)
    unfolding collected
    one_joined = rw (lt-ltb before.held after.held (omega arith))

    pub joined_length : before.held * 8 + 8 ≤ length packet → length (collected before after event packet) ≡ length packet
    joined_length room =
        rw one_joined (overwrite-length packet (before.held * 8) (event_bytes event) (omega (arith, event-length event)))

    pub joined_events : EventFits event → before.held * 8 + 8 ≤ length packet
        → events_from (collected before after event packet) 0 after.held ≡ events_from packet 0 before.held ++ (event ∷ [])
    joined_events fits room =
        let place : before.held * 8 ≡ 0 + before.held * 8 = omega arith in
        rw (one_joined, more, add-one, place) (events_joined packet 0 before.held event fits (omega arith))

-- ---- the ways of an event that would join

module _ (driver : Driver) (event : Event) (packet : List ℕ) where
  pub join_ignored : driver.ignoring ≡ true → (driver ≡ joined driver) × (packet ≡ collected driver (joined driver) event packet)
  unfolding joined collected
  join_ignored e = rw e (refl, sym (none_joined driver driver event packet (omega arith)))

  pub join_full : driver.ignoring ≡ false → most_events ≤ driver.held
      → (with_overlong driver ≡ joined driver) × (packet ≡ collected driver (joined driver) event packet)
  unfolding joined collected
  join_full e full =
      rw (e, le-leb most_events driver.held full) (refl, sym (none_joined driver (with_overlong driver) event packet (omega arith)))

  pub join_free : driver.ignoring ≡ false → driver.held < most_events
      → {after : List ℕ} → after ≡ overwrite packet (driver.held * 8) (event_bytes event)
      → (with_one_more driver ≡ joined driver) × (after ≡ collected driver (joined driver) event packet)
  unfolding joined collected
  join_free e free left =
      rw (e, lt-leb most_events driver.held free) (refl, left ∙ sym (one_joined driver (with_one_more driver) event packet refl))

-- ---- a record that doesn't join

-- none but an event as any other
none_kept : (kind : Kind) (event : Event) (driver : Driver) (packet : List ℕ) → (kind ≡ Other → ⊥)
    → collected driver (received kind event driver).driver event packet ≡ packet
none_kept SynReport event driver packet n = none_joined driver _ event packet zero-le
none_kept SynDropped event driver packet n = none_joined driver _ event packet zero-le
none_kept DevSet event driver packet n = none_joined driver _ event packet (le_of_eq (moved_held event.value driver))
none_kept DevConf event driver packet n = none_joined driver _ event packet (le_refl _)
none_kept DevReset event driver packet n = none_joined driver _ event packet (le_of_eq (without_held event.value driver))
none_kept DevResetAll event driver packet n = none_joined driver _ event packet (le_of_eq (moved_held no_slot driver))
none_kept BadDevSet event driver packet n = none_joined driver _ event packet (le_of_eq (moved_held no_slot driver))
none_kept BadDev event driver packet n = none_joined driver _ event packet (le_refl _)
none_kept Other event driver packet n = absurd (n refl)

-- a record of such a kind leaves the buffer as it is
pub none_joins : (geometry : Geometry) (event : Event) (driver : Driver) (packet : List ℕ) {kind : Kind} → kind ≡ kind_of geometry event
    → (kind ≡ Other → ⊥) → packet ≡ collected driver (receive geometry event driver).driver event packet
none_joins geometry event driver packet {kind} is n = rw (← is) (sym (none_kept kind event driver packet n))
