-- The access that switches the device on makes the invariant hold, with nothing pending: the records that it puts, if any, give nothing.
use Prim.Native.Nat.{ℕ, zero, suc, ◌+◌, ◌-◌, ◌≤◌, ◌<◌}
use mathlib.Core.Path.{◌≡◌, refl}
use mathlib.Core.Bool.{Bool, true, false}
use mathlib.Core.List.{List, [], map}
use native.Mathlib.Omega.{arith}
use lib.ListN.{length}
use borrow.Author.Tests.{le-leb}
use Rattle.answers.proofs.Choice.{either}
use Rattle.bits.specs.Bits.{bit}
use Rattle.geometry.specs.declared.Geometry.{Geometry}
use Rattle.geometry.specs.Geometry.{allowed, ring_length, ring_of, slot_count}
use Rattle.geometry.proofs.Laws.Allowed.{sizes}
use Rattle.records.specs.declared.Event.{Event}
use Rattle.records.specs.Event.{AllFit, events_from}
use Rattle.records.specs.Codes.{dev_conf, no_slot, dev_record}
use Rattle.records.specs.Ring.{Holds, read_pointer, write_pointer, has_room}
use Rattle.records.specs.Put.{index_after}
use Rattle.records.proofs.Laws.Index.{unread_self}
use Rattle.records.proofs.Laws.Place.{pointers_inside}
use Rattle.assembly.specs.Collect.{Collector}
use Rattle.driver.specs.Step.{is_driver}
use Rattle.revision1_records.specs.Records.{origin}
use Rattle.device.specs.declared.Revision.{Revision}
use Rattle.device.specs.declared.Revision.TheVariants.{One, Two}
use Rattle.device.specs.Result.{Result}
use Rattle.device.proofs.Laws.Call.{Call, call_with}
use Rattle.switch_on.specs.SwitchOn.{taken_from, records_at_start, start_records, cleared_pointers, switched_on}
use Rattle.switch_on.proofs.Laws.SwitchOn.{start_fits, start_events_fit}
use Rattle.registers.specs.Write.{write_of}
use Rattle.registers.proofs.Laws.Keeps.{write_keeps, write_size}
use Rattle.pending.proofs.Laws.Pending.{pending_none}
use Rattle.pending.proofs.Laws.Runs as runs
use Rattle.delivery.specs.World.{World, write, revision_in, call}
use Rattle.delivery.specs.Pending.{driver_reader, group_reader}
use Rattle.delivery.specs.Sent.{at_switch_on}
use Rattle.delivery.specs.Premises.{IsFresh, StartsFresh}
use Rattle.delivery.proofs.Laws.Holding.{Holding, conf, reset_all}
use Rattle.delivery.proofs.Laws.Runs.{Runs, none, one, then}
use Rattle.delivery.proofs.Laws.Reads.{Reads, Puts, put_in, reads-put}
use Rattle.delivery.proofs.Laws.Invariant.{Invariant, sender_of}
use Rattle.delivery.proofs.Laws.Switch.{Switched, cleared_length, cleared_read, cleared_write, write_switches, was_call}

-- ---- the first records, in revision 2; none in revision 1

module _ (geometry : Geometry) (ok : allowed geometry ≡ true) where
  conf_runs : (taken slot count : ℕ) → slot + count ≤ slot_count geometry → {collector : Collector} → Holding no_slot [] collector
      → Runs geometry collector (map (dev_record dev_conf) (taken_from taken slot count)) [] no_slot []
  unfolding taken_from
  conf_runs taken slot zero low held = none geometry held
  conf_runs taken slot (suc count) low {collector} held =
      either (λ (slots : List ℕ). Runs geometry collector (map (dev_record dev_conf) slots) [] no_slot []) (bit taken slot)
      (λ set. then geometry (one geometry (conf geometry slot (omega arith) held))
      (λ middle next. conf_runs taken (suc slot) count (omega arith) next))
      (λ free. conf_runs taken (suc slot) count (omega arith) held)

  start_puts : (revision : Revision) (taken : ℕ) → AllFit (records_at_start revision taken (slot_count geometry))
      → Puts revision geometry no_slot (records_at_start revision taken (slot_count geometry)) [] no_slot origin
  start_puts One taken fits = record {
    fits = fits;
    position_fits = record { x_fits = omega arith; y_fits = omega arith };
    runs = λ begun at. runs.none group_reader at;
  }
  start_puts Two taken fits = record {
    fits = fits;
    runs = λ collector held. then geometry (one geometry (reset_all geometry ok held))
        (λ middle next. conf_runs taken 0 (slot_count geometry) (omega arith) next);
  }

-- ---- a fresh reader before an empty ring

fresh_driver_lem : (geometry : Geometry) (collector : Collector) → IsFresh collector → is_driver geometry collector.driver ≡ true
unfolding is_driver
fresh_driver_lem geometry collector fresh = rw fresh.is_fresh

fresh_holding : (collector : Collector) → IsFresh collector → Holding no_slot [] collector
unfolding events_from
fresh_holding collector fresh = record {
  size = fresh.size;
  at_slot = rw fresh.is_fresh;
  count = rw fresh.is_fresh;
  begun = rw fresh.is_fresh;
  not_overlong = rw fresh.is_fresh;
  not_spoiled = rw fresh.is_fresh;
  not_ignoring = rw fresh.is_fresh;
}

-- The world as if no record had been put yet.
abbrev emptied : Bool → World → World
emptied interrupts world = record {
  device = switched_on interrupts 0 world.device;
  area = cleared_pointers world.area;
  page = world.page;
  collector = world.collector;
}

empty_reads : (revision : Revision) (geometry : Geometry) (world : World) (interrupts : Bool) → 0 < ring_length geometry
    → read_pointer (cleared_pointers world.area) ≡ 0 → write_pointer (cleared_pointers world.area) ≡ 0
    → StartsFresh revision world.collector → Reads revision geometry (emptied interrupts world) [] []
empty_reads One geometry world interrupts low r w fresh = record {
  position = record { x_fits = omega arith; y_fits = omega arith };
  ahead = pending_none group_reader (ring_of geometry) (cleared_pointers world.area) 0 low r w refl;
}
empty_reads Two geometry world interrupts low r w fresh = record {
  packet_size = fresh.size;
  is_driver_lem = fresh_driver_lem geometry world.collector fresh;
  ahead = pending_none (driver_reader geometry) (ring_of geometry) (cleared_pointers world.area) 0 low r w
      (fresh_holding world.collector fresh);
}

-- ---- the access

module _ (geometry : Geometry) (world : World) (fresh : StartsFresh (revision_in world) world.collector)
    (off : world.device.registers.on ≡ false) where
  -- What the first records leave of the world.
  abbrev first : Bool → World
  first interrupts =
      let records = start_records geometry world.device in
      put_in geometry (emptied interrupts world) records
      (switched_on interrupts (index_after (ring_of geometry) 0 records) world.device) world.page

  first_reads : (interrupts : Bool) → Call geometry world.device (length world.area) (length world.page)
      → Reads (revision_in world) geometry (first interrupts) [] []
  first_reads interrupts c =
      let device = world.device in
      let records : List Event = start_records geometry device in
      let low : 0 < ring_length geometry = omega (arith, (sizes geometry c.is_allowed).ring_low) in
      let room = pointers_inside (length world.area) (ring_of geometry) c.holds in
      let read = cleared_read world.area room in
      let holds : Holds (length (cleared_pointers world.area)) (ring_of geometry) = rw (cleared_length world.area room) c.holds in
      let few = start_fits geometry device c.is_allowed in
      let fits : has_room (ring_of geometry) (read_pointer (cleared_pointers world.area)) 0 (length records) ≡ true
      = rw (read, unread_self (ring_of geometry) 0 low) (le-leb (0 + length records) (ring_length geometry - 1) (omega (arith, few))) in
      reads-put geometry (emptied interrupts world) [] [] (revision_in world)
      (empty_reads (revision_in world) geometry world interrupts low read (cleared_write world.area room) fresh) holds records [] _
      world.page fits
      (start_puts geometry c.is_allowed (revision_in world) device.taken (start_events_fit geometry device c.is_allowed)) refl

  module _ (offset width value : ℕ) where
    abbrev switched : Result
    switched = write_of geometry world.device world.area (length world.page) offset width value

    called : switched.outcome.device.registers.on ≡ true → Call geometry world.device (length world.area) (length world.page)
    called on = was_call geometry world.device world.area (length world.page) offset width value off on

    switches : switched.outcome.device.registers.on ≡ true → Switched geometry world.device world.area switched
    switches on =
        write_switches geometry world.device world.area (called on).is_allowed off (length world.page) offset width value on

    pub start-holds : (call geometry world (write offset width value)).world.device.registers.on ≡ true
        → Invariant geometry (call geometry world (write offset width value)).world [] []
    unfolding call
    start-holds on =
        let c = called on in
        let s = switches on in
        let keeps = write_keeps geometry world.device c.keeps world.area (length world.page) offset width value in
        let size = write_size geometry world.device world.area (length world.page) offset width value in
        record {
          called = rw size (call_with geometry _ c keeps);
          on = on;
          reads = rw (s.area-after, s.device_after) (first_reads s.interrupts c);
        }

    -- nothing was sent yet
    pub start-sender : (call geometry world (write offset width value)).world.device.registers.on ≡ true
        → let device = (call geometry world (write offset width value)).world.device in
        sender_of device ≡ at_switch_on (sender_of device).revision device.registers.acceleration
    unfolding call
    start-sender on = rw (switches on).device_after
