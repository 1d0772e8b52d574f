-- A step keeps the invariant, the driver's and that of a revision 1 reader: it reads the oldest record, and gives what was pending for it.
use mathlib.Core.Path.{◌≡◌, refl, sym, ◌∙◌}
use mathlib.Core.Logic.{◌≢◌}
use mathlib.Core.Bool.{true}
use mathlib.Core.List.{List, append-nil}
use Prim.Native.Nat.{ℕ}
use native.Mathlib.Omega.{arith}
use native.Mathlib.Decide.{ℕ_discrete}
use lib.ListN.{length}
use borrow.Author.Tests.{eq-eqb, eqb-true}
use Rattle.geometry.specs.declared.Geometry.{Geometry}
use Rattle.geometry.specs.Geometry.{ring_of}
use Rattle.records.specs.declared.Event.{Event}
use Rattle.records.specs.Ring.{read_pointer, write_pointer, next_index}
use Rattle.records.proofs.Laws.Put.{moved_length}
use Rattle.assembly.specs.Told.{Stepped}
use Rattle.assembly.specs.Told as told
use Rattle.assembly.specs.Transition.{answer_of, tells, receive}
use Rattle.assembly.specs.Collect.{collect}
use Rattle.reading.specs.Oldest as variants
use Rattle.reading.specs.Reading.{is_valid_area}
use Rattle.reading.specs.Oldest.{oldest_of}
use Rattle.reading.proofs.Laws.Oldest.{oldest_none, oldest_some}
use Rattle.driver.specs.Step.{is_valid_step}
use Rattle.driver.proofs.Laws.Step.{step_refused, step_received}
use Rattle.pending.specs.Reader.{Reader}
use Rattle.pending.proofs.Laws.Runs.{Claim}
use Rattle.pending.proofs.Laws.Pending.{Pending, moved_on, oldest, pending_nothing, read_gives, pending_read}
use Rattle.device.specs.Call.{is_valid_call}
use Rattle.device.specs.declared.Revision.{Revision}
use Rattle.device.specs.declared.Revision.TheVariants.{One, Two}
use Rattle.revision1_reader.specs.declared.Taken.{Taken}
use Rattle.revision1_reader.specs.Step.{taken_as, refused_with, take_of}
use Rattle.revision1_reader.specs.Groups.{begun_after}
use Rattle.revision1_reader.proofs.Laws.Step.{take_refused, take_one}
use Rattle.delivery.specs.World.{World, Result, stepped, handed, step, revision_in, step_in, call}
use Rattle.delivery.specs.Log.{Item}
use Rattle.delivery.specs.Pending.{driver_reader, group_reader, pending_in}
use Rattle.delivery.specs.Demand3.{ReaderHolds}
use Rattle.delivery.proofs.Laws.Driver.{receive_keeps, collect-length, receive-number}
use Rattle.delivery.proofs.Laws.Reads.{Driving, Taking, Reads, write_index}
use Rattle.delivery.proofs.Laws.Invariant.{Invariant, Kept, known}

-- What a driver's step leaves of a world.
abbrev after : World → Stepped → List ℕ → List ℕ → Result
after world result area packet = record {
  answer = stepped result.told packet;
  world = record {
    device = world.device;
    area = area;
    page = world.page;
    collector = record { driver = result.driver; packet = packet };
  };
}

-- The record that is read.
abbrev oldest_in : Geometry → World → Event
oldest_in geometry world = oldest (ring_of geometry) world.area

-- What a driver's step leaves that reads it.
abbrev reads : Geometry → World → Result
reads geometry world =
    after world (receive geometry (oldest_in geometry world) world.collector.driver) (moved_on (ring_of geometry) world.area)
    (collect geometry (oldest_in geometry world) world.collector).packet

-- What a step of a revision 1 reader leaves.
abbrev after_take : World → Taken → List ℕ → Result
after_take world taken area = record {
  answer = handed taken;
  world = record { device = world.device; area = area; page = world.page; collector = world.collector };
}

-- What it leaves that reads a record.
abbrev takes : Geometry → World → Result
takes geometry world = after_take world (taken_as (oldest_in geometry world)) (moved_on (ring_of geometry) world.area)

module _ (geometry : Geometry) (world : World) {begun : List Event} {pending : List Item} (h : Invariant geometry world begun pending) where
  sized : is_valid_area geometry (length world.area) ≡ true
  unfolding is_valid_area
  sized = rw ((known h).is_allowed, eq-eqb (length world.area) _ (known h).is_area_length)

  -- the area is as long as it was
  still_called : is_valid_call geometry world.device (length (moved_on (ring_of geometry) world.area)) (length world.page) ≡ true
  still_called =
      let next : ℕ = next_index (ring_of geometry) (read_pointer world.area) in
      rw (moved_length (ring_of geometry) world.area (known h).holds next) h.called

  -- a ring with unread records is read
  read_record : (reader : Reader) {state : reader.State} {items : List reader.Item} {Settled : Claim reader}
      → Pending reader (ring_of geometry) world.area (write_index world) state items Settled
      → read_pointer world.area ≢ write_pointer world.area
      → oldest_of (ring_of geometry) world.area ≡ variants.Record (read_pointer world.area) (oldest_in geometry world)
  read_record reader ahead some =
      oldest_some (ring_of geometry) world.area
      (record { read_inside = ahead.read_inside; write_inside = rw ahead.same_write ahead.write_inside; some_unread = some })

  -- ---- the driver's step

  module _ (driving : Driving geometry world pending) (revision : revision_in world ≡ Two) where
    valid : is_valid_step geometry world.collector.driver (length world.area) (length world.collector.packet) ≡ true
    unfolding is_valid_step
    valid = rw (sized, eq-eqb (length world.collector.packet) _ driving.packet_size) driving.is_driver_lem

    -- nothing to read: everything was received
    dry_kept : read_pointer world.area ≡ write_pointer world.area
        → Kept geometry world begun pending step
        (after world (tells (told.Refused 11) world.collector.driver) world.area world.collector.packet)
    dry_kept e = record {
      still = pending;
      invariant = h;
      log = sym (append-nil pending);
      sender = refl;
      dry = λ z. pending_nothing (driver_reader geometry) driving.ahead e;
      not_ten = λ z. omega arith;
    }

    -- a record is read
    module _ (some : read_pointer world.area ≢ write_pointer world.area) where
      abbrev next : List Item
      next = pending_in Two geometry (reads geometry world).world begun

      read_holds : Invariant geometry (reads geometry world).world begun next
      read_holds =
          let event : Event = oldest_in geometry world in
          let size = driving.packet_size in
          record {
            called = still_called;
            on = h.on;
            reads = rw revision (record {
              packet_size = collect-length geometry event world.collector driving.is_driver_lem size ∙ size;
              is_driver_lem = receive_keeps geometry event world.collector.driver driving.is_driver_lem;
              ahead = pending_read (driver_reader geometry) driving.ahead (known h).holds some;
            });
          }

      read_kept : Kept geometry world begun pending step (reads geometry world)
      read_kept =
          let number = receive-number geometry (oldest_in geometry world) world.collector.driver in
          let answer : ℕ = answer_of (receive geometry (oldest_in geometry world) world.collector.driver).told in
          record {
            still = next;
            invariant = read_holds;
            log = read_gives (driver_reader geometry) driving.ahead (known h).holds some ∙ sym (append-nil pending);
            sender = refl;
            dry = λ z. absurd (omega (arith, number, eqb-true answer 11 z));
            not_ten = λ z. omega (arith, number);
          }

    driver_kept : Kept geometry world begun pending step (step_in Two geometry world)
    driver_kept =
        let driver = world.collector.driver in
        let packet = world.collector.packet in
        elim (ℕ_discrete (read_pointer world.area) (write_pointer world.area)) [
          | yes e ↦
              let none = oldest_none (ring_of geometry) world.area driving.ahead.read_inside e in
              let s = step_refused geometry driver world.area packet valid none in
              rw (← s.told, ← s.area_left, ← s.packet_left) (dry_kept e)
          | no n ↦
              let s = step_received geometry driver world.area packet valid (read_record (driver_reader geometry) driving.ahead n) refl
              refl refl in
              rw (← s.told, ← s.area_left, ← s.packet_left) (read_kept n)
        ]

  -- ---- the step of a revision 1 reader

  module _ (taking : Taking geometry world begun pending) (revision : revision_in world ≡ One) where
    dry_taken : read_pointer world.area ≡ write_pointer world.area
        → Kept geometry world begun pending step (after_take world (refused_with 11) world.area)
    dry_taken e = record {
      still = pending;
      invariant = h;
      log = sym (append-nil pending);
      sender = refl;
      dry = λ z. pending_nothing group_reader taking.ahead e;
      not_ten = λ z. omega arith;
    }

    one_taken : read_pointer world.area ≢ write_pointer world.area
        → Kept geometry world begun pending step (takes geometry world)
    one_taken some = record {
      still = pending_in One geometry (takes geometry world).world (begun_after (oldest_in geometry world) begun);
      invariant = record {
        called = still_called;
        on = h.on;
        reads = rw revision (record {
          position = taking.position;
          ahead = pending_read group_reader taking.ahead (known h).holds some;
        });
      };
      log = read_gives group_reader taking.ahead (known h).holds some ∙ sym (append-nil pending);
      sender = refl;
      dry = λ z. absurd (omega (arith, eqb-true 0 11 z));
      not_ten = λ z. omega arith;
    }

    taker_kept : Kept geometry world begun pending step (step_in One geometry world)
    taker_kept = elim (ℕ_discrete (read_pointer world.area) (write_pointer world.area)) [
      | yes e ↦
          let none = oldest_none (ring_of geometry) world.area taking.ahead.read_inside e in
          let s = take_refused geometry world.area sized none refl in
          rw (← s.0, ← s.1.0) (dry_taken e)
      | no n ↦
          let s = take_one geometry world.area sized (read_record group_reader taking.ahead n) refl refl in
          rw (← s.0, ← s.1.0) (one_taken n)
    ]

  -- ---- by the revision

  steps : (revision : Revision) → revision_in world ≡ revision → Reads revision geometry world begun pending
      → Kept geometry world begun pending step (step_in revision geometry world)
  steps One same r = taker_kept r same
  steps Two same r = driver_kept r same

  pub step_kept : Kept geometry world begun pending step (call geometry world step)
  unfolding call
  step_kept = steps (revision_in world) refl h.reads

  -- the reader's step isn't refused with 1
  pub reader-holds : (revision : Revision) → revision_in world ≡ revision → Reads revision geometry world begun pending
      → ReaderHolds revision geometry world
  reader-holds One same r = sized
  reader-holds Two same r = valid r same
