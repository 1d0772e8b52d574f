-- An add and a remove keep the invariant: each puts one record, for which the driver gives nothing; in revision 1 they put none.
use Prim.Native.Nat.{ℕ, ◌+◌, ◌-◌, ◌^◌, ◌<◌}
use mathlib.Core.Path.{◌≡◌, refl, sym, subst}
use mathlib.Core.Bool.{Bool, true, false, cond}
use mathlib.Core.List.{List, [], ◌∷◌, append-nil}
use native.Mathlib.Omega.{arith}
use native.Mathlib.Decide.{ℕ_discrete}
use lib.Dec.{eqb}
use lib.ListN.{length, replicate, length-replicate}
use borrow.Author.Tests.{le-leb, lt-leb, ne_eqb}
use Rattle.answers.proofs.Choice.{either}
use Rattle.answers.proofs.Laws.{can_answer, never_answers}
use Rattle.geometry.specs.declared.Geometry.{Geometry}
use Rattle.geometry.specs.Geometry.{ring_length, ring_of, entry_place}
use Rattle.geometry.proofs.Laws.Allowed.{sizes}
use Rattle.geometry.proofs.Laws.Slots.{entry_inside}
use Rattle.records.specs.Ring.{read_pointer, unread_count, has_room}
use Rattle.records.specs.Codes.{dev_conf, dev_reset, dev_record}
use Rattle.records.specs.declared.Event.{Event}
use Rattle.records.specs.Put.{record_if, index_after}
use Rattle.records.proofs.Laws.Index.{unread_below}
use Rattle.assembly.specs.Collect.{Collector}
use Rattle.device.specs.declared.Device.{Device}
use Rattle.device.specs.declared.Revision.{Revision}
use Rattle.device.specs.declared.Revision.TheVariants.{One, Two}
use Rattle.device.specs.Revision.{revision_for}
use Rattle.device.specs.Room.{room_refusals, room_refusal}
use Rattle.device.proofs.Laws.Rules.{Rules}
use Rattle.device.proofs.Laws.Call.{call_with}
use Rattle.device.proofs.Laws.Room.{room_enough}
use Rattle.hotplug.specs.Hotplug.{tells, area_after}
use Rattle.hotplug.specs.Add.{add_refusals, add_records, add_answer, add_of, after_add}
use Rattle.hotplug.specs.Remove.{after_remove, remove_refusals, remove_records, remove_answer, remove_of}
use Rattle.hotplug.proofs.Laws.Accepted.{Accepted, add_accepted, remove_accepted}
use Rattle.hotplug.proofs.Laws.Rules.{add_keeps, remove_keeps}
use Rattle.entries.specs.Entry.{with_entry, without_entry}
use Rattle.copying.proofs.Laws.Overwrite.{overwrite-length}
use Rattle.pending.proofs.Laws.Runs as runs
use Rattle.revision1_records.specs.declared.Position.{Position}
use Rattle.delivery.specs.World.{World, add, remove, revision_in, call}
use Rattle.delivery.specs.Log.{Item}
use Rattle.delivery.specs.Pending.{group_reader}
use Rattle.delivery.proofs.Laws.Fit.{fit_dev}
use Rattle.delivery.proofs.Laws.Holding.{Holding, Leads, conf, reset}
use Rattle.delivery.proofs.Laws.Runs.{one}
use Rattle.delivery.proofs.Laws.Reads.{PositionIn, Puts, write_index, current_slot, left_by, reads_inside, reads_position}
use Rattle.delivery.proofs.Laws.Invariant.{Invariant, Kept, known, quiet_kept, appended}

-- One record in revision 2, none in revision 1.
abbrev only_in : Revision → Event → List Event
only_in One event = []
only_in Two event = event ∷ []

only : (rev : ℕ) (event : Event) → record_if (eqb rev 2) event ≡ only_in (revision_for rev) event
unfolding revision_for
only rev event = go (eqb rev 2)
  where
    go : (two : Bool) → record_if two event ≡ only_in (cond two Two One) event
    go true = refl
    go false = refl

only_puts : (revision : Revision) (geometry : Geometry) (current code slot after : ℕ) (position : Position) → PositionIn revision position
    → code < 2 ^ 16 → slot < 2 ^ 32
    → ((collector : Collector) → Holding current [] collector → Leads geometry (dev_record code slot) collector [] after [])
    → Puts revision geometry current (only_in revision (dev_record code slot)) [] after position
only_puts One geometry current code slot after position fits low small leads = record {
  fits = tt;
  position_fits = fits;
  runs = λ begun at. runs.none group_reader at;
}
only_puts Two geometry current code slot after position fits low small leads = record {
  fits = (fit_dev code slot low small, tt);
  runs = λ collector held. one geometry (leads collector held);
}

module _ (geometry : Geometry) (world : World) {begun : List Event} {pending : List Item} (h : Invariant geometry world begun pending)
    (slot : ℕ) where
  read_inside : read_pointer world.area < ring_length geometry
  read_inside = reads_inside geometry world begun pending (revision_in world) h.reads

  -- what isn't refused for room has room, also where nothing is put
  enough : (count : ℕ) → room_refusal (ring_of geometry) world.area (write_index world) count ≡ 0
      → has_room (ring_of geometry) (read_pointer world.area) (write_index world) count ≡ true
  enough count room = elim (ℕ_discrete count 0) [
    | yes none ↦
        let ring = ring_of geometry in
        let unread : ℕ = unread_count ring (read_pointer world.area) (write_index world) in
        let below = unread_below ring (read_pointer world.area) (write_index world) read_inside (known h).keeps.write_inside in
        rw none (le-leb (unread + 0) (ring.length - 1) (omega (arith, below)))
    | no some ↦ (room_enough (ring_of geometry) world.area (write_index world) count some room).1
  ]

  -- a record was put while on, or none
  told : (code : ℕ) (device : Device) (page : List ℕ) → code < 2 ^ 16
      → Accepted geometry world.device world.area world.page slot
      → let records = record_if (tells world.device.registers) (dev_record code slot) in
      room_refusal (ring_of geometry) world.area (write_index world) (length records) ≡ 0
      → ((collector : Collector) → Holding (current_slot world) [] collector
      → Leads geometry (dev_record code slot) collector [] device.producer.current_slot [])
      → length page ≡ length world.page → Rules geometry device → device.registers ≡ world.device.registers
      → device.producer.position ≡ world.device.producer.position
      → device.producer.write_index ≡ index_after (ring_of geometry) (write_index world) records
      → Invariant geometry (left_by world device (area_after geometry world.device records world.area) page) begun pending
  told code device page low a room leads size keeps same position index =
      let small : slot < 2 ^ 32 = omega (arith, a.is_bit) in
      let event : Event = dev_record code slot in
      let records : List Event = record_if (tells world.device.registers) event in
      let which : records ≡ only_in (revision_in world) event = rw h.on (only world.device.registers.client_rev event) in
      let fits : PositionIn (revision_in world) device.producer.position
      = rw position (reads_position geometry world begun pending (revision_in world) h.reads) in
      let puts = only_puts (revision_in world) geometry (current_slot world) code slot device.producer.current_slot
      device.producer.position fits low small leads in
      subst (Invariant geometry _ begun) (append-nil pending)
      (appended geometry h records [] device page (enough (length records) room)
      (rw which puts) index (rw same) (rw same h.on) (rw size (call_with geometry device a.known keeps)))

  -- ---- refusals

  -- the read pointer is possible, so no room test answers 10
  room_never_ten : (count : ℕ) → can_answer 10 (room_refusals (ring_of geometry) world.area (write_index world) count) ≡ false
  room_never_ten count =
      let low = lt-leb (ring_length geometry) (read_pointer world.area) read_inside in
      either (λ (refusals : List (Bool × ℕ)). can_answer 10 refusals ≡ false) (eqb count 0) (λ none. refl) (λ some. rw low)

  add_not_ten : (entry : List ℕ) → add_answer geometry world.device world.area world.page slot entry ≡ 10 → ⊥
  unfolding add_answer
  add_not_ten entry =
      never_answers 10 (add_refusals geometry world.device world.area world.page slot entry)
      (room_never_ten (length (add_records world.device slot)))

  remove_not_ten : remove_answer geometry world.device world.area world.page slot ≡ 10 → ⊥
  unfolding remove_answer
  remove_not_ten =
      never_answers 10 (remove_refusals geometry world.device world.area world.page slot)
      (room_never_ten (length (remove_records world.device slot)))

  -- ---- an add

  added : (entry : List ℕ) → add_answer geometry world.device world.area world.page slot entry ≡ 0
      → Invariant geometry (left_by world (after_add geometry slot world.device)
      (area_after geometry world.device (add_records world.device slot) world.area)
      (with_entry geometry slot entry world.page)) begun pending
  added entry none =
      let a = add_accepted geometry world.device world.area world.page slot entry none in
      let shared = a.shared in
      let inside = entry_inside geometry (sizes geometry shared.known.is_allowed) slot shared.in_range in
      told dev_conf _ _ (omega arith) shared a.room
      (λ driver held. conf geometry slot shared.in_range held)
      (overwrite-length world.page (entry_place geometry slot) entry (omega (arith, inside, a.entry_size, shared.known.is_page_length)))
      (add_keeps geometry world.device slot shared.known.keeps shared.in_range a.free) refl refl refl

  pub add_kept : (entry : List ℕ) → Kept geometry world begun pending (add slot entry) (call geometry world (add slot entry))
  unfolding call add_of
  add_kept entry =
      let answer : ℕ = add_answer geometry world.device world.area world.page slot entry in
      elim (ℕ_discrete answer 0) [
        | yes e ↦ rw e (quiet_kept refl refl refl (λ z. omega arith) (added entry e))
        | no n ↦ rw (ne_eqb answer 0 n) (quiet_kept refl refl refl (add_not_ten entry) h)
      ]

  -- ---- a remove

  removed : remove_answer geometry world.device world.area world.page slot ≡ 0
      → Invariant geometry (left_by world (after_remove geometry slot world.device)
      (area_after geometry world.device (remove_records world.device slot) world.area)
      (without_entry geometry slot world.page)) begun pending
  removed none =
      let a = remove_accepted geometry world.device world.area world.page slot none in
      let shared = a.shared in
      let inside = entry_inside geometry (sizes geometry shared.known.is_allowed) slot shared.in_range in
      let size = length-replicate {A = ℕ} geometry.entry_size 0 in
      told dev_reset _ _ (omega arith) shared a.room
      (λ driver held. reset geometry slot shared.in_range held)
      (overwrite-length world.page (entry_place geometry slot) (replicate geometry.entry_size 0)
      (omega (arith, inside, size, shared.known.is_page_length)))
      (remove_keeps geometry world.device slot shared.known.keeps a.taken) refl refl refl

  pub remove_kept : Kept geometry world begun pending (remove slot) (call geometry world (remove slot))
  unfolding call remove_of
  remove_kept =
      let answer : ℕ = remove_answer geometry world.device world.area world.page slot in
      elim (ℕ_discrete answer 0) [
        | yes e ↦ rw e (quiet_kept refl refl refl (λ z. omega arith) (removed e))
        | no n ↦ rw (ne_eqb answer 0 n) (quiet_kept refl refl refl remove_not_ten h)
      ]
