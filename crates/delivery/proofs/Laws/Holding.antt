-- A driver between reports: what each record makes of it. The kind of a record decides, so each law is one case of the table of kinds.
use Prim.Native.Nat.{ℕ, ◌+◌, ◌*◌, ◌≤◌, ◌<◌}
use mathlib.Core.Path.{◌≡◌, refl, sym, ◌∙◌}
use mathlib.Core.Bool.{true, false}
use mathlib.Core.List.{List, [], ◌∷◌, ◌++◌}
use native.Mathlib.Omega.{arith}
use native.Mathlib.Decide.{ℕ_discrete}
use lib.Dec.{eqb, ltb}
use lib.ListN.{length, length-append}
use borrow.Author.Tests.{lt-ltb, le-ltb, lt-leb, eq-eqb, ne_eqb}
use Rattle.geometry.specs.declared.Geometry.{Geometry}
use Rattle.geometry.specs.Geometry.{allowed, slot_count}
use Rattle.geometry.proofs.Laws.Allowed.{sizes}
use Rattle.geometry.proofs.Laws.Slots.{few_slots}
use Rattle.records.specs.declared.Event.{Event}
use Rattle.records.specs.Event.{most_events, EventFits, events_from}
use Rattle.records.specs.Codes.{dev_set, dev_conf, dev_reset, syn_report, syn_dropped, all_slots, no_slot, syn_record, dev_record}
use Rattle.assembly.specs.declared.Driver.{Driver}
use Rattle.assembly.specs.declared.Kind.{Kind}
use Rattle.assembly.specs.declared.Kind.TheVariants as kind
use Rattle.assembly.specs.Kind.{dev_kind, kind_of}
use Rattle.assembly.specs.Transition.{with_one_more, spoiled, joined, reported, without_slot, ended, moved, received}
use Rattle.assembly.specs.Collect.{packet_length, collected, Collector, collect}
use Rattle.assembly.proofs.Laws.Held.{moved_held, without_held}
use Rattle.assembly.proofs.Laws.Collect.{none_joined, joined_length, joined_events}
use Rattle.hotplug.specs.Remove.{current_without}
use Rattle.delivery.specs.Log.{Item, gap, whole}
use Rattle.delivery.specs.Received.{told_by}
use Rattle.delivery.specs.Pending.{give}

-- The events that a driver holds.
abbrev events_held : Collector → List Event
events_held collector = events_from collector.packet 0 collector.driver.held

-- These events are held under a slot, and nothing is spoiled, too long or ignored.
pub record Holding (slot : ℕ) (events : List Event) (collector : Collector) : Type 0 where
  pub size : length collector.packet ≡ packet_length
  pub at_slot : collector.driver.slot ≡ slot
  pub count : collector.driver.held ≡ length events
  pub begun : events_held collector ≡ events
  pub not_overlong : collector.driver.overlong ≡ false
  pub not_spoiled : collector.driver.spoiled ≡ false
  pub not_ignoring : collector.driver.ignoring ≡ false

-- Over one record the driver gives these items, and goes on holding these events.
pub record Leads (geometry : Geometry) (event : Event) (collector : Collector) (items : List Item) (slot : ℕ) (events : List Event)
    : Type 0 where
  pub gives : give geometry event collector ≡ items
  pub held : Holding slot events (collect geometry event collector)

-- A collector with another driver and the same buffer.
abbrev with : Driver → Collector → Collector
with driver collector = record { driver = driver; packet = collector.packet }

-- After SYN_DROPPED.
abbrev pub dropping : Collector → Collector
dropping collector = with (ended true collector.driver) collector

module _ (geometry : Geometry) where
  -- the kind of a record decides; this one doesn't join
  lead : (event : Event) (collector : Collector) (k : Kind) {items : List Item} {slot : ℕ} {events : List Event}
      → kind_of geometry event ≡ k
      → (received k event collector.driver).driver.held ≤ collector.driver.held
      → told_by (received k event collector.driver).told collector.packet ≡ items
      → Holding slot events (with (received k event collector.driver).driver collector)
      → Leads geometry event collector items slot events
  lead event collector k e fewer gives held =
      let same = none_joined collector.driver (received k event collector.driver).driver event collector.packet fewer in
      record { gives = rw (e, same) gives; held = rw (e, same) held }

  -- ---- events and reports

  -- one more is held
  grown : {collector : Collector} {slot : ℕ} {events : List Event} → Holding slot events collector → length events < most_events
      → joined collector.driver ≡ with_one_more collector.driver
  unfolding joined
  grown {collector} h few = rw (h.not_ignoring, lt-leb most_events collector.driver.held (omega (arith, h.count)))

  pub join : (event : Event) {collector : Collector} {slot : ℕ} {events : List Event} → kind_of geometry event ≡ kind.Other
      → EventFits event → Holding slot events collector → length events < most_events
      → Leads geometry event collector [] slot (events ++ (event ∷ []))
  join event {collector} {slot} {events} e fits h few =
      let driver : Driver = collector.driver in
      let space : driver.held * 8 + 8 ≤ length collector.packet = omega (arith, h.count, h.size) in
      let packet : List ℕ = collected driver (with_one_more driver) event collector.packet in
      let holding : Holding slot (events ++ (event ∷ [])) (record { driver = with_one_more driver; packet = packet })
      = record {
        size = joined_length driver (with_one_more driver) event collector.packet refl space ∙ h.size;
        at_slot = h.at_slot;
        count = rw (length-append) (omega (arith, h.count));
        begun = joined_events driver (with_one_more driver) event collector.packet refl fits space ∙ rw h.begun;
        not_overlong = h.not_overlong;
        not_spoiled = h.not_spoiled;
        not_ignoring = h.not_ignoring;
      }
      in
      record { gives = rw e; held = rw (e, grown h few) holding }

  -- nothing is begun after a report
  settle : (collector : Collector) {slot : ℕ} → length collector.packet ≡ packet_length → collector.driver.slot ≡ slot
      → Holding slot [] (with (ended false collector.driver) collector)
  unfolding events_from
  settle collector a s = record {
    size = a;
    at_slot = s;
    count = refl;
    begun = refl;
    not_overlong = refl;
    not_spoiled = refl;
    not_ignoring = refl;
  }

  pub report : {collector : Collector} {slot : ℕ} {events : List Event} → Holding slot events collector → 0 < length events
      → Leads geometry (syn_record syn_report) collector (whole slot events ∷ []) slot []
  unfolding kind_of reported
  report {collector} h some =
      let begun : eqb collector.driver.held 0 ≡ false = ne_eqb collector.driver.held 0 (λ z. omega (arith, h.count)) in
      lead (syn_record syn_report) collector kind.SynReport refl (omega arith)
      (rw (h.not_ignoring, h.not_spoiled, h.not_overlong, begun, h.at_slot, h.begun)) (settle collector h.size h.at_slot)

  -- dropped records: the next report tells a gap
  dropped : (collector : Collector)
      → collected collector.driver (ended true collector.driver) (syn_record syn_dropped) collector.packet ≡ collector.packet
  dropped collector =
      none_joined collector.driver (ended true collector.driver) (syn_record syn_dropped) collector.packet (omega arith)

  pub drop_gives : (collector : Collector) → give geometry (syn_record syn_dropped) collector ≡ []
  unfolding kind_of
  drop_gives collector = refl

  pub drop_next : (collector : Collector) → collect geometry (syn_record syn_dropped) collector ≡ dropping collector
  unfolding kind_of
  drop_next collector = rw (dropped collector)

  pub report_gap : {collector : Collector} {slot : ℕ} → Holding slot [] collector
      → Leads geometry (syn_record syn_report) (dropping collector) (gap ∷ []) slot []
  unfolding kind_of reported
  report_gap {collector} h =
      lead (syn_record syn_report) (dropping collector) kind.SynReport refl (omega arith) refl
      (settle (dropping collector) h.size h.at_slot)

  -- ---- records of devices

  -- another slot, where nothing is begun
  move : {collector : Collector} {old : ℕ} (new : ℕ) → Holding old [] collector
      → Holding new [] (with (moved new collector.driver) collector)
  unfolding spoiled
  move {collector} new h =
      let none : eqb collector.driver.held 0 ≡ true = eq-eqb collector.driver.held 0 h.count in
      rw none (record {
        size = h.size;
        at_slot = refl;
        count = h.count;
        begun = h.begun;
        not_overlong = h.not_overlong;
        not_spoiled = h.not_spoiled;
        not_ignoring = h.not_ignoring;
      })

  pub set_slot : (new : ℕ) {collector : Collector} {old : ℕ} → new < slot_count geometry → Holding old [] collector
      → Leads geometry (dev_record dev_set new) collector [] new []
  unfolding kind_of dev_kind
  set_slot new {collector} low h =
      let same = moved_held new collector.driver in
      lead (dev_record dev_set new) collector kind.DevSet (rw (lt-ltb new (slot_count geometry) low)) (omega (arith, same)) refl
      (move new h)

  pub conf : (new : ℕ) {collector : Collector} {slot : ℕ} → new < slot_count geometry → Holding slot [] collector
      → Leads geometry (dev_record dev_conf new) collector [] slot []
  unfolding kind_of dev_kind
  conf new {collector} low h =
      lead (dev_record dev_conf new) collector kind.DevConf (rw (lt-ltb new (slot_count geometry) low)) (omega arith) refl h

  -- the slot is left where it was current
  leave : (gone : ℕ) {collector : Collector} {slot : ℕ} → Holding slot [] collector
      → Holding (current_without slot gone) [] (with (without_slot gone collector.driver) collector)
  unfolding without_slot
  leave gone {collector} {slot} h = elim (ℕ_discrete slot gone) [
    | yes e ↦ rw (eq-eqb slot gone e, eq-eqb collector.driver.slot gone (h.at_slot ∙ e)) (move no_slot h)
    | no n ↦ rw (ne_eqb slot gone n, ne_eqb collector.driver.slot gone (λ e. n (sym h.at_slot ∙ e))) h
  ]

  pub reset : (gone : ℕ) {collector : Collector} {slot : ℕ} → gone < slot_count geometry → Holding slot [] collector
      → Leads geometry (dev_record dev_reset gone) collector [] (current_without slot gone) []
  unfolding kind_of dev_kind
  reset gone {collector} low h =
      let same = without_held gone collector.driver in
      lead (dev_record dev_reset gone) collector kind.DevReset (rw (lt-ltb gone (slot_count geometry) low)) (omega (arith, same)) refl
      (leave gone h)

  pub reset_all : {collector : Collector} {slot : ℕ} → allowed geometry ≡ true → Holding slot [] collector
      → Leads geometry (dev_record dev_reset all_slots) collector [] no_slot []
  unfolding kind_of dev_kind
  reset_all {collector} ok h =
      let few = few_slots geometry (sizes geometry ok) in
      let high : ltb all_slots (slot_count geometry) ≡ false = le-ltb all_slots (slot_count geometry) (omega (arith, few)) in
      let same = moved_held no_slot collector.driver in
      lead (dev_record dev_reset all_slots) collector kind.DevResetAll (rw high) (omega (arith, same)) refl (move no_slot h)
