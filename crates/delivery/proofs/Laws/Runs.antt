-- Runs of the driver over the records that calls put.
use Prim.Native.Nat.{ℕ, ◌+◌, ◌≤◌, ◌<◌}
use mathlib.Core.Path.{◌≡◌, sym, ap, subst, ◌∙◌}
use mathlib.Core.Bool.{Bool, true, false, false≢true}
use mathlib.Core.List.{List, [], ◌∷◌, ◌++◌, append-nil, append_assoc}
use native.Mathlib.Omega.{arith}
use native.Mathlib.Decide.{ℕ_discrete}
use lib.ListN.{length, length-append}
use borrow.Author.Tests.{eq-eqb, ne_eqb, eqb-true}
use Rattle.geometry.specs.declared.Geometry.{Geometry}
use Rattle.geometry.specs.Geometry.{slot_count}
use Rattle.geometry.proofs.Laws.Allowed.{both}
use Rattle.records.specs.declared.Event.{Event}
use Rattle.records.specs.Event.{most_events, EventFits, AllFit}
use Rattle.records.specs.Codes.{syn_report, syn_record}
use Rattle.entries.specs.Offer.{is_offered, offers_code}
use Rattle.assembly.specs.Collect.{Collector, collect}
use Rattle.assembly.specs.declared.Kind.TheVariants as kind
use Rattle.assembly.specs.Kind.{kind_of}
use Rattle.packet_records.specs.Packet.{lost_records, set_records, records_for}
use Rattle.packets.specs.Packet.{all_offered}
use Rattle.pending.proofs.Laws.Runs as runs
use Rattle.delivery.specs.Log.{Item, whole}
use Rattle.delivery.specs.Sent.{gap_if}
use Rattle.delivery.specs.Pending.{give, driver_reader}
use Rattle.delivery.proofs.Laws.Holding.{Holding, Leads, join, report, drop_gives, drop_next, report_gap, set_slot}

-- Over these records the driver gives these items, and ends holding these events.
abbrev pub Runs : Geometry → Collector → List Event → List Item → ℕ → List Event → Type 0
Runs geometry collector records items slot events = runs.Runs (driver_reader geometry) collector records items (Holding slot events)

-- An offered event is no record of the device's own.
pub offered_other : (geometry : Geometry) (entry : List ℕ) (event : Event) → is_offered entry event ≡ true
    → kind_of geometry event ≡ kind.Other
unfolding is_offered offers_code kind_of
offered_other geometry entry event h =
    let code = (both (offers_code entry event.kind event.code) _ h).0 in
    elim (ℕ_discrete event.kind 0) [
      | yes e ↦ let two = eqb-true event.code 2 (rw e at code) in rw (e, two)
      | no n ↦ elim (ℕ_discrete event.kind 6) [
        | yes e ↦ absurd (false≢true (rw e at code))
        | no m ↦ rw (ne_eqb event.kind 0 n, ne_eqb event.kind 6 m)
      ]
    ]

module _ (geometry : Geometry) where
  pub none : {collector : Collector} {slot : ℕ} {events : List Event} → Holding slot events collector
      → Runs geometry collector [] [] slot events
  none h = runs.none (driver_reader geometry) h

  pub one : {event : Event} {collector : Collector} {items : List Item} {slot : ℕ} {events : List Event}
      → Leads geometry event collector items slot events → Runs geometry collector (event ∷ []) items slot events
  one leads = runs.one (driver_reader geometry) leads.gives leads.held

  pub then : {collector : Collector} {first second : List Event} {some more : List Item} {slot slot' : ℕ} {events events' : List Event}
      → Runs geometry collector first some slot events
      → ((middle : Collector) → Holding slot events middle → Runs geometry middle second more slot' events')
      → Runs geometry collector (first ++ second) (some ++ more) slot' events'
  then left right = runs.then (driver_reader geometry) left right

  -- ---- a packet

  -- offered events are collected
  join_then : (entry : List ℕ) {slot : ℕ} (event : Event) (rest : List Event) {collector : Collector} {events : List Event}
      → Holding slot events collector → is_offered entry event ≡ true → EventFits event → length events < most_events
      → ((middle : Collector) → Holding slot (events ++ (event ∷ [])) middle
      → Runs geometry middle rest [] slot ((events ++ (event ∷ [])) ++ rest))
      → Runs geometry collector (event ∷ rest) [] slot (events ++ (event ∷ rest))
  join_then entry event rest {events = events} h ok fits few more =
      let other = offered_other geometry entry event ok in
      rw (sym (append_assoc events (event ∷ []) rest)) (then (one (join geometry event other fits h few)) more)

  fewer : (event : Event) (events rest : List Event) → length events + length (event ∷ rest) ≤ most_events
      → length (events ++ (event ∷ [])) + length rest ≤ most_events
  fewer event events rest few = rw (length-append events (event ∷ [])) (omega arith)

  offered_both : (entry : List ℕ) (event : Event) (rest : List Event) → all_offered entry (event ∷ rest) ≡ true
      → (is_offered entry event ≡ true) × (all_offered entry rest ≡ true)
  unfolding all_offered
  offered_both entry event rest ok = both (is_offered entry event) (all_offered entry rest) ok

  joins : (entry : List ℕ) {slot : ℕ} (more : List Event) {collector : Collector} {events : List Event} → Holding slot events collector
      → all_offered entry more ≡ true → AllFit more → length events + length more ≤ most_events
      → Runs geometry collector more [] slot (events ++ more)
  joins entry {slot} [] {collector} {events} h ok fits few = rw (append-nil events) (none h)
  joins entry {slot} (event ∷ rest) {collector} {events} h ok fits few =
      let test = offered_both entry event rest ok in
      join_then entry event rest h test.0 fits.0 (omega arith)
      (λ middle held. joins entry rest held test.1 fits.1 (fewer event events rest few))

  -- SYN_DROPPED and SYN_REPORT
  lost_runs : (lost : Bool) {collector : Collector} {slot : ℕ} → Holding slot [] collector
      → Runs geometry collector (lost_records lost) (gap_if lost) slot []
  lost_runs false h = none h
  lost_runs true {collector} {slot} h =
      let dropped = drop_next geometry collector in
      record {
        gives = rw (drop_gives geometry collector)
            (append-nil _ ∙ ap (give geometry (syn_record syn_report)) dropped ∙ (report_gap geometry h).gives);
        settles = subst (λ (middle : Collector). Holding slot [] (collect geometry (syn_record syn_report) middle)) (sym dropped)
            (report_gap geometry h).held;
      }

  set_runs : (current slot : ℕ) {collector : Collector} → slot < slot_count geometry → Holding current [] collector
      → Runs geometry collector (set_records current slot) [] slot []
  set_runs current slot low h = elim (ℕ_discrete current slot) [
    | yes e ↦ rw (eq-eqb current slot e) (none (rw (← e) h))
    | no n ↦ rw (ne_eqb current slot n) (one (set_slot geometry slot low h))
  ]

  pub packet_runs : (entry : List ℕ) (lost : Bool) (current slot : ℕ) (events : List Event) {collector : Collector}
      → Holding current [] collector → slot < slot_count geometry
      → all_offered entry events ≡ true → AllFit events → 0 < length events → length events ≤ most_events
      → Runs geometry collector (records_for lost current slot events) (gap_if lost ++ (whole slot events ∷ [])) slot []
  packet_runs entry lost current slot events h low ok fits some few =
      then (lost_runs lost h)
      (λ a settled. then (set_runs current slot low settled)
      (λ b set. then (joins entry events set ok fits (omega arith))
      (λ c held. one (report geometry held some))))
