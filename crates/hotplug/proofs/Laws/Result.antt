-- The ways out of an add and of a remove, each with what it answers and what stands in the area and in the page.
use Prim.Native.Nat.{ℕ}
use mathlib.Core.Path.{◌≡◌, ap, ◌∙◌}
use mathlib.Core.List.{List}
use borrow.Author.Tests.{ne_eqb}
use Rattle.bits.specs.Bits.{with_bit, without_bit}
use Rattle.geometry.specs.declared.Geometry.{Geometry}
use Rattle.geometry.specs.Geometry.{ring_of}
use Rattle.records.specs.Put.{Put}
use Rattle.entries.specs.Entry.{with_entry, without_entry}
use Rattle.device.specs.declared.Device.{Device}
use Rattle.device.specs.Result.{Outcome}
use Rattle.device.specs.Setters.{with_taken, with_write_index, with_current_slot}
use Rattle.device.specs.Result.{outcome_of}
use Rattle.hotplug.specs.Hotplug.{HotplugResult, unless_refused}
use Rattle.hotplug.specs.Add.{add_answer, add_records, add_of}
use Rattle.hotplug.specs.Remove.{current_without, remove_answer, remove_records, remove_of}

-- what a call promises of its outcome, the area and the page afterwards
abbrev pub Leaves : HotplugResult → Outcome → List ℕ → List ℕ → Type 0
Leaves result outcome area page = (outcome ≡ result.outcome) × ((area ≡ result.area) × (page ≡ result.page))

refused : (device : Device) (area page : List ℕ) {refusal : ℕ} {outcome : Outcome} (answer : ℕ) (accepted : HotplugResult)
    → refusal ≡ answer → (refusal ≡ 0 → ⊥) → outcome ≡ outcome_of refusal device
    → Leaves (unless_refused answer device area page accepted) outcome area page
refused device area page {refusal = refusal} answer accepted e n o =
    let test = ne_eqb refusal 0 n in
    (o ∙ rw (← e, test), (rw (← e, test), rw (← e, test)))

module _ (geometry : Geometry) (device : Device) (area page : List ℕ) (slot : ℕ) {refusal : ℕ} {outcome : Outcome}
    (n : refusal ≡ 0 → ⊥) (o : outcome ≡ outcome_of refusal device) where
  pub add_refused : (entry : List ℕ) → refusal ≡ add_answer geometry device area page slot entry
      → Leaves (add_of geometry device area page slot entry) outcome area page
  unfolding add_of
  add_refused entry e = refused device area page _ _ e n o

  pub remove_refused : refusal ≡ remove_answer geometry device area page slot
      → Leaves (remove_of geometry device area page slot) outcome area page
  unfolding remove_of
  remove_refused e = refused device area page _ _ e n o

module _ (geometry : Geometry) (device : Device) (area page : List ℕ) (slot : ℕ) {index taken : ℕ} {area' page' : List ℕ}
    {outcome : Outcome} where
  pub added : (entry : List ℕ) → add_answer geometry device area page slot entry ≡ 0
      → Put (ring_of geometry) device.producer.write_index (add_records device slot) area area' index
      → page' ≡ with_entry geometry slot entry page → taken ≡ with_bit device.taken slot
      → outcome ≡ outcome_of 0 (with_taken taken (with_write_index index device))
      → Leaves (add_of geometry device area page slot entry) outcome area' page'
  unfolding add_of
  added entry none put stored set o = (o ∙ rw (none, ← set, put.ends), (rw none put.holds, rw none stored))

  pub removed : {current : ℕ} → remove_answer geometry device area page slot ≡ 0
      → Put (ring_of geometry) device.producer.write_index (remove_records device slot) area area' index
      → page' ≡ without_entry geometry slot page → taken ≡ without_bit device.taken slot
      → current ≡ current_without device.producer.current_slot slot
      → outcome ≡ outcome_of 0 (with_taken taken (with_current_slot current (with_write_index index device)))
      → Leaves (remove_of geometry device area page slot) outcome area' page'
  unfolding remove_of
  removed none put stored clear left o = (o ∙ rw (none, ← clear, ← left, put.ends), (rw none put.holds, rw none stored))

-- the same of the answer and the state by themselves
pub leaves : {result : HotplugResult} {answer : ℕ} {device : Device} {area page : List ℕ}
    → Leaves result (outcome_of answer device) area page
    → (answer ≡ result.outcome.answer) × (device ≡ result.outcome.device) × (area ≡ result.area) × (page ≡ result.page)
leaves h = (ap (λ (outcome : Outcome). outcome.answer) h.0, ap (λ (outcome : Outcome). outcome.device) h.0, h.1.0, h.1.1)
