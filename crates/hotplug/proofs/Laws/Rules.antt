-- An add and a remove keep the state's rules: setter by setter, with what a set or a cleared bit leaves of the mask.
use Prim.Native.Nat.{ℕ, ◌<◌}
use mathlib.Core.Path.{◌≡◌, sym, ap, ◌∙◌}
use mathlib.Core.Logic.{◌≢◌}
use mathlib.Core.Bool.{true, false, false≢true}
use mathlib.Core.List.{List}
use native.Mathlib.Decide.{ℕ_discrete}
use borrow.Author.Tests.{eq-eqb, ne_eqb}
use Rattle.bits.proofs.Laws.{set_other, set_below, clear_other, clear_below}
use Rattle.geometry.specs.declared.Geometry.{Geometry}
use Rattle.geometry.specs.Geometry.{ring_of, slot_count}
use Rattle.records.proofs.Laws.PutAll.{after_inside}
use Rattle.device.specs.declared.Device.{Device}
use Rattle.device.specs.State.{is_taken, current_rule}
use Rattle.device.proofs.Laws.Rules.{Rules, rules_write_index, rules_current, rules_taken, none_current, still_current}
use Rattle.hotplug.specs.Hotplug.{HotplugResult, unless_refused}
use Rattle.hotplug.specs.Add.{add_records, after_add, add_of}
use Rattle.hotplug.specs.Remove.{current_without, remove_records, after_remove, remove_of}
use Rattle.hotplug.proofs.Laws.Accepted.{add_accepted, remove_accepted}

-- a taken slot is none that is free
apart : (taken current slot : ℕ) → is_taken taken current ≡ true → is_taken taken slot ≡ false → current ≢ slot
apart taken current slot set free same = false≢true (sym free ∙ ap (is_taken taken) (sym same) ∙ set)

module _ (geometry : Geometry) (device : Device) (slot : ℕ) (keeps : Rules geometry device) where
  pub add_keeps : slot < slot_count geometry → is_taken device.taken slot ≡ false → Rules geometry (after_add geometry slot device)
  add_keeps inside free =
      rules_taken (rules_write_index keeps _ (after_inside (ring_of geometry) _ (add_records device slot) keeps.write_inside)) _
      (set_below device.taken slot (slot_count geometry) keeps.taken_inside inside free)
      (still_current device.taken _ _ keeps.current
      (λ taken. set_other device.taken slot free _ (apart device.taken _ slot taken free) ∙ taken))

  -- the current slot without this one is none, or taken in either mask
  without : (after : ℕ) → (is_taken device.taken device.producer.current_slot ≡ true → device.producer.current_slot ≢ slot
      → is_taken after device.producer.current_slot ≡ true)
      → current_rule after (current_without device.producer.current_slot slot) ≡ true
  without after stays = elim (ℕ_discrete device.producer.current_slot slot) [
    | yes same ↦ rw (eq-eqb device.producer.current_slot slot same) (none_current after)
    | no other ↦ rw (ne_eqb device.producer.current_slot slot other)
        (still_current device.taken after _ keeps.current (λ set. stays set other))
  ]

  pub remove_keeps : is_taken device.taken slot ≡ true → Rules geometry (after_remove geometry slot device)
  remove_keeps taken =
      let moved = rules_write_index keeps _ (after_inside (ring_of geometry) _ (remove_records device slot) keeps.write_inside) in
      rules_taken (rules_current moved _ (without device.taken (λ set other. set))) _
      (clear_below device.taken slot taken (slot_count geometry) keeps.taken_inside)
      (without _ (λ set other. clear_other device.taken slot taken _ other ∙ set))

-- ---- any call, refused or not

module _ (geometry : Geometry) (device : Device) (area page : List ℕ) (slot : ℕ) (keeps : Rules geometry device) where
  unless_refused_lem : (answer : ℕ) (accepted : HotplugResult) → (answer ≡ 0 → Rules geometry accepted.outcome.device)
      → Rules geometry (unless_refused answer device area page accepted).outcome.device
  unless_refused_lem answer accepted done = elim (ℕ_discrete answer 0) [
    | yes e ↦ rw (eq-eqb answer 0 e) (done e)
    | no n ↦ rw (ne_eqb answer 0 n) keeps
  ]

  pub add_call_keeps : (entry : List ℕ) → Rules geometry (add_of geometry device area page slot entry).outcome.device
  unfolding add_of
  add_call_keeps entry =
      unless_refused_lem _ _
      (λ none.
      let a = add_accepted geometry device area page slot entry none in
      add_keeps geometry device slot keeps a.shared.in_range a.free)

  pub remove_call_keeps : Rules geometry (remove_of geometry device area page slot).outcome.device
  unfolding remove_of
  remove_call_keeps =
      unless_refused_lem _ _ (λ none. remove_keeps geometry device slot keeps (remove_accepted geometry device area page slot none).taken)
