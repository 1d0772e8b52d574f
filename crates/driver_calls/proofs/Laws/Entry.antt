-- An entry copied out, or the output left as it was.
use Prim.Native.Nat.{ℕ, ◌+◌, ◌≤◌}
use mathlib.Core.Path.{◌≡◌, sym, ◌∙◌}
use mathlib.Core.Logic.{◌≢◌}
use mathlib.Core.List.{List}
use native.Mathlib.Omega.{arith}
use native.Mathlib.Decide.{ℕ_discrete}
use lib.ListN.{length, drop, length-drop}
use lib.Seq.{length-take-le}
use borrow.Author.Tests.{eq-eqb, ne_eqb}
use Rattle.copying.specs.Copying.{overwrite}
use Rattle.copying.proofs.Laws.Overwrite.{overwrite_whole, overwrite-nothing}
use Rattle.answers.specs.declared.Refusal.{Refusal}
use Rattle.answers.specs.Refusal.{number_of}
use Rattle.answers.specs.Refusals.{first_refusal}
use Rattle.answers.proofs.Laws.{never_done}
use Rattle.geometry.specs.declared.Geometry.{Geometry}
use Rattle.geometry.specs.Geometry.{entry_place}
use Rattle.entries.specs.Entry.{entry_at}
use Rattle.entries.proofs.Laws.Lookup.{found_inside}
use Rattle.entries.specs.Lookup.{lookup_answer, lookup_part}
use Rattle.driver_calls.specs.Entry.{entry_copy_answer, copied_entry}

module _ (geometry : Geometry) (page : List ℕ) (slot : ℕ) (out : List ℕ) where
  pub wrong_length : length out ≢ 68 → (1 ≡ entry_copy_answer geometry page slot out) × (out ≡ copied_entry geometry page slot out)
  unfolding entry_copy_answer copied_entry first_refusal
  wrong_length n = (rw (ne_eqb (length out) 68 n), rw (ne_eqb (length out) 68 n))

  module _ (size : length out ≡ 68) where
    same_answer : entry_copy_answer geometry page slot out ≡ lookup_answer geometry page slot
    unfolding entry_copy_answer first_refusal
    same_answer = rw (eq-eqb (length out) 68 size)

    found-length : lookup_answer geometry page slot ≡ 0 → length (entry_at geometry page slot) ≡ 68
    found-length found =
        let inside = found_inside geometry page slot found in
        length-take-le 68 (drop (entry_place geometry slot) page)
        (rw (length-drop (entry_place geometry slot) page) (omega (arith, inside)))

    pub found : lookup_answer geometry page slot ≡ 0 → {after : List ℕ} → after ≡ lookup_part geometry page slot
        → (0 ≡ entry_copy_answer geometry page slot out) × (after ≡ copied_entry geometry page slot out)
    unfolding copied_entry
    found none e = (sym (same_answer ∙ none), e ∙ rw (same_answer, none))

    pub refused : (refusal : Refusal) → number_of refusal ≡ lookup_answer geometry page slot
        → (number_of refusal ≡ entry_copy_answer geometry page slot out) × (out ≡ copied_entry geometry page slot out)
    unfolding copied_entry
    refused refusal e = (e ∙ sym same_answer, rw (same_answer, ← e, ne_eqb (number_of refusal) 0 (never_done refusal)))

    pub copied : {answer : ℕ} {part after : List ℕ} → answer ≡ lookup_answer geometry page slot → part ≡ lookup_part geometry page slot
        → after ≡ overwrite out 0 part
        → (answer ≡ entry_copy_answer geometry page slot out) × (after ≡ copied_entry geometry page slot out)
    unfolding copied_entry
    copied a p e = (
      a ∙ sym same_answer,
      elim (ℕ_discrete (lookup_answer geometry page slot) 0) [
        | yes found ↦ e ∙ rw (p, same_answer, found) (overwrite_whole out (entry_at geometry page slot) (size ∙ sym (found-length found)))
        | no n ↦ e ∙ rw (p, same_answer, ne_eqb (lookup_answer geometry page slot) 0 n) (overwrite-nothing out 0)
      ],
    )
