-- What is known of an access that is not refused.
use Prim.Native.Nat.{ℕ, ◌+◌, ◌-◌, ◌%◌, ◌≤◌, ◌<◌}
use mathlib.Core.Path.{◌≡◌, refl}
use mathlib.Core.Bool.{Bool, true, false, not, cond}
use mathlib.Core.List.{[], ◌∷◌}
use native.Mathlib.Omega.{arith}
use lib.Dec.{leb, eqb}
use borrow.Author.Tests.{leb-false, eqb-true, not-false}
use Rattle.answers.specs.Answers.{done, bad_access, read_only, no_register}
use Rattle.answers.specs.Refusals.{first_refusal}
use Rattle.answers.proofs.Laws.{none_holds}
use Rattle.geometry.specs.declared.Geometry.{Geometry}
use Rattle.geometry.specs.Geometry.{area_length, bar_length, ring_of}
use Rattle.records.proofs.Laws.Place.{pointers_inside}
use Rattle.device.specs.declared.Device.{Device}
use Rattle.device.proofs.Laws.Call.{Call, call}
use Rattle.access.specs.declared.Place.TheVariants.{EventArea, EntryPage}
use Rattle.access.specs.Place.{place_of, is_read_only, is_nothing}
use Rattle.access.specs.Access.{access_refusals, access_answer}
use Rattle.access.proofs.Laws.Place.{area_begins, area_ends, page_begins}

-- What a read is refused with a write is refused with, too; where a read is granted the place decides.
module _ (geometry : Geometry) (offset width : ℕ) where
  pub also_refused : {number : ℕ} → number ≡ first_refusal (access_refusals true geometry false offset width) → (number ≡ 0 → ⊥)
      → number ≡ first_refusal (access_refusals true geometry true offset width)
  unfolding first_refusal
  also_refused {number} h some =
      go (eqb width 4) (eqb (offset % 4) 0) (leb (bar_length geometry) offset) (is_nothing (place_of geometry offset)) _ h
    where
      go : (wide aligned past none kept : Bool)
          → number ≡ first_refusal ((not wide, bad_access) ∷ (not aligned, bad_access) ∷ (past, bad_access) ∷ (none, no_register) ∷ [])
          → number ≡ first_refusal ((not wide, bad_access) ∷ (not aligned, bad_access) ∷ (past, bad_access) ∷ (none, no_register)
          ∷ (kept, read_only) ∷ [])
      go false aligned past none kept e = e
      go true false past none kept e = e
      go true true true none kept e = e
      go true true false true kept e = e
      go true true false false kept e = absurd (some e)

  -- so what a read is refused with any access is
  pub refused_either : (writes : Bool) {number : ℕ} → number ≡ first_refusal (access_refusals true geometry false offset width)
      → (number ≡ 0 → ⊥) → number ≡ first_refusal (access_refusals true geometry writes offset width)
  refused_either true h some = also_refused h some
  refused_either false h some = h

  -- a write that no other test refuses is refused where its place is read-only
  pub written_by_place : first_refusal (access_refusals true geometry false offset width) ≡ 0
      → first_refusal (access_refusals true geometry true offset width) ≡ cond (is_read_only (place_of geometry offset)) read_only done
  unfolding first_refusal
  written_by_place h =
      go (eqb width 4) (eqb (offset % 4) 0) (leb (bar_length geometry) offset) (is_nothing (place_of geometry offset)) _ h
    where
      go : (wide aligned past none kept : Bool)
          → first_refusal ((not wide, bad_access) ∷ (not aligned, bad_access) ∷ (past, bad_access) ∷ (none, no_register) ∷ []) ≡ 0
          → first_refusal ((not wide, bad_access) ∷ (not aligned, bad_access) ∷ (past, bad_access) ∷ (none, no_register)
          ∷ (kept, read_only) ∷ []) ≡ cond kept read_only done
      go false aligned past none kept e = absurd (omega arith)
      go true false past none kept e = absurd (omega arith)
      go true true true none kept e = absurd (omega arith)
      go true true false true kept e = absurd (omega arith)
      go true true false false kept e = refl

pub record Granted (geometry : Geometry) (device : Device) (area_size page_size offset width : ℕ) : Type 0 where
  pub is_call : Call geometry device area_size page_size
  pub word : width ≡ 4
  pub aligned : offset % 4 ≡ 0
  pub inside : offset < bar_length geometry

pub granted : (geometry : Geometry) (device : Device) (area_size page_size : ℕ) (writes : Bool) (offset width : ℕ)
    → access_answer geometry device area_size page_size writes offset width ≡ 0 → Granted geometry device area_size page_size offset width
unfolding access_answer
granted geometry device area_size page_size writes offset width h =
    let a = none_holds _ _ _ (omega arith) h in
    let b = none_holds _ _ _ (omega arith) a.1 in
    let c = none_holds _ _ _ (omega arith) b.1 in
    let d = none_holds _ _ _ (omega arith) c.1 in
    record {
      is_call = call geometry device area_size page_size (not-false _ a.0);
      word = eqb-true width 4 (not-false _ b.0);
      aligned = eqb-true (offset % 4) 0 (not-false _ c.0);
      inside = leb-false (bar_length geometry) offset d.0;
    }

-- an access that is not refused is 4 bytes wide
pub granted_word : (geometry : Geometry) (device : Device) (area_size page_size : ℕ) (writes : Bool) (offset width : ℕ)
    → access_answer geometry device area_size page_size writes offset width ≡ 0
    → access_answer geometry device area_size page_size writes offset 4 ≡ 0
granted_word geometry device area_size page_size writes offset width h =
    rw (granted geometry device area_size page_size writes offset width h).word at h

-- ---- the word read lies in its page

module _ (geometry : Geometry) (device : Device) (area_size page_size offset width : ℕ)
    (access : Granted geometry device area_size page_size offset width) where
  pub pointer_inside : 4 ≤ area_size
  pointer_inside = omega (arith, pointers_inside area_size (ring_of geometry) access.is_call.holds)

  pub area_word : place_of geometry offset ≡ EventArea → offset - 0x1000 + 4 ≤ area_size
  area_word e = omega (arith, access.is_call.is_area_length, area_begins geometry offset e, area_ends geometry offset e)

  pub page_word : place_of geometry offset ≡ EntryPage → offset - (0x1000 + area_length geometry) + 4 ≤ page_size
  page_word e = omega (arith, access.is_call.is_page_length, page_begins geometry offset e)
