-- Whatever an area holds beyond what a driver knows, a copy-out gives the same and leaves an area that is the same to it.
use Prim.Native.Nat.{ℕ, zero, suc, ◌<◌}
use mathlib.Core.Path.{◌≡◌, refl}
use mathlib.Core.Bool.{Bool, true, false}
use mathlib.Core.List.{List}
use native.Mathlib.Omega.{arith}
use lib.Dec.{eqb}
use lib.ListN.{length}
use borrow.Author.Tests.{eqb-true, not-false}
use Rattle.answers.proofs.Laws.{none_holds}
use Rattle.geometry.specs.declared.Geometry.{Geometry}
use Rattle.geometry.specs.declared.Ring.{Ring}
use Rattle.geometry.specs.Geometry.{ring_of}
use Rattle.geometry.proofs.Laws.Allowed.{sizes}
use Rattle.records.specs.Ring.{Holds, read_pointer, write_pointer}
use Rattle.records.specs.Unread.{SameToDriver}
use Rattle.records.proofs.Laws.Unknown.{same_read_pointer, same_write_pointer, same_bytes_lem, same_moved}
use Rattle.reading.specs.Reading.{is_valid_area}
use Rattle.reading.proofs.Laws.Reading.{sized, sized_holds}
use Rattle.copy_out.specs.CopyOut.{bytes_from, copy_answer, copy_of}

same_copied : (ring : Ring) (left right : List ℕ) → Holds (length left) ring → 0 < ring.length → SameToDriver ring left right
    → (index count : ℕ) → bytes_from ring left index count ≡ bytes_from ring right index count
unfolding bytes_from
same_copied ring left right holds some same index zero = refl
same_copied ring left right holds some same index (suc count) =
    cc (same_bytes_lem ring left right same holds some index, same_copied ring left right holds some same (suc index) count)

module _ (geometry : Geometry) (limit : ℕ) (out left right : List ℕ) (same : SameToDriver (ring_of geometry) left right) where
  same_refusal : copy_answer geometry left ≡ copy_answer geometry right
  same_refusal =
      let ring = ring_of geometry in
      rw (same.same_length, same_read_pointer ring left right same, same_write_pointer ring left right same)

  SameCopy : Type 0
  SameCopy = ((copy_of geometry left limit out).copied ≡ (copy_of geometry right limit out).copied)
      × ((copy_of geometry left limit out).out ≡ (copy_of geometry right limit out).out)
      × SameToDriver (ring_of geometry) (copy_of geometry left limit out).area (copy_of geometry right limit out).area

  pub same_copy : ((copy_of geometry left limit out).copied ≡ (copy_of geometry right limit out).copied)
      × ((copy_of geometry left limit out).out ≡ (copy_of geometry right limit out).out)
      × SameToDriver (ring_of geometry) (copy_of geometry left limit out).area (copy_of geometry right limit out).area
  unfolding copy_of SameCopy
  same_copy = go (eqb (copy_answer geometry left) 0) refl
    where
      r : read_pointer left ≡ read_pointer right
      r = same_read_pointer (ring_of geometry) left right same

      w : write_pointer left ≡ write_pointer right
      w = same_write_pointer (ring_of geometry) left right same

      go : (test : Bool) → eqb (copy_answer geometry left) 0 ≡ test → SameCopy
      go false h = rw (← same_refusal, h) (refl, refl, same)
      go true h =
          let size = not-false (is_valid_area geometry (length left)) (none_holds _ _ _ (omega arith) (eqb-true _ 0 h)).0 in
          let holds = sized_holds geometry left size in
          let some = (sizes geometry (sized geometry (length left) size).0).ring_low in
          let bytes = same_copied (ring_of geometry) left right holds (omega (arith, some)) same in
          rw (← same_refusal, h, r, w) (refl, rw bytes, same_moved (ring_of geometry) left right same holds _)
