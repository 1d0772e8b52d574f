-- What a driver doesn't know of an area, the bytes beyond the pointers and each record's first eight, changes nothing that it reads.
use Prim.Native.Nat.{ℕ, ◌+◌, ◌%◌, ◌<◌}
use mathlib.Core.Path.{◌≡◌, sym, ◌∙◌}
use mathlib.Core.List.{List}
use native.Mathlib.Omega.{arith}
use native.Mathlib.Nat.{mod-lt, zero-add}
use native.Mathlib.Decide.{dec_lt}
use lib.ListN.{length, get_or, take, drop}
use Rattle.words.specs.Words.{u32_bytes}
use Rattle.copying.proofs.Laws.Overwrite.{overwrite_inside}
use Rattle.copying.proofs.Laws.Agree.{agree_stretch}
use Rattle.words.proofs.Laws.Word.{agree_u32}
use Rattle.geometry.specs.declared.Ring.{Ring}
use Rattle.geometry.specs.Geometry.{record_place}
use Rattle.records.specs.Ring.{Holds, read_pointer, write_pointer, with_read_pointer}
use Rattle.records.specs.Unread.{record_at, SameToDriver}
use Rattle.records.proofs.Laws.Event.{agree-event}
use Rattle.records.proofs.Laws.Place.{place_low, place_inside}
use Rattle.records.proofs.Laws.Put.{moved_length, moved_elsewhere}

module _ (ring : Ring) (left right : List ℕ) (same : SameToDriver ring left right) where
  pub same_read_pointer : read_pointer left ≡ read_pointer right
  same_read_pointer = agree_u32 left right 0 (λ i low high. same.same_pointers i (omega arith) (omega arith))

  pub same_write_pointer : write_pointer left ≡ write_pointer right
  same_write_pointer = agree_u32 left right 4 (λ i low high. same.same_pointers i (omega arith) (omega arith))

  pub same_record : 0 < ring.length → (index : ℕ) → record_at ring left index ≡ record_at ring right index
  same_record some index =
      agree-event left right (record_place ring (index % ring.length)) (same.same_records (index % ring.length) (mod-lt index some))

  -- the first eight bytes of a record
  pub same_bytes_lem : Holds (length left) ring → 0 < ring.length → (index : ℕ)
      → take 8 (drop (record_place ring (index % ring.length)) left) ≡ take 8 (drop (record_place ring (index % ring.length)) right)
  same_bytes_lem holds some index =
      let inside = place_inside (length left) ring holds (index % ring.length) (mod-lt index some) in
      agree_stretch left right (record_place ring (index % ring.length)) 8 (same.same_records (index % ring.length) (mod-lt index some))
      inside (rw (← same.same_length) inside)

  -- moving the read pointer keeps them the same
  pub same_moved : Holds (length left) ring → (index : ℕ) → SameToDriver ring (with_read_pointer left index) (with_read_pointer right index)
  same_moved holds index =
      let holds' : Holds (length right) ring = rw same.same_length at holds in
      record {
        same_length = moved_length ring left holds index ∙ same.same_length ∙ sym (moved_length ring right holds' index);
        same_pointers = λ i low high. pointer holds' i high (dec_lt i 4);
        same_records = λ other h i low high.
            let behind = place_low (length left) ring holds other in
            moved_elsewhere ring left holds index (record_place ring other) 8 (omega arith) i low high
            ∙ same.same_records other h i low high
            ∙ sym (moved_elsewhere ring right holds' index (record_place ring other) 8 (omega arith) i low high);
      }
    where
      written : (area : List ℕ) (i : ℕ) → i < 4 → get_or (with_read_pointer area index) i 0 ≡ get_or (u32_bytes index) i 0
      written area i h = rw zero-add at (overwrite_inside area 0 (u32_bytes index) i (omega arith) (omega arith))

      pointer : Holds (length right) ring → (i : ℕ) → i < 0 + 8 → Dec (i < 4)
          → get_or (with_read_pointer left index) i 0 ≡ get_or (with_read_pointer right index) i 0
      pointer holds' i h (yes low) = written left i low ∙ sym (written right i low)
      pointer holds' i h (no high) =
          moved_elsewhere ring left holds index 4 4 (omega arith) i (omega arith) (omega arith)
          ∙ same.same_pointers i (omega arith) (omega arith)
          ∙ sym (moved_elsewhere ring right holds' index 4 4 (omega arith) i (omega arith) (omega arith))
