-- What a put and a moved read pointer leave: the length, the pointers, the record itself, and every other record.
use Prim.Native.Nat.{ℕ, ◌+◌, ◌-◌, ◌≤◌, ◌<◌, ◌^◌}
use mathlib.Core.Path.{◌≡◌, ◌∙◌}
use mathlib.Core.Logic.{◌≢◌}
use mathlib.Core.List.{List, ◌++◌}
use native.Mathlib.Omega.{arith}
use native.Mathlib.Decide.{dec_lt}
use lib.ListN.{length, take, drop}
use Rattle.copying.specs.Copying.{overwrite, Agree}
use Rattle.words.specs.Words.{u32_bytes}
use Rattle.copying.proofs.Laws.Overwrite.{lent, overwrite-length, overwrite-before, overwrite-after}
use Rattle.words.proofs.Laws.Word.{agree_u32, u32_back}
use Rattle.geometry.specs.declared.Ring.{Ring}
use Rattle.geometry.specs.Geometry.{record_place}
use Rattle.records.specs.Event.{EventFits, event_bytes, event_at}
use Rattle.records.specs.Ring.{Holds, read_pointer, write_pointer, with_read_pointer, with_write_pointer, next_index, put_record}
use Rattle.records.specs.declared.Event.{Event}
use Rattle.records.proofs.Laws.Event.{event-length, event-back, agree-event}
use Rattle.records.proofs.Laws.Index.{next_inside}
use Rattle.records.proofs.Laws.Place.{place_low, place_apart, place_inside, pointers_inside}

-- the record's stretch lent and filled, then WRITE_PTR written
pub put-done : (ring : Ring) (area : List ℕ) (index : ℕ) (event : Event) {at next : ℕ} {filled after : List ℕ}
    → at ≡ record_place ring index → filled ≡ event_bytes event → next ≡ next_index ring index
    → after ≡ with_write_pointer (take at area ++ (filled ++ drop (at + 8 - at) (drop at area))) next
    → after ≡ put_record ring index event area
unfolding put_record event_bytes
put-done ring area index event {at} place bytes following wrote =
    wrote ∙ rw (lent area {stretch = event_bytes event} at bytes, place, following)

module _ (ring : Ring) (area : List ℕ) (holds : Holds (length area) ring) where
  module _ (index : ℕ) (event : Event) (inside : index < ring.length) where
    -- the area with the record's eight bytes written
    written : List ℕ
    written = overwrite area (record_place ring index) (event_bytes event)

    fits : record_place ring index + length (event_bytes event) ≤ length area
    fits = rw (event-length event) (place_inside (length area) ring holds index inside)

    written-length : length written ≡ length area
    unfolding written
    written-length = overwrite-length area (record_place ring index) (event_bytes event) fits

    written_pointers : Agree written area 0 8
    unfolding written
    written_pointers = overwrite-before area (record_place ring index) (event_bytes event) 0 8 (omega (arith, fits))
        (place_low (length area) ring holds index)

    -- WRITE_PTR lies before every record
    behind : (other : ℕ) → Agree (put_record ring index event area) written (record_place ring other) 8
    unfolding put_record written
    behind other =
        overwrite-after written 4 (u32_bytes (next_index ring index)) (record_place ring other) 8
        (omega (arith, written-length, pointers_inside (length area) ring holds)) (place_low (length area) ring holds other)

    pub put-length : length (put_record ring index event area) ≡ length area
    unfolding put_record written
    put-length =
        overwrite-length written 4 (u32_bytes (next_index ring index))
        (omega (arith, written-length, pointers_inside (length area) ring holds))
        ∙ written-length

    pub put-read_pointer : read_pointer (put_record ring index event area) ≡ read_pointer area
    unfolding put_record written
    put-read_pointer =
        agree_u32 (put_record ring index event area) written 0
        (overwrite-before written 4 (u32_bytes (next_index ring index)) 0 4
        (omega (arith, written-length, pointers_inside (length area) ring holds)) (omega arith))
        ∙ agree_u32 written area 0 (λ i low high. written_pointers i (omega arith) (omega arith))

    pub put-write_pointer : write_pointer (put_record ring index event area) ≡ next_index ring index
    unfolding put_record written
    put-write_pointer =
        u32_back written 4 (next_index ring index) (omega (arith, next_inside ring index inside, holds.small))
        (omega (arith, written-length, pointers_inside (length area) ring holds))

    -- the record is read back
    pub put_same : EventFits event → event_at (put_record ring index event area) (record_place ring index) ≡ event
    unfolding written
    put_same ok =
        agree-event (put_record ring index event area) written (record_place ring index) (behind index)
        ∙ event-back area (record_place ring index) event ok (place_inside (length area) ring holds index inside)

    -- other records stay
    pub put_other : (other : ℕ) → other ≢ index → event_at (put_record ring index event area) (record_place ring other)
        ≡ event_at area (record_place ring other)
    unfolding written
    put_other other n =
        agree-event (put_record ring index event area) written (record_place ring other) (behind other)
        ∙ agree-event written area (record_place ring other) (apart (dec_lt other index))
      where
        apart : Dec (other < index) → Agree written area (record_place ring other) 8
        apart (yes h) = overwrite-before area (record_place ring index) (event_bytes event) (record_place ring other) 8
            (omega (arith, fits))
            (place_apart (length area) ring holds other index h)
        apart (no h) =
            overwrite-after area (record_place ring index) (event_bytes event) (record_place ring other) 8 (omega (arith, fits))
            (rw (event-length event) (place_apart (length area) ring holds index other (omega arith)))

  module _ (index : ℕ) where
    room : 0 + length (u32_bytes index) ≤ length area
    room = omega (arith, pointers_inside (length area) ring holds)

    pub moved_length : length (with_read_pointer area index) ≡ length area
    moved_length = overwrite-length area 0 (u32_bytes index) room

    pub moved-read_pointer : index < 2 ^ 32 → read_pointer (with_read_pointer area index) ≡ index
    moved-read_pointer h = u32_back area 0 index h room

    -- the pointer's four bytes alone change
    pub moved_elsewhere : (at count : ℕ) → 4 ≤ at → Agree (with_read_pointer area index) area at count
    moved_elsewhere at count h = overwrite-after area 0 (u32_bytes index) at count (omega arith) (omega arith)

    pub moved-write_pointer : write_pointer (with_read_pointer area index) ≡ write_pointer area
    moved-write_pointer = agree_u32 (with_read_pointer area index) area 4 (moved_elsewhere 4 4 (omega arith))

    pub moved_record : (other : ℕ) → event_at (with_read_pointer area index) (record_place ring other) ≡ event_at area
        (record_place ring other)
    moved_record other =
        agree-event (with_read_pointer area index) area (record_place ring other)
        (moved_elsewhere (record_place ring other) 8 (omega (arith, place_low (length area) ring holds other)))
