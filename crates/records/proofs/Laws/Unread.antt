-- The unread records: a put appends one and keeps the rest, a read drops the oldest, and no other byte matters.
use Prim.Native.Nat.{ℕ, zero, suc, ◌+◌, ◌%◌, ◌<◌}
use mathlib.Core.Path.{◌≡◌, refl, sym, ap, ◌∙◌}
use mathlib.Core.Logic.{◌≢◌}
use mathlib.Core.List.{List, [], ◌∷◌, ◌++◌}
use native.Mathlib.Omega.{arith}
use native.Mathlib.Nat.{mod-eq_of_lt, mod-mod, suc-mod, add-zero, add-suc, suc-add}
use native.Mathlib.Numerals.{add-one}
use lib.ListN.{length}
use Rattle.geometry.specs.declared.Ring.{Ring}
use Rattle.geometry.specs.Geometry.{record_place}
use Rattle.records.specs.Event.{EventFits, event_at}
use Rattle.records.specs.Ring.{Holds, with_read_pointer, next_index, unread_count, put_record}
use Rattle.records.specs.Unread.{record_at, records_from, unread}
use Rattle.records.specs.declared.Event.{Event}
use Rattle.records.proofs.Laws.Index.{places_apart, unread_end, unread_more, unread_fewer, unread_none, unread_self}
use Rattle.records.proofs.Laws.Put.{put_same, put_other, moved_record}

-- ---- a run of records

module _ (ring : Ring) (area : List ℕ) where
  pub records_length : (index count : ℕ) → length (records_from ring area index count) ≡ count
  unfolding records_from
  records_length index zero = refl
  records_length index (suc count) = ap suc (records_length (suc index) count)

  -- an index counts round the ring
  pub records_modulo : (count i j : ℕ) → i % ring.length ≡ j % ring.length → records_from ring area i count ≡ records_from ring area j count
  unfolding records_from
  records_modulo zero i j e = refl
  records_modulo (suc count) i j e =
      let next : suc i % ring.length ≡ suc j % ring.length = rw (suc-mod i ring.length, e, ← suc-mod j ring.length) in
      cc (records_modulo count (suc i) (suc j) next)

  -- the last record of a run
  pub records_last : (index count : ℕ) → records_from ring area index (suc count)
      ≡ records_from ring area index count ++ (record_at ring area (index + count) ∷ [])
  unfolding records_from
  records_last index zero = rw add-zero
  records_last index (suc count) =
      let e : suc index + count ≡ index + suc count = omega arith in
      rw (records_last (suc index) count, e)

-- two areas with the same records
pub same_records : (ring : Ring) (left right : List ℕ)
    → ((index : ℕ) → event_at left (record_place ring (index % ring.length)) ≡ event_at right (record_place ring (index % ring.length)))
    → (index count : ℕ) → records_from ring left index count ≡ records_from ring right index count
unfolding records_from
same_records ring left right same index zero = refl
same_records ring left right same index (suc count) = cc (same index, same_records ring left right same (suc index) count)

module _ (ring : Ring) (area : List ℕ) (holds : Holds (length area) ring) where
  -- ---- a put

  -- records that end right before the place of the put
  put_keeps : (write : ℕ) (event : Event) → write < ring.length → (count index : ℕ) → count < ring.length
      → (index + count) % ring.length ≡ write
      → records_from ring (put_record ring write event area) index count ≡ records_from ring area index count
  unfolding records_from
  put_keeps write event w zero index few e = refl
  put_keeps write event w (suc count) index few e =
      let n : index % ring.length ≢ write = λ x. places_apart ring.length index (suc count) (omega arith) few (e ∙ sym x) in
      cc (
        put_other ring area holds write event w (index % ring.length) n,
        put_keeps write event w count (suc index) (omega arith) (rw (suc-add, ← add-suc) e),
      )

  pub put_appends : (read write : ℕ) (event : Event) → read < ring.length → write < ring.length → EventFits event
      → suc (unread_count ring read write) < ring.length
      → unread ring (put_record ring write event area) read (next_index ring write) ≡ unread ring area read write ++ (event ∷ [])
  put_appends read write event r w ok room =
      let after : List ℕ = put_record ring write event area in
      let count : ℕ = unread_count ring read write in
      let end : (read + count) % ring.length ≡ write = unread_end ring read write r w in
      ap (records_from ring after read) (unread_more ring read write r w room)
      ∙ records_last ring after read count
      ∙ cc (end, put_keeps write event w count read (omega arith) end, put_same ring area holds write event w ok)

  -- ---- a moved read pointer, and a read

  pub moved_keeps : (moved index count : ℕ)
      → records_from ring (with_read_pointer area moved) index count ≡ records_from ring area index count
  moved_keeps moved index count =
      same_records ring (with_read_pointer area moved) area (λ i. moved_record ring area holds moved (i % ring.length)) index count

  pub read_drops : (read write : ℕ) → read < ring.length → write < ring.length → read ≢ write
      → unread ring area read write ≡ event_at area (record_place ring read) ∷
      unread ring (with_read_pointer area (next_index ring read)) (next_index ring read) write
  unfolding records_from
  read_drops read write r w n = go (unread_count ring read write) refl
    where
      go : (count : ℕ) → unread_count ring read write ≡ count
          → unread ring area read write ≡ event_at area (record_place ring read) ∷
          unread ring (with_read_pointer area (next_index ring read)) (next_index ring read) write
      go zero e = absurd (n (unread_none ring read write r w e))
      go (suc count) e =
          let next : next_index ring read ≡ suc read % ring.length = rw add-one in
          cc (
            e,
            unread_fewer ring read write r w count e,
            moved_keeps (next_index ring read) (next_index ring read) count,
            records_modulo ring area count (next_index ring read) (suc read) (rw next (mod-mod (suc read) ring.length)),
            mod-eq_of_lt r,
          )

-- an empty ring
pub none_unread : (ring : Ring) (area : List ℕ) (index : ℕ) → index < ring.length → unread ring area index index ≡ []
unfolding records_from
none_unread ring area index h = rw (unread_self ring index h)
