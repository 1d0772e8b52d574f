-- Several records put one after the other: what they leave, and that they are appended to the unread ones.
use Prim.Native.Nat.{ℕ, ◌+◌, ◌<◌}
use mathlib.Core.Path.{◌≡◌, refl, sym, ap, ◌∙◌}
use mathlib.Core.Bool.{Bool, true, false, cond}
use mathlib.Core.List.{List, [], ◌∷◌, ◌++◌, append_assoc, append-nil}
use native.Mathlib.Omega.{arith}
use lib.ListN.{length}
use Rattle.geometry.specs.declared.Ring.{Ring}
use Rattle.records.specs.Event.{AllFit}
use Rattle.records.specs.Ring.{Holds, read_pointer, write_pointer, next_index, unread_count, put_record}
use Rattle.records.specs.Put.{put_records, index_after, record_if, Put}
use Rattle.records.specs.Unread.{unread}
use Rattle.records.specs.declared.Event.{Event}
use Rattle.records.proofs.Laws.Index.{next_inside, unread_more}
use Rattle.records.proofs.Laws.Put.{put-length, put-read_pointer, put-write_pointer}
use Rattle.records.proofs.Laws.Unread.{put_appends}

-- one record or none
pub if_length : (given : Bool) (event : Event) → length (record_if given event) ≡ cond given 1 0
if_length true event = refl
if_length false event = refl

-- ---- one put after another

module _ (ring : Ring) where
  puts_append : (index : ℕ) (first second : List Event) (area : List ℕ)
      → put_records ring index (first ++ second) area ≡ put_records ring (index_after ring index first) second
      (put_records ring index first area)
  unfolding put_records index_after
  puts_append index [] second area = refl
  puts_append index (event ∷ rest) second area = puts_append (next_index ring index) rest second (put_record ring index event area)

  after-append : (index : ℕ) (first second : List Event) → index_after ring index (first ++ second)
      ≡ index_after ring (index_after ring index first) second
  unfolding index_after
  after-append index [] second = refl
  after-append index (event ∷ rest) second = after-append (next_index ring index) rest second

  pub put_none : (index : ℕ) (area : List ℕ) → Put ring index [] area area index
  unfolding put_records index_after
  put_none index area = record { ends = refl; holds = refl }

  pub put_one : (index : ℕ) (event : Event) {before after : List ℕ} {end : ℕ} → end ≡ next_index ring index
      → after ≡ put_record ring index event before → Put ring index (event ∷ []) before after end
  unfolding put_records index_after
  put_one index event e h = record { ends = e; holds = h }

  pub put_next : {index middle end : ℕ} {first second : List Event} {before between after : List ℕ}
      → Put ring index first before between middle → Put ring middle second between after end
      → Put ring index (first ++ second) before after end
  put_next {index} {first = first} {second = second} {before} one other = record {
    ends = other.ends ∙ rw (after-append index first second, one.ends);
    holds = other.holds ∙ rw (puts_append index first second before, one.holds, one.ends);
  }

  pub after_inside : (index : ℕ) (events : List Event) → index < ring.length → index_after ring index events < ring.length
  unfolding index_after
  after_inside index [] h = h
  after_inside index (event ∷ rest) h = after_inside (next_index ring index) rest (next_inside ring index h)

-- ---- what several puts leave

module _ (ring : Ring) where
  pub puts_length : (index : ℕ) (events : List Event) (area : List ℕ) → Holds (length area) ring → index < ring.length
      → length (put_records ring index events area) ≡ length area
  unfolding put_records
  puts_length index [] area holds h = refl
  puts_length index (event ∷ rest) area holds h =
      let same = put-length ring area holds index event h in
      puts_length (next_index ring index) rest (put_record ring index event area) (rw same holds) (next_inside ring index h) ∙ same

  pub puts_read_pointer : (index : ℕ) (events : List Event) (area : List ℕ) → Holds (length area) ring → index < ring.length
      → read_pointer (put_records ring index events area) ≡ read_pointer area
  unfolding put_records
  puts_read_pointer index [] area holds h = refl
  puts_read_pointer index (event ∷ rest) area holds h =
      puts_read_pointer (next_index ring index) rest (put_record ring index event area)
      (rw (put-length ring area holds index event h) holds)
      (next_inside ring index h)
      ∙ put-read_pointer ring area holds index event h

  -- a write pointer that was right stays right
  pub puts_write_pointer : (index : ℕ) (events : List Event) (area : List ℕ) → Holds (length area) ring → index < ring.length
      → write_pointer area ≡ index
      → write_pointer (put_records ring index events area) ≡ index_after ring index events
  unfolding put_records index_after
  puts_write_pointer index [] area holds h e = e
  puts_write_pointer index (event ∷ rest) area holds h e =
      puts_write_pointer (next_index ring index) rest (put_record ring index event area)
      (rw (put-length ring area holds index event h) holds)
      (next_inside ring index h) (put-write_pointer ring area holds index event h)

  pub puts_unread : (read write : ℕ) (events : List Event) (area : List ℕ) → Holds (length area) ring → read < ring.length
      → write < ring.length → AllFit events
      → unread_count ring read write + length events < ring.length
      → unread ring (put_records ring write events area) read (index_after ring write events) ≡ unread ring area read write ++ events
  unfolding put_records index_after
  puts_unread read write [] area holds r w fits room = sym (append-nil (unread ring area read write))
  puts_unread read write (event ∷ rest) area holds r w fits room =
      let more = unread_more ring read write r w (omega arith) in
      puts_unread read (next_index ring write) rest (put_record ring write event area) (rw (put-length ring area holds write event w) holds)
      r
      (next_inside ring write w) fits.1 (omega (arith, more))
      ∙ ap (λ (l : List Event). l ++ rest) (put_appends ring area holds read write event r w fits.0 (omega arith))
      ∙ append_assoc (unread ring area read write) (event ∷ []) rest

-- after a put the area still holds the ring, and the next index is in it
pub put_ready : (ring : Ring) {index end : ℕ} {events : List Event} {before after : List ℕ} → Holds (length before) ring
    → index < ring.length → Put ring index events before after end
    → Holds (length after) ring × (end < ring.length)
put_ready ring {index} {events = events} {before} holds h put =
    (rw (put.holds, puts_length ring index events before holds h) holds, rw put.ends (after_inside ring index events h))
