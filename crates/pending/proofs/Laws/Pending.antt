-- What becomes of what is pending when the ring is empty, when records are put, when one is read, and when the area changes elsewhere.
use Prim.Native.Nat.{ℕ, ◌+◌, ◌-◌, ◌≤◌, ◌<◌}
use mathlib.Core.Path.{◌≡◌, refl, sym, ◌∙◌}
use mathlib.Core.Logic.{◌≢◌}
use mathlib.Core.Bool.{true}
use mathlib.Core.List.{List, [], ◌∷◌, ◌++◌}
use native.Mathlib.Omega.{arith}
use native.Mathlib.Nat.{mod-eq_of_lt}
use lib.ListN.{length}
use borrow.Author.Tests.{leb-true}
use Rattle.geometry.specs.declared.Ring.{Ring}
use Rattle.records.specs.declared.Event.{Event}
use Rattle.records.specs.Event.{AllFit}
use Rattle.records.specs.Ring.{Holds, read_pointer, write_pointer, with_read_pointer, next_index, unread_count, has_room}
use Rattle.records.specs.Put.{put_records, index_after}
use Rattle.records.specs.Unread.{record_at, records_from, unread}
use Rattle.records.proofs.Laws.Index.{next_inside}
use Rattle.records.proofs.Laws.Put.{moved-read_pointer, moved-write_pointer}
use Rattle.records.proofs.Laws.PutAll.{after_inside, puts_read_pointer, puts_write_pointer, puts_unread}
use Rattle.records.proofs.Laws.Unread.{read_drops, none_unread}
use Rattle.pending.specs.Reader.{Reader, pending_for}
use Rattle.pending.proofs.Laws.Runs.{Claim, Runs, none, then}

-- The pointers are possible, the private write index is the area's, and over the unread records the reader gives `items`.
pub record Pending (reader : Reader) (ring : Ring) (area : List ℕ) (index : ℕ) (state : reader.State) (items : List reader.Item)
    (Settled : Claim reader) : Type 0 where
  pub read_inside : read_pointer area < ring.length
  pub write_inside : index < ring.length
  pub same_write : write_pointer area ≡ index
  pub runs : Runs reader state (unread ring area (read_pointer area) index) items Settled

-- The area past its oldest record.
abbrev pub moved_on : Ring → List ℕ → List ℕ
moved_on ring area = with_read_pointer area (next_index ring (read_pointer area))

abbrev pub oldest : Ring → List ℕ → Event
oldest ring area = record_at ring area (read_pointer area)

module _ (reader : Reader) where
  -- an empty ring
  pub pending_none : (ring : Ring) (area : List ℕ) (index : ℕ) {state : reader.State} {Settled : Claim reader}
      → index < ring.length → read_pointer area ≡ index → write_pointer area ≡ index → Settled state
      → Pending reader ring area index state [] Settled
  pending_none ring area index low r w settled = record {
    read_inside = rw r low;
    write_inside = low;
    same_write = w;
    runs = rw (r, none_unread ring area index low) (none reader settled);
  }

  module _ {ring : Ring} {area : List ℕ} {index : ℕ} {state : reader.State} {items : List reader.Item} {Settled : Claim reader}
      (h : Pending reader ring area index state items Settled) where
    pub pending_is : pending_for reader ring area state ≡ items
    pending_is = rw h.same_write h.runs.gives

    -- nothing is pending where nothing is unread
    pub pending_nothing : read_pointer area ≡ write_pointer area → items ≡ []
    pending_nothing e =
        let empty : unread ring area (read_pointer area) index ≡ []
        = rw (← h.same_write, ← e) (none_unread ring area (read_pointer area) h.read_inside) in
        sym (rw empty at h.runs.gives)

    -- another area with the same pointers and records
    pub pending_same : {after : List ℕ} → read_pointer after ≡ read_pointer area → write_pointer after ≡ write_pointer area
        → ((from count : ℕ) → records_from ring after from count ≡ records_from ring area from count)
        → Pending reader ring after index state items Settled
    pending_same r w same = record {
      read_inside = rw r h.read_inside;
      write_inside = h.write_inside;
      same_write = w ∙ h.same_write;
      runs = rw (r, same) h.runs;
    }

    -- records were put
    pub pending_put : {Later : Claim reader} (records : List Event) (more : List reader.Item) → Holds (length area) ring → AllFit records
        → has_room ring (read_pointer area) index (length records) ≡ true
        → ((middle : reader.State) → Settled middle → Runs reader middle records more Later)
        → Pending reader ring (put_records ring index records area) (index_after ring index records) state (items ++ more) Later
    pending_put records more holds fits room runs =
        let inside = h.write_inside in
        let same_read = puts_read_pointer ring index records area holds inside in
        let enough : unread_count ring (read_pointer area) index + length records ≤ ring.length - 1 = leb-true _ _ room in
        let appended = puts_unread ring (read_pointer area) index records area holds h.read_inside inside fits (omega (arith, inside)) in
        record {
          read_inside = rw same_read h.read_inside;
          write_inside = after_inside ring index records inside;
          same_write = puts_write_pointer ring index records area holds inside h.same_write;
          runs = rw (same_read, appended) (then reader h.runs runs);
        }

    -- ---- a record is read

    module _ (holds : Holds (length area) ring) (some : read_pointer area ≢ write_pointer area) where
      there : read_pointer (moved_on ring area) ≡ next_index ring (read_pointer area)
      there =
          let low = next_inside ring (read_pointer area) h.read_inside in
          moved-read_pointer ring area holds (next_index ring (read_pointer area)) (omega (arith, low, holds.small))

      same_written : write_pointer (moved_on ring area) ≡ index
      same_written = moved-write_pointer ring area holds (next_index ring (read_pointer area)) ∙ h.same_write

      drops : unread ring area (read_pointer area) index
          ≡ oldest ring area ∷ unread ring (moved_on ring area) (next_index ring (read_pointer area)) index
      drops =
          let apart : read_pointer area ≢ index = λ e. some (e ∙ sym h.same_write) in
          rw (mod-eq_of_lt h.read_inside) (read_drops ring area holds (read_pointer area) index h.read_inside h.write_inside apart)

      -- what is pending is what the reader gives for it, and what is pending afterwards
      pub read_gives : let after = reader.next (oldest ring area) state in
          reader.give (oldest ring area) state ++ pending_for reader ring (moved_on ring area) after ≡ items
      read_gives = rw (there, same_written) (rw drops at h.runs.gives)

      pub pending_read : let after = reader.next (oldest ring area) state in
          Pending reader ring (moved_on ring area) index after (pending_for reader ring (moved_on ring area) after) Settled
      pending_read = record {
        read_inside = rw there (next_inside ring (read_pointer area) h.read_inside);
        write_inside = h.write_inside;
        same_write = same_written;
        runs = rw (there, same_written) (record { gives = refl; settles = rw drops at h.runs.settles });
      }
