-- The ring of event records in the event area (01, "Writing records"): its pointers, its indices, and a record put.
use Rattle.std.specs.Prelude.{ℕ, ◌+◌, ◌-◌, ◌*◌, ◌%◌, ◌^◌, ◌≤◌, ◌<◌, Bool, List, leb}
use Rattle.copying.specs.Copying.{overwrite}
use Rattle.words.specs.Words.{u32_at, set_u32}
use Rattle.geometry.specs.declared.Ring.{Ring}
use Rattle.geometry.specs.Geometry.{record_place}
use Rattle.records.specs.declared.Event.{Event}
use Rattle.records.specs.Event.{event_bytes}

-- An area of so many bytes holds the ring: every record lies behind the pointers and within the area.
pub record Holds (size : ℕ) (ring : Ring) : Type 0 where
  pub wide : 8 ≤ ring.record_size
  pub inside : ring.record_size * (ring.length + 1) ≤ size
  pub small : ring.length < 2 ^ 32

-- READ_PTR and WRITE_PTR: area bytes 0 to 3 and 4 to 7.
abbrev pub read_pointer : List ℕ → ℕ
read_pointer area = u32_at area 0

abbrev pub write_pointer : List ℕ → ℕ
write_pointer area = u32_at area 4

abbrev pub with_read_pointer : List ℕ → ℕ → List ℕ
with_read_pointer area index = set_u32 area 0 index

abbrev pub with_write_pointer : List ℕ → ℕ → List ℕ
with_write_pointer area index = set_u32 area 4 index

-- The index after an index, modulo R.
abbrev pub next_index : Ring → ℕ → ℕ
next_index ring index = (index + 1) % ring.length

-- Unread is (w - r) modulo R.
abbrev pub unread_count : Ring → ℕ → ℕ → ℕ
unread_count ring read write = (write + ring.length - read) % ring.length

-- So many records fit when they and the unread ones are at most R - 1.
abbrev pub has_room : Ring → ℕ → ℕ → ℕ → Bool
has_room ring read write count = leb (unread_count ring read write + count) (ring.length - 1)

-- A record put at an index: its own eight bytes are written, then WRITE_PTR, one further.
unfoldable pub put_record : Ring → ℕ → Event → List ℕ → List ℕ
put_record ring index event area =
    with_write_pointer (overwrite area (record_place ring index) (event_bytes event)) (next_index ring index)
