-- The sizes of a device (01, "Geometry"): event pages n, record size E, entry size S, and what follows from them.
use Rattle.std.specs.Prelude.{ℕ, ◌+◌, ◌-◌, ◌*◌, ◌/◌, ◌%◌, Bool, ◌&&◌, ◌||◌, leb, eqb}
use Rattle.geometry.specs.declared.Geometry.{Geometry}
use Rattle.geometry.specs.declared.Ring.{Ring}

-- Records are of 8, 16, 32 or 64 bytes.
unfoldable pub is_record_size : ℕ → Bool
is_record_size size = eqb size 8 || (eqb size 16 || (eqb size 32 || eqb size 64))

-- Entries are of 68 to 256 bytes, in fours.
unfoldable pub is_entry_size : ℕ → Bool
is_entry_size size = leb 68 size && (leb size 256 && eqb (size % 4) 0)

-- There are 1 to 8 event pages.
unfoldable pub allowed : Geometry → Bool
allowed geometry =
    leb 1 geometry.pages
    && (leb geometry.pages 8
    && (is_record_size geometry.record_size && is_entry_size geometry.entry_size))

-- The event area has n pages; the BAR has a page of registers before it and the entry page after it.
abbrev pub area_length : Geometry → ℕ
area_length geometry = geometry.pages * 4096

abbrev pub entry_page_length : ℕ
entry_page_length = 4096

abbrev pub bar_length : Geometry → ℕ
bar_length geometry = (geometry.pages + 2) * 4096

-- The ring has R records: as many as the area holds, but for the place of the pointers.
abbrev pub ring_length : Geometry → ℕ
ring_length geometry = area_length geometry / geometry.record_size - 1

abbrev pub ring_of : Geometry → Ring
ring_of geometry = record { record_size = geometry.record_size; length = ring_length geometry }

-- Record i begins at area byte E x (i + 1).
abbrev pub record_place : Ring → ℕ → ℕ
record_place ring index = ring.record_size * (index + 1)

-- Slots are as many whole entries as the entry page holds. Entry k begins at byte S x k.
abbrev pub slot_count : Geometry → ℕ
slot_count geometry = entry_page_length / geometry.entry_size

abbrev pub entry_place : Geometry → ℕ → ℕ
entry_place geometry slot = geometry.entry_size * slot
