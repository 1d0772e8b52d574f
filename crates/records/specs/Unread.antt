-- The unread records of a ring, oldest first.
use Rattle.std.specs.Prelude.{ℕ, zero, suc, ◌%◌, ◌<◌, ◌≡◌, List, [], ◌∷◌, length}
use Rattle.copying.specs.Copying.{Agree}
use Rattle.geometry.specs.declared.Ring.{Ring}
use Rattle.geometry.specs.Geometry.{record_place}
use Rattle.records.specs.declared.Event.{Event}
use Rattle.records.specs.Event.{event_at}
use Rattle.records.specs.Ring.{unread_count}

-- The record at an index, which counts round the ring.
abbrev pub record_at : Ring → List ℕ → ℕ → Event
record_at ring area index = event_at area (record_place ring (index % ring.length))

-- So many records from an index on.
unfoldable pub records_from : Ring → List ℕ → ℕ → ℕ → List Event
records_from ring area index zero = []
records_from ring area index (suc count) = record_at ring area index ∷ records_from ring area (suc index) count

abbrev pub unread : Ring → List ℕ → ℕ → ℕ → List Event
unread ring area read write = records_from ring area read (unread_count ring read write)

-- Two areas that are the same to a driver: it knows the pointers and the first 8 bytes of each record.
pub record SameToDriver (ring : Ring) (left right : List ℕ) : Type 0 where
  pub same_length : length left ≡ length right
  pub same_pointers : Agree left right 0 8
  pub same_records : (index : ℕ) → index < ring.length → Agree left right (record_place ring index) 8
