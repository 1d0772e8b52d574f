-- The oldest record, without moving past it.
use Rattle.std.specs.Prelude.{ℕ, cond, List, eqb}
use Rattle.answers.specs.Answers.{done}
use Rattle.geometry.specs.declared.Ring.{Ring}
use Rattle.records.specs.declared.Event.{Event}
use Rattle.records.specs.Ring.{read_pointer, write_pointer}
use Rattle.records.specs.Unread.{record_at}
use Rattle.reading.specs.Reading.{reading_refusal}

-- The oldest unread record and its index, or the number that says why there is none.
pub data Oldest : Type 0 where
  Record : ℕ → Event → Oldest
  Refused : ℕ → Oldest

-- The record at the read pointer, or the number of a refusal.
unfoldable pub oldest_of : Ring → List ℕ → Oldest
oldest_of ring area =
    cond (eqb (reading_refusal ring (read_pointer area) (write_pointer area)) done)
    (Record (read_pointer area) (record_at ring area (read_pointer area)))
    (Refused (reading_refusal ring (read_pointer area) (write_pointer area)))

abbrev pub refusal_of : Oldest → ℕ
refusal_of (Refused number) = number
refusal_of (Record index event) = done
