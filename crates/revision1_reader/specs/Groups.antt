-- What a reader of revision 1 has received (02, E1): the groups of records that it read, each up to its FENCE. Records after the last
-- FENCE are begun, and not yet received.
use Rattle.std.specs.Prelude.{cond, List, [], ◌∷◌, ◌++◌}
use Rattle.records.specs.declared.Event.{Event}
use Rattle.revision1_records.specs.Flags.{is_fence}
use Rattle.revision1_reader.specs.declared.Taken.{Taken}

-- The record that was handed back.
abbrev pub record_in : Taken → Event
record_in taken = record { kind = taken.flags; code = taken.revision; value = taken.«data» }

-- The group that a record ends, which it does if it is a FENCE.
unfoldable pub groups_ended : Event → List Event → List (List Event)
groups_ended event begun = cond (is_fence event) ((begun ++ (event ∷ [])) ∷ []) []

-- The records that are begun after it.
unfoldable pub begun_after : Event → List Event → List Event
begun_after event begun = cond (is_fence event) [] (begun ++ (event ∷ []))
