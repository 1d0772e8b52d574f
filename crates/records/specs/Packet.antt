-- A packet's events, lent as bytes: 8 for each event, as in a record (01, "Writing records").
use Rattle.std.specs.Prelude.{ℕ, ◌/◌, ◌%◌, Bool, List, eqb, length}
use Rattle.records.specs.declared.Event.{Event}
use Rattle.records.specs.Event.{events_from}

-- Whether so many bytes are whole events.
abbrev pub is_whole : ℕ → Bool
is_whole size = eqb (size % 8) 0

abbrev pub event_count : List ℕ → ℕ
event_count packet = length packet / 8

abbrev pub events_of : List ℕ → List Event
events_of packet = events_from packet 0 (event_count packet)
