-- The records that a packet puts (01, "Writing records").
use Rattle.std.specs.Prelude.{ℕ, Bool, cond, List, [], ◌∷◌, ◌++◌, eqb}
use Rattle.records.specs.declared.Event.{Event}
use Rattle.records.specs.Codes.{syn_report, syn_dropped, dev_set, syn_record, dev_record}

-- SYN_DROPPED and SYN_REPORT if the lost mark is set.
abbrev pub lost_records : Bool → List Event
lost_records lost = cond lost (syn_record syn_dropped ∷ syn_record syn_report ∷ []) []

-- DEV_SET if the slot isn't current.
abbrev pub set_records : ℕ → ℕ → List Event
set_records current slot = cond (eqb current slot) [] (dev_record dev_set slot ∷ [])

-- Then the events, and SYN_REPORT.
abbrev pub records_for : Bool → ℕ → ℕ → List Event → List Event
records_for lost current slot events =
    lost_records lost ++ (set_records current slot ++ (events ++ (syn_record syn_report ∷ [])))
