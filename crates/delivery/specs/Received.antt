-- What was received, from the answers alone: the gaps and packets that a driver's steps answered, and the groups that the steps of a
-- revision 1 reader handed back, up to their FENCE.
use Rattle.std.specs.Prelude.{ℕ, cond, List, [], ◌∷◌, ◌++◌, map, eqb}
use Rattle.answers.specs.Answers.{done}
use Rattle.records.specs.declared.Event.{Event}
use Rattle.records.specs.Event.{events_from}
use Rattle.assembly.specs.Told.{Told}
use Rattle.assembly.specs.Told as told
use Rattle.revision1_reader.specs.Groups.{record_in, groups_ended, begun_after}
use Rattle.delivery.specs.World.{Answer, numbered, valued, stepped, handed}
use Rattle.delivery.specs.Log.{Entry, Item, gap, whole, group}

abbrev pub told_by : Told → List ℕ → List Item
told_by (told.Refused number) buffer = []
told_by told.Nothing buffer = []
told_by told.Gap buffer = gap ∷ []
told_by told.EmptyReport buffer = []
told_by (told.Packet slot count) buffer = whole slot (events_from buffer 0 count) ∷ []
told_by (told.Set slot) buffer = []
told_by (told.Conf slot) buffer = []
told_by (told.Reset slot) buffer = []
told_by told.ResetAll buffer = []

-- The items that an answer completes, and the records that are begun afterwards: those handed back since the last FENCE.
pub record Receives : Type 0 where
  pub items : List Item
  pub begun : List Event

abbrev pub receives : List Event → Answer → Receives
receives begun (numbered n) = record { items = []; begun = begun }
receives begun (valued v) = record { items = []; begun = begun }
receives begun (stepped told buffer) = record { items = told_by told buffer; begun = begun }
receives begun (handed taken) =
    cond (eqb taken.answer done)
    (record { items = map group (groups_ended (record_in taken) begun); begun = begun_after (record_in taken) begun })
    (record { items = []; begun = begun })

abbrev pub received_from : List Event → List Entry → List Item
received_from begun [] = []
received_from begun (entry ∷ rest) =
    let now = receives begun entry.answered in
    now.items ++ received_from now.begun rest

abbrev pub begun_from : List Event → List Entry → List Event
begun_from begun [] = begun
begun_from begun (entry ∷ rest) = begun_from (receives begun entry.answered).begun rest

abbrev pub received_log : List Entry → List Item
received_log log = received_from [] log

abbrev pub begun_in : List Entry → List Event
begun_in log = begun_from [] log
