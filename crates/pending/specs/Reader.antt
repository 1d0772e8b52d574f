-- A reader before the ring, and what the unread records will give it. Any reader: the driver that collects packets is one.
use Rattle.std.specs.Prelude.{ℕ, List, [], ◌∷◌, ◌++◌}
use Rattle.geometry.specs.declared.Ring.{Ring}
use Rattle.records.specs.declared.Event.{Event}
use Rattle.records.specs.Ring.{read_pointer, write_pointer}
use Rattle.records.specs.Unread.{unread}

-- A reader holds a state. A record moves it on (`next`), and for that record it gives items (`give`).
pub record Reader : Type 1 where
  pub State : Type 0
  pub Item : Type 0
  pub next : Event → State → State
  pub give : Event → State → List Item

-- The items that a reader gives for these records.
abbrev pub given_by : (reader : Reader) → reader.State → List Event → List reader.Item
given_by reader state [] = []
given_by reader state (event ∷ rest) = reader.give event state ++ given_by reader (reader.next event state) rest

-- What is pending: the items that the reader will give for the unread records, if no more are put.
abbrev pub pending_for : (reader : Reader) → Ring → List ℕ → reader.State → List reader.Item
pending_for reader ring area state = given_by reader state (unread ring area (read_pointer area) (write_pointer area))
