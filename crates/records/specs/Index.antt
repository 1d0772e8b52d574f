-- Records put from an index of the ring on.
use Rattle.std.specs.Prelude.{ℕ, ◌≡◌, List}
use Rattle.records.specs.declared.Event.{Event}
use Rattle.records.specs.declared.index.RingIndex.{RingIndex}
use Rattle.records.specs.Put.{Put}

-- These records were put, and the next one goes to another index of the same ring.
pub record PutFrom (from : RingIndex) (events : List Event) (before after : List ℕ) (to : RingIndex) : Type 0 where
  pub same_ring : to.ring ≡ from.ring
  pub put : Put from.ring from.index events before after to.index
