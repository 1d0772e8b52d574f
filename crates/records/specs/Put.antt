-- Records put one after the other.
use Rattle.std.specs.Prelude.{ℕ, ◌≡◌, Bool, cond, List, [], ◌∷◌}
use Rattle.geometry.specs.declared.Ring.{Ring}
use Rattle.records.specs.declared.Event.{Event}
use Rattle.records.specs.Ring.{next_index, put_record}

unfoldable pub put_records : Ring → ℕ → List Event → List ℕ → List ℕ
put_records ring index [] area = area
put_records ring index (event ∷ rest) area = put_records ring (next_index ring index) rest (put_record ring index event area)

-- The index after them.
unfoldable pub index_after : Ring → ℕ → List Event → ℕ
index_after ring index [] = index
index_after ring index (event ∷ rest) = index_after ring (next_index ring index) rest

-- A record that is put in one case and not in the other.
abbrev pub record_if : Bool → Event → List Event
record_if given event = cond given (event ∷ []) []

-- These records were put from an index on. The area was `before` and is `after`; the next record goes to `end`.
pub record Put (ring : Ring) (index : ℕ) (events : List Event) (before after : List ℕ) (end : ℕ) : Type 0 where
  pub ends : end ≡ index_after ring index events
  pub holds : after ≡ put_records ring index events before
