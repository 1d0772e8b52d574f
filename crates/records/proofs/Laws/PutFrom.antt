-- Records put from an index of a ring: none, one, one list after another, and that the area goes on holding the ring.
use Prim.Native.Nat.{ℕ}
use mathlib.Core.Path.{◌≡◌, refl, ◌∙◌}
use mathlib.Core.Bool.{Bool, true, false}
use mathlib.Core.List.{List, [], ◌∷◌, ◌++◌}
use lib.ListN.{length}
use Rattle.records.specs.declared.Event.{Event}
use Rattle.records.specs.declared.index.RingIndex.{RingIndex}
use Rattle.records.specs.Index.{PutFrom}
use Rattle.records.specs.Put.{put_records, index_after, record_if, Put}
use Rattle.records.specs.Ring.{Holds, next_index, put_record}
use Rattle.records.proofs.Laws.PutAll.{put_none, put_one, put_next, put_ready}

pub nothing_put : (at : RingIndex) (area : List ℕ) → PutFrom at [] area area at
nothing_put at area = record { same_ring = refl; put = put_none at.ring at.index area }

pub one_put : (at : RingIndex) (event : Event) {before after : List ℕ} {to : RingIndex} → to.ring ≡ at.ring
    → to.index ≡ next_index at.ring at.index → after ≡ put_record at.ring at.index event before
    → PutFrom at (event ∷ []) before after to
one_put at event same next wrote = record { same_ring = same; put = put_one at.ring at.index event next wrote }

-- where no record is given, nothing is put
pub none_given : (at : RingIndex) (event : Event) (given : Bool) (area : List ℕ) → given ≡ false
    → PutFrom at (record_if given event) area area at
none_given at event given area h = rw h (nothing_put at area)

pub one_given : (at : RingIndex) (event : Event) (given : Bool) {before after : List ℕ} {to : RingIndex} → given ≡ true
    → PutFrom at (event ∷ []) before after to → PutFrom at (record_if given event) before after to
one_given at event given h put = rw h put

-- one list after another
pub both_put : {at middle to : RingIndex} {first second : List Event} {before between after : List ℕ}
    → PutFrom at first before between middle → PutFrom middle second between after to
    → PutFrom at (first ++ second) before after to
both_put {at} {middle} {to} {second = second} {between = between} {after = after} one other =
    let rest : Put at.ring middle.index second between after to.index = rw one.same_ring at other.put in
    record { same_ring = other.same_ring ∙ one.same_ring; put = put_next at.ring one.put rest }

-- what was put leaves an area that holds the ring
pub still_holds : {at to : RingIndex} {events : List Event} {before after : List ℕ} → Holds (length before) at.ring
    → PutFrom at events before after to → Holds (length after) to.ring
still_holds {at} holds put = rw put.same_ring (put_ready at.ring holds at.in_ring put.put).0

-- what one put is, by the definitions
pub put_once : {at to : RingIndex} {event : Event} {before after : List ℕ} → PutFrom at (event ∷ []) before after to
    → (to.index ≡ next_index at.ring at.index) × (after ≡ put_record at.ring at.index event before)
unfolding put_records index_after
put_once put = (put.put.ends, put.put.holds)
