-- A reader of revision 1 over the records of a group: nothing is given before the FENCE, and the whole group at it.
use mathlib.Core.Path.{◌≡◌, refl, sym, ap, ◌∙◌}
use mathlib.Core.Bool.{false}
use mathlib.Core.List.{List, [], ◌∷◌, ◌++◌, append-nil, append_assoc}
use Rattle.bits.specs.Bits.{bit}
use Rattle.records.specs.declared.Event.{Event}
use Rattle.revision1_records.specs.Flags.{fence, is_fence}
use Rattle.revision1_reader.proofs.Laws.Group.{AllPlain}
use Rattle.revision1_reader.specs.Groups.{groups_ended, begun_after}
use Rattle.pending.proofs.Laws.Runs as runs
use Rattle.delivery.specs.Log.{Item, group}
use Rattle.delivery.specs.Pending.{groups, group_reader}

-- The reader has begun a group with these records.
abbrev pub Begun : List Event → List Event → Type 0
Begun records begun = begun ≡ records

-- Over these records it gives these items, and ends with a group begun.
abbrev pub Runs : List Event → List Event → List Item → List Event → Type 0
Runs begun records items left = runs.Runs group_reader begun records items (Begun left)

plain_gives : (event : Event) (begun : List Event) → is_fence event ≡ false → groups event begun ≡ []
unfolding groups_ended
plain_gives event begun plain = rw plain

plain_next : (event : Event) (begun : List Event) → is_fence event ≡ false → begun_after event begun ≡ begun ++ (event ∷ [])
unfolding begun_after
plain_next event begun plain = rw plain

fence_gives : (begun : List Event) → groups fence begun ≡ group (begun ++ (fence ∷ [])) ∷ []
unfolding groups_ended bit
fence_gives begun = refl

fence_next : (begun : List Event) → begun_after fence begun ≡ []
unfolding begun_after bit
fence_next begun = refl

plain_runs : (records : List Event) {begun held : List Event} → AllPlain records → Begun held begun
    → Runs begun records [] (held ++ records)
plain_runs [] {held = held} plain e = runs.none group_reader (e ∙ sym (append-nil held))
plain_runs (event ∷ rest) {begun} {held} plain e =
    runs.then group_reader
    (runs.one group_reader {Settled = Begun (held ++ (event ∷ []))} (plain_gives event begun plain.0)
    (plain_next event begun plain.0 ∙ ap (λ (records : List Event). records ++ (event ∷ [])) e))
    (λ middle at. rw (sym (append_assoc held (event ∷ []) rest)) (plain_runs rest plain.1 at))

-- a whole group, by a reader that has begun none
pub group_runs : (records : List Event) {begun : List Event} → AllPlain records → Begun [] begun
    → Runs begun (records ++ (fence ∷ [])) (group (records ++ (fence ∷ [])) ∷ []) []
group_runs records plain e =
    runs.then group_reader (plain_runs records plain e)
    (λ middle at. runs.one group_reader
    (fence_gives middle ∙ ap (λ (begun : List Event). group (begun ++ (fence ∷ [])) ∷ []) at) (fence_next middle))
