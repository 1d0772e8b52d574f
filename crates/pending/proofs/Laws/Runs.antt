-- Runs of a reader one after the other: what holds where the first ends is what the second begins with.
use mathlib.Core.Path.{◌≡◌, refl, sym, ◌∙◌}
use mathlib.Core.List.{List, [], ◌∷◌, ◌++◌, append-nil, append_assoc}
use Rattle.records.specs.declared.Event.{Event}
use Rattle.pending.specs.Reader.{Reader, given_by}

module _ (reader : Reader) where
  -- A claim about the state in which a reader ends.
  abbrev pub Claim : Type 1
  Claim = reader.State → Type 0

  -- The state after these records.
  abbrev pub end_of : reader.State → List Event → reader.State
  end_of state [] = state
  end_of state (event ∷ rest) = end_of (reader.next event state) rest

  -- Over these records the reader gives these items, and `Settled` holds of the state in which it ends.
  pub record Runs (state : reader.State) (records : List Event) (items : List reader.Item) (Settled : Claim) : Type 0 where
    pub gives : given_by reader state records ≡ items
    pub settles : Settled (end_of state records)

  pub none : {state : reader.State} {Settled : Claim} → Settled state → Runs state [] [] Settled
  none h = record { gives = refl; settles = h }

  pub one : {event : Event} {state : reader.State} {items : List reader.Item} {Settled : Claim}
      → reader.give event state ≡ items → Settled (reader.next event state) → Runs state (event ∷ []) items Settled
  one {event} {state} e h = record { gives = append-nil (reader.give event state) ∙ e; settles = h }

  end_append : (state : reader.State) (first second : List Event) → end_of state (first ++ second) ≡ end_of (end_of state first) second
  end_append state [] second = refl
  end_append state (event ∷ rest) second = end_append (reader.next event state) rest second

  given-append : (state : reader.State) (first second : List Event)
      → given_by reader state (first ++ second) ≡ given_by reader state first ++ given_by reader (end_of state first) second
  given-append state [] second = refl
  given-append state (event ∷ rest) second =
      let after = reader.next event state in
      rw (given-append after rest second)
      (sym (append_assoc (reader.give event state) (given_by reader after rest) (given_by reader (end_of after rest) second)))

  pub then : {state : reader.State} {first second : List Event} {some more : List reader.Item} {Between Settled : Claim}
      → Runs state first some Between → ((middle : reader.State) → Between middle → Runs middle second more Settled)
      → Runs state (first ++ second) (some ++ more) Settled
  then {state} {first = first} {second = second} left right =
      let other = right (end_of state first) left.settles in
      record {
        gives = rw (given-append state first second, left.gives, other.gives);
        settles = rw (end_append state first second) other.settles;
      }
