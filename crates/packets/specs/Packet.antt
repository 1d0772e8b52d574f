-- What a packet has to be (01, "Writing records"): each of its events is one that the slot's entry offers.
use Rattle.std.specs.Prelude.{ℕ, Bool, true, ◌&&◌, List, [], ◌∷◌}
use Rattle.records.specs.declared.Event.{Event}
use Rattle.entries.specs.Offer.{is_offered}

unfoldable pub all_offered : List ℕ → List Event → Bool
all_offered entry [] = true
all_offered entry (event ∷ rest) = is_offered entry event && all_offered entry rest
