-- What a call leaves, told of the answer and the state together, and of each by itself.
use Prim.Native.Nat.{ℕ}
use mathlib.Core.Path.{◌≡◌, ap}
use mathlib.Core.List.{List}
use Rattle.device.specs.Result.{Outcome, Result}

pub leaves : {outcome : Outcome} {after : List ℕ} {result : Result} → (outcome ≡ result.outcome) × (after ≡ result.area)
    → (outcome.answer ≡ result.outcome.answer) × (outcome.device ≡ result.outcome.device) × (after ≡ result.area)
leaves h = (ap (λ (left : Outcome). left.answer) h.0, ap (λ (left : Outcome). left.device) h.0, h.1)
