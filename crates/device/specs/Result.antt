-- What a call of the device leaves.
use Rattle.std.specs.Prelude.{ℕ, List}
use Rattle.device.specs.declared.Device.{Device}

-- Its answer, and the state after it.
pub record Outcome : Type 0 where
  pub answer : ℕ
  pub device : Device

abbrev pub outcome_of : ℕ → Device → Outcome
outcome_of answer device = record { answer = answer; device = device }

-- Its answer with the state, and the event area.
pub record Result : Type 0 where
  pub outcome : Outcome
  pub area : List ℕ

abbrev pub result_of : ℕ → Device → List ℕ → Result
result_of answer device area = record { outcome = outcome_of answer device; area = area }
