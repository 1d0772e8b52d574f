-- What a step tells, and what it leaves a driver with (01, "The driver's side").
use Rattle.std.specs.Prelude.{ℕ, Result, Ok, Err}
use Rattle.answers.specs.declared.Refusal.{Refusal}
use Rattle.answers.specs.Refusal.{number_of}
use Rattle.assembly.specs.declared.Driver.{Driver}
use Rattle.assembly.specs.declared.Told.{Told as Answered}
use Rattle.assembly.specs.declared.Told.TheVariants as answered

-- A refusal's number, or what the record was to the driver.
pub data Told : Type 0 where
  Refused : ℕ → Told
  Nothing : Told
  Gap : Told
  EmptyReport : Told
  Packet : ℕ → ℕ → Told
  Set : ℕ → Told
  Conf : ℕ → Told
  Reset : ℕ → Told
  ResetAll : Told

-- What the code hands back, in one type with its refusals.
abbrev pub told_of : Result Answered Refusal → Told
told_of (Err refusal) = Refused (number_of refusal)
told_of (Ok answered.Nothing) = Nothing
told_of (Ok answered.Gap) = Gap
told_of (Ok answered.EmptyReport) = EmptyReport
told_of (Ok (answered.Packet slot count)) = Packet slot count
told_of (Ok (answered.Set slot)) = Set slot
told_of (Ok (answered.Conf slot)) = Conf slot
told_of (Ok (answered.Reset slot)) = Reset slot
told_of (Ok answered.ResetAll) = ResetAll

-- What a step tells, with the driver after it.
pub record Stepped : Type 0 where
  pub told : Told
  pub driver : Driver
