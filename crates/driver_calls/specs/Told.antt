-- What a step tells, as numbers: the answer, what was told, and the slot and the count of events where it has them.
use Rattle.std.specs.Prelude.{ℕ}
use Rattle.assembly.specs.Told.{Told}
use Rattle.assembly.specs.Told as told
use Rattle.assembly.specs.Transition.{answer_of}
use Rattle.driver_calls.specs.declared.StepAnswer.{StepAnswer}
use Rattle.driver_calls.specs.declared.What.{What}
use Rattle.driver_calls.specs.declared.What.TheVariants as what

-- The number of each thing that a step tells.
abbrev pub what_number : What → ℕ
what_number what.Nothing = 0
what_number what.Gap = 1
what_number what.EmptyReport = 2
what_number what.Packet = 3
what_number what.Set = 4
what_number what.Conf = 5
what_number what.Reset = 6
what_number what.ResetAll = 7

-- A refusal tells nothing.
abbrev pub what_of : Told → ℕ
what_of (told.Refused number) = 0
what_of told.Nothing = 0
what_of told.Gap = 1
what_of told.EmptyReport = 2
what_of (told.Packet slot count) = 3
what_of (told.Set slot) = 4
what_of (told.Conf slot) = 5
what_of (told.Reset slot) = 6
what_of told.ResetAll = 7

abbrev pub slot_of : Told → ℕ
slot_of (told.Refused number) = 0
slot_of told.Nothing = 0
slot_of told.Gap = 0
slot_of told.EmptyReport = 0
slot_of (told.Packet slot count) = slot
slot_of (told.Set slot) = slot
slot_of (told.Conf slot) = slot
slot_of (told.Reset slot) = slot
slot_of told.ResetAll = 0

abbrev pub count_of : Told → ℕ
count_of (told.Refused number) = 0
count_of told.Nothing = 0
count_of told.Gap = 0
count_of told.EmptyReport = 0
count_of (told.Packet slot count) = count
count_of (told.Set slot) = 0
count_of (told.Conf slot) = 0
count_of (told.Reset slot) = 0
count_of told.ResetAll = 0

abbrev pub numbers_of : Told → StepAnswer
numbers_of what = record { answer = answer_of what; what = what_of what; slot = slot_of what; count = count_of what }
