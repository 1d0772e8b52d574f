-- The number of each refusal, and of an answer (01, "Numbers a caller can get").
use Rattle.std.specs.Prelude.{ℕ, Result, Ok, Err}
use Rattle.answers.specs.declared.Refusal.{Refusal}
use Rattle.answers.specs.declared.Refusal.TheVariants.{Invalid, BadAccess, ReadOnly, NoRegister, DeviceOff, BadSlot, NoRoom}
use Rattle.answers.specs.declared.Refusal.TheVariants.{NotOffered, Malformed, BadIndex, NothingToRead, BadSetting}
use Rattle.answers.specs.Answers.{done, invalid, bad_access, read_only, no_register, device_off, bad_slot, no_room}
use Rattle.answers.specs.Answers.{not_offered, malformed, bad_index, nothing_to_read, bad_setting}

abbrev pub number_of : Refusal → ℕ
number_of Invalid = invalid
number_of BadAccess = bad_access
number_of ReadOnly = read_only
number_of NoRegister = no_register
number_of DeviceOff = device_off
number_of BadSlot = bad_slot
number_of NoRoom = no_room
number_of NotOffered = not_offered
number_of Malformed = malformed
number_of BadIndex = bad_index
number_of NothingToRead = nothing_to_read
number_of BadSetting = bad_setting

-- What a call hands back is answered 0, and a refusal by its number.
abbrev pub answer_of : {T : Type 0} → Result T Refusal → ℕ
answer_of (Ok _) = done
answer_of (Err refusal) = number_of refusal
