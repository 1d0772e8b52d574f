-- One node, a name and a value (01, "kbdif ring and nodes"): names not meant here are ignored with any value, a name given again replaces.
-- Flags are "0" or "1", numbers are decimals. Another value is 12 and changes nothing.
use Rattle.std.specs.Prelude.{ℕ, Bool, cond, ◌||◌, List, [], ◌∷◌, Result, Ok, Err, ltb, eqb, length, get_or}
use Rattle.answers.specs.Answers.{done, bad_setting}
use Rattle.decimals.specs.declared.BadText.{BadText}
use Rattle.decimals.specs.Numbers.{Number, read_number, answer_of}
use Rattle.node_names.specs.declared.FlagName.{FlagName}
use Rattle.node_names.specs.declared.NumberName.{NumberName}
use Rattle.node_names.specs.declared.Node.{Node}
use Rattle.node_names.specs.Names.{node_of}
use Rattle.nodes.specs.declared.Settings.{Settings}
use Rattle.nodes.specs.Settings.{with_flag, with_number}

-- What a text says: a flag, or nothing, with the place of the first byte that spoils the text.
abbrev pub Flag : Type 0
Flag = Result Bool BadText

-- A text that is spoiled at a place.
abbrev pub bad_at : ℕ → Flag
bad_at place = Err (record { place = place })

-- The number that a node is answered, and the settings after it.
pub record NodeAnswer : Type 0 where
  pub answer : ℕ
  pub settings : Settings

-- A byte below "0" or above "1".
abbrev pub no_flag : ℕ → Bool
no_flag byte = ltb byte 48 || ltb 49 byte

-- A flag's text, after its first byte: nothing may follow.
abbrev pub flag_ends : List ℕ → Bool → Flag
flag_ends [] value = Ok value
flag_ends (byte ∷ rest) value = bad_at 1

-- The flag that a text says, or the place of the first byte that spoils it. An empty text is bad at its length.
unfoldable pub read_flag : List ℕ → Flag
read_flag [] = bad_at 0
read_flag (byte ∷ rest) = cond (no_flag byte) (bad_at 0) (flag_ends rest (eqb byte 49))

-- 01's number of each: a text that says a flag is 0, a bad one 12.
abbrev pub flag_answer : Flag → ℕ
flag_answer (Ok value) = done
flag_answer (Err bad) = bad_setting

-- Flags are "0" or "1": all else is 12.
abbrev pub flag_refusals : List ℕ → List (Bool × ℕ)
flag_refusals text =
    (eqb (length text) 0, bad_setting)
    ∷ (no_flag (get_or text 0 0), bad_setting)
    ∷ (ltb 1 (length text), bad_setting)
    ∷ []

-- A bad value changes nothing.
abbrev pub with_flag_read : Settings → FlagName → Flag → Settings
with_flag_read settings name (Ok value) = with_flag settings name value
with_flag_read settings name (Err bad) = settings

abbrev pub with_number_read : Settings → NumberName → Number → Settings
with_number_read settings name (Ok value) = with_number settings name value
with_number_read settings name (Err bad) = settings

unfoldable pub after_flag : Settings → FlagName → Flag → NodeAnswer
after_flag settings name flag = record { answer = flag_answer flag; settings = with_flag_read settings name flag }

unfoldable pub after_number : Settings → NumberName → Number → NodeAnswer
after_number settings name number = record { answer = answer_of number; settings = with_number_read settings name number }

abbrev pub accepted : Settings → NodeAnswer
accepted settings = record { answer = done; settings = settings }

-- Other nodes are ignored, whatever their value.
unfoldable pub after_node : Settings → Node → List ℕ → NodeAnswer
after_node settings (Node.Flag name) value = after_flag settings name (read_flag value)
after_node settings (Node.Number name) value = after_number settings name (read_number value)
after_node settings Node.Other value = accepted settings

abbrev pub read_node : Settings → List ℕ → List ℕ → NodeAnswer
read_node settings name value = after_node settings (node_of name) value
