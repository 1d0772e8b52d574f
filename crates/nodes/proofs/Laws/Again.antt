-- A name given again replaces (01, "kbdif ring and nodes").
use Prim.Native.Nat.{ℕ}
use mathlib.Core.Path.{◌≡◌, refl, ap}
use mathlib.Core.Bool.{Bool}
use mathlib.Core.List.{List}
use native.Mathlib.Omega.{arith}
use Rattle.std.specs.Prelude.{Ok, Err}
use Rattle.answers.specs.Answers.{done}
use Rattle.decimals.specs.Numbers.{Number, read_number}
use Rattle.node_names.specs.declared.FlagName.{FlagName}
use Rattle.node_names.specs.declared.NumberName.{NumberName}
use Rattle.node_names.specs.declared.Node.{Node}
use Rattle.node_names.specs.Names.{node_of}
use Rattle.nodes.specs.declared.Settings.{Settings}
use Rattle.nodes.specs.Settings.{with_flag, with_number}
use Rattle.nodes.specs.Nodes.{Flag, accepted, read_flag, after_flag, after_number, after_node, read_node}

flag_replaced : (settings : Settings) (name : FlagName) (first second : Bool)
    → with_flag (with_flag settings name first) name second ≡ with_flag settings name second
unfolding with_flag
flag_replaced settings FlagName.FeatureDisableKeyboard first second = refl
flag_replaced settings FlagName.FeatureDisablePointer first second = refl
flag_replaced settings FlagName.FeatureAbsPointer first second = refl
flag_replaced settings FlagName.FeatureMultiTouch first second = refl
flag_replaced settings FlagName.FeatureRawPointer first second = refl
flag_replaced settings FlagName.RequestAbsPointer first second = refl
flag_replaced settings FlagName.RequestMultiTouch first second = refl
flag_replaced settings FlagName.RequestRawPointer first second = refl

number_replaced : (settings : Settings) (name : NumberName) (first second : ℕ)
    → with_number (with_number settings name first) name second ≡ with_number settings name second
unfolding with_number
number_replaced settings NumberName.Width first second = refl
number_replaced settings NumberName.Height first second = refl
number_replaced settings NumberName.Contacts first second = refl
number_replaced settings NumberName.TouchWidth first second = refl
number_replaced settings NumberName.TouchHeight first second = refl

flag_again : (settings : Settings) (name : FlagName) (first second : Flag) → (after_flag settings name second).answer ≡ done
    → after_flag (after_flag settings name first).settings name second ≡ after_flag settings name second
unfolding after_flag
flag_again settings name (Ok first) (Ok second) h = ap accepted (flag_replaced settings name first second)
flag_again settings name (Err bad) (Ok second) h = refl
flag_again settings name first (Err bad) h = absurd (omega arith)

number_again : (settings : Settings) (name : NumberName) (first second : Number) → (after_number settings name second).answer ≡ done
    → after_number (after_number settings name first).settings name second ≡ after_number settings name second
unfolding after_number
number_again settings name (Ok first) (Ok second) h = ap accepted (number_replaced settings name first second)
number_again settings name (Err bad) (Ok second) h = refl
number_again settings name first (Err bad) h = absurd (omega arith)

node_again : (settings : Settings) (node : Node) (first second : List ℕ) → (after_node settings node second).answer ≡ done
    → after_node (after_node settings node first).settings node second ≡ after_node settings node second
unfolding after_node
node_again settings (Node.Flag name) first second h = flag_again settings name (read_flag first) (read_flag second) h
node_again settings (Node.Number name) first second h = number_again settings name (read_number first) (read_number second) h
node_again settings Node.Other first second h = refl

-- Where the second value is accepted, it is as if the first had never come.
pub given_again : (settings : Settings) (name first second : List ℕ) → (read_node settings name second).answer ≡ done
    → read_node (read_node settings name first).settings name second ≡ read_node settings name second
given_again settings name first second h = node_again settings (node_of name) first second h
