-- The names of the nodes that are meant here (003, "Feature and Parameter Negotiation"). Others are ignored.
use Rattle.std.specs.Prelude.{ℕ, Bool, true, false, cond, ◌&&◌, List, [], ◌∷◌, eqb, map}
use Rattle.std.specs.Borrow.{Bor}
use Rattle.text.specs.Ascii.{ascii}
use Rattle.node_names.specs.declared.FlagName.{FlagName}
use Rattle.node_names.specs.declared.FlagName.TheVariants.{FeatureDisableKeyboard, FeatureDisablePointer}
use Rattle.node_names.specs.declared.FlagName.TheVariants.{FeatureAbsPointer, FeatureMultiTouch, FeatureRawPointer}
use Rattle.node_names.specs.declared.FlagName.TheVariants.{RequestAbsPointer, RequestMultiTouch, RequestRawPointer}
use Rattle.node_names.specs.declared.NumberName.{NumberName}
use Rattle.node_names.specs.declared.NumberName.TheVariants.{Width, Height, Contacts, TouchWidth, TouchHeight}
use Rattle.node_names.specs.declared.Node.{Node}
use Rattle.node_names.specs.declared.Node.TheVariants.{Flag, Number, Other}

-- Names are compared whole, byte for byte.
unfoldable pub same_bytes : List ℕ → List ℕ → Bool
same_bytes [] [] = true
same_bytes [] (right ∷ rights) = false
same_bytes (left ∷ lefts) [] = false
same_bytes (left ∷ lefts) (right ∷ rights) = eqb left right && same_bytes lefts rights

-- A table of the code: names, each with its node.
abbrev pub rows : List (Bor (List ℕ) × Node) → List (List ℕ × Node)
rows table = map (λ row. (row.0.now, row.1)) table

-- The node of a name in a table, or what the name is where the table lacks it.
unfoldable pub lookup : List ℕ → List (List ℕ × Node) → Node → Node
lookup name [] other = other
lookup name ((known, node) ∷ rest) other = cond (same_bytes name known) node (lookup name rest other)

-- Features of the back end and requests of the front end.
abbrev pub flag_nodes : List (List ℕ × Node)
flag_nodes =
    (ascii "feature-disable-keyboard", Flag FeatureDisableKeyboard)
    ∷ (ascii "feature-disable-pointer", Flag FeatureDisablePointer)
    ∷ (ascii "feature-abs-pointer", Flag FeatureAbsPointer)
    ∷ (ascii "feature-multi-touch", Flag FeatureMultiTouch)
    ∷ (ascii "feature-raw-pointer", Flag FeatureRawPointer)
    ∷ (ascii "request-abs-pointer", Flag RequestAbsPointer)
    ∷ (ascii "request-multi-touch", Flag RequestMultiTouch)
    ∷ (ascii "request-raw-pointer", Flag RequestRawPointer)
    ∷ []

-- Parameters of the pointer and of the multi-touch device.
abbrev pub number_nodes : List (List ℕ × Node)
number_nodes =
    (ascii "width", Number Width)
    ∷ (ascii "height", Number Height)
    ∷ (ascii "multi-touch-num-contacts", Number Contacts)
    ∷ (ascii "multi-touch-width", Number TouchWidth)
    ∷ (ascii "multi-touch-height", Number TouchHeight)
    ∷ []

unfoldable pub number_node : List ℕ → Node
number_node name = lookup name number_nodes Other

unfoldable pub node_of : List ℕ → Node
node_of name = lookup name flag_nodes (number_node name)

-- Numbers for the nodes, by which one is told from another.
abbrev pub flag_index : FlagName → ℕ
flag_index FeatureDisableKeyboard = 0
flag_index FeatureDisablePointer = 1
flag_index FeatureAbsPointer = 2
flag_index FeatureMultiTouch = 3
flag_index FeatureRawPointer = 4
flag_index RequestAbsPointer = 5
flag_index RequestMultiTouch = 6
flag_index RequestRawPointer = 7

abbrev pub number_index : NumberName → ℕ
number_index Width = 0
number_index Height = 1
number_index Contacts = 2
number_index TouchWidth = 3
number_index TouchHeight = 4
