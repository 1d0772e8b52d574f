-- A list of calls as a log, with what each call answered, and the items that are sent and received.
use Rattle.std.specs.Prelude.{ℕ, Bool, false, List, [], ◌∷◌, eqb}
use Rattle.answers.specs.Answers.{nothing_to_read}
use Rattle.geometry.specs.declared.Geometry.{Geometry}
use Rattle.records.specs.declared.Event.{Event}
use Rattle.assembly.specs.Transition.{answer_of}
use Rattle.delivery.specs.World.{World, Call, read, write, add, remove, packet, step, call}
use Rattle.delivery.specs.World.{Answer, numbered, valued, stepped, handed}

-- A call with what it answered.
pub record Entry : Type 0 where
  pub did : Call
  pub answered : Answer

-- The log of a list of calls, and the world after it.
abbrev pub log_of : Geometry → World → List Call → List Entry
log_of geometry world [] = []
log_of geometry world (next ∷ rest) =
    record { did = next; answered = (call geometry world next).answer } ∷ log_of geometry (call geometry world next).world rest

abbrev pub after : Geometry → World → List Call → World
after geometry world [] = world
after geometry world (next ∷ rest) = after geometry (call geometry world next).world rest

abbrev pub number_in : Answer → ℕ
number_in (numbered n) = n
number_in (valued v) = v.answer
number_in (stepped told buffer) = answer_of told
number_in (handed taken) = taken.answer

-- What is told in order. In revision 2: packets, each a slot with its events, and gaps. In revision 1: groups, each with its FENCE.
pub data Item : Type 0 where
  gap : Item
  whole : (slot : ℕ) → List Event → Item
  group : List Event → Item

-- ---- the last call was a step that answered 11

abbrev pub is_nothing_to_read : Call → ℕ → Bool
is_nothing_to_read (read offset width) n = false
is_nothing_to_read (write offset width value) n = false
is_nothing_to_read (add slot entry) n = false
is_nothing_to_read (remove slot) n = false
is_nothing_to_read (packet slot events) n = false
is_nothing_to_read step n = eqb n nothing_to_read

abbrev pub ends_with_nothing_to_read_from : Bool → List Entry → Bool
ends_with_nothing_to_read_from dry [] = dry
ends_with_nothing_to_read_from dry (entry ∷ rest) =
    ends_with_nothing_to_read_from (is_nothing_to_read entry.did (number_in entry.answered)) rest

abbrev pub ends_with_nothing_to_read : List Entry → Bool
ends_with_nothing_to_read log = ends_with_nothing_to_read_from false log
