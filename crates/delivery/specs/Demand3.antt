-- Demand 3, in plain words, for both revisions.
--
-- Take every allowed geometry, any device that is off, any event area and entry page, whatever they hold, and any access after which
-- the device is on; in revision 2 a fresh driver. Then take every list of reads, writes, adds, removes, packets and steps, refused ones
-- included, in which no write switches the device off or moves the read pointer. The steps are the driver's in revision 2, and those of
-- the revision 1 reader in revision 1. After the list:
--
--   the reader has received a front part of what was sent, in order;
--   the rest is what it will make of the unread records;
--   it has received all of it if the last call was a step that answered "nothing to read".
--
-- What was sent is, in revision 2, each accepted packet, whole, under its slot, after a gap exactly when one was refused for room since
-- the one accepted before it, or since switch-on; in revision 1 the group of records of each accepted packet, up to its FENCE.
--
-- Along the list the state rules go on holding, so no call is refused for its state; no call answers 10; and the revision stays.
--
-- The readers know the pointers and the first 8 bytes of a record, the driver 68 of an entry: whatever the pages hold beyond these,
-- steps, copy-outs and lookups give the same answers and leave the reader in the same state. This holds in any state.
use Rattle.std.specs.Prelude.{ℕ, ◌≡◌, true, false, List, [], ◌∷◌, ◌++◌, length}
use Rattle.answers.specs.Answers.{bad_index}
use Rattle.geometry.specs.declared.Geometry.{Geometry}
use Rattle.geometry.specs.Geometry.{allowed, ring_of}
use Rattle.records.specs.Unread.{SameToDriver}
use Rattle.entries.specs.Lookup.{lookup_answer, lookup_part, SameEntries}
use Rattle.assembly.specs.declared.Driver.{Driver}
use Rattle.reading.specs.Reading.{is_valid_area}
use Rattle.driver.specs.Step.{is_valid_step, step_of}
use Rattle.revision1_reader.specs.Step.{take_of}
use Rattle.copy_out.specs.CopyOut.{copy_of}
use Rattle.device.specs.declared.Revision.{Revision}
use Rattle.device.specs.declared.Revision.TheVariants.{One, Two}
use Rattle.device.specs.Call.{is_valid_call}
use Rattle.delivery.specs.World.{World, Call, write, revision_in, call}
use Rattle.delivery.specs.Log.{Item, Entry, log_of, after, number_in, ends_with_nothing_to_read}
use Rattle.delivery.specs.Received.{received_log, begun_in}
use Rattle.delivery.specs.Sent.{sent_log}
use Rattle.delivery.specs.Pending.{pending_in}
use Rattle.delivery.specs.Premises.{StartsFresh, AllBelong}

-- What the calls since switch-on sent. `start` is the world right after it.
abbrev pub sent_since : World → List Entry → List Item
sent_since start log = sent_log (revision_in start) start.device.registers.acceleration log

-- Front part, with the rest in the ring, and all of it right after "nothing to read". `world` is the one after the list.
pub record Delivered (geometry : Geometry) (start world : World) (log : List Entry) : Type 0 where
  pub front : received_log log ++ pending_in (revision_in start) geometry world (begun_in log) ≡ sent_since start log
  pub all : ends_with_nothing_to_read log ≡ true → received_log log ≡ sent_since start log

-- The reader's step isn't refused with 1.
abbrev pub ReaderHolds : Revision → Geometry → World → Type 0
ReaderHolds One geometry world = is_valid_area geometry (length world.area) ≡ true
ReaderHolds Two geometry world =
    is_valid_step geometry world.collector.driver (length world.area) (length world.collector.packet) ≡ true

-- No state or geometry is refused.
pub record StateHolds (geometry : Geometry) (start world : World) : Type 0 where
  pub device_holds : is_valid_call geometry world.device (length world.area) (length world.page) ≡ true
  pub reader-holds : ReaderHolds (revision_in start) geometry world
  pub same_revision : revision_in world ≡ revision_in start

abbrev pub NoBadIndex : List Entry → Type 0
NoBadIndex [] = Unit {0}
NoBadIndex (entry ∷ rest) = (number_in entry.answered ≡ bad_index → ⊥) × NoBadIndex rest

-- One claim about the list. It is about every front part of the list too, which is a list of its own.
pub record AfterList (geometry : Geometry) (start : World) (calls : List Call) : Type 0 where
  pub delivered : Delivered geometry start (after geometry start calls) (log_of geometry start calls)
  pub state_holds : StateHolds geometry start (after geometry start calls)
  pub no_bad_index : NoBadIndex (log_of geometry start calls)

abbrev pub Delivery : Type 0
Delivery =
    (geometry : Geometry) → allowed geometry ≡ true
    → (world : World) → StartsFresh (revision_in world) world.collector → world.device.registers.on ≡ false
    → (offset width value : ℕ) → (call geometry world (write offset width value)).world.device.registers.on ≡ true
    → (calls : List Call) → AllBelong geometry (call geometry world (write offset width value)).world calls
    → AfterList geometry (call geometry world (write offset width value)).world calls

-- ---- the last sentence, for each call of a reader in any state

abbrev pub StepIndependent : Type 0
StepIndependent =
    (geometry : Geometry) (driver : Driver) (packet left right : List ℕ) → SameToDriver (ring_of geometry) left right
    → ((step_of geometry driver left packet).stepped ≡ (step_of geometry driver right packet).stepped)
    × ((step_of geometry driver left packet).packet ≡ (step_of geometry driver right packet).packet)
    × SameToDriver (ring_of geometry) (step_of geometry driver left packet).area (step_of geometry driver right packet).area

abbrev pub TakeIndependent : Type 0
TakeIndependent =
    (geometry : Geometry) (left right : List ℕ) → SameToDriver (ring_of geometry) left right
    → ((take_of geometry left).taken ≡ (take_of geometry right).taken)
    × SameToDriver (ring_of geometry) (take_of geometry left).area (take_of geometry right).area

abbrev pub CopyOutIndependent : Type 0
CopyOutIndependent =
    (geometry : Geometry) (limit : ℕ) (out left right : List ℕ) → SameToDriver (ring_of geometry) left right
    → ((copy_of geometry left limit out).copied ≡ (copy_of geometry right limit out).copied)
    × ((copy_of geometry left limit out).out ≡ (copy_of geometry right limit out).out)
    × SameToDriver (ring_of geometry) (copy_of geometry left limit out).area (copy_of geometry right limit out).area

abbrev pub LookupIndependent : Type 0
LookupIndependent =
    (geometry : Geometry) (left right : List ℕ) (slot : ℕ) → SameEntries geometry left right
    → (lookup_answer geometry left slot ≡ lookup_answer geometry right slot)
    × (lookup_part geometry left slot ≡ lookup_part geometry right slot)

pub record Demand3 : Type 0 where
  pub delivery : Delivery
  pub step_independent : StepIndependent
  pub take_independent : TakeIndependent
  pub copy_out_independent : CopyOutIndependent
  pub lookup_independent : LookupIndependent
