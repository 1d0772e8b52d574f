-- A run in revision 2 in which everything happens: accesses, packets, refusals, a refusal for room and its gap, two slots, a device that
-- goes and another that comes to its slot, and nothing to read at the end. The theorem of delivery speaks of it, and its log is computed.
use Rattle.std.specs.Prelude.{ℕ, ◌≡◌, true, false, List, [], ◌∷◌, ◌++◌, map, replicate}
use Rattle.geometry.specs.Geometry.{allowed}
use Rattle.records.specs.declared.Event.{Event}
use Rattle.records.specs.Codes.{ev_rel, rel_x}
use Rattle.delivery.specs.World.{World, Call, read, write, add, remove, packet, step, call}
use Rattle.delivery.specs.Log.{Entry, Item, gap, whole, log_of, after, number_in, ends_with_nothing_to_read}
use Rattle.delivery.specs.Received.{received_log}
use Rattle.delivery.specs.Premises.{IsFresh, AllBelong}
use Rattle.delivery.specs.Demand3.{sent_since, AfterList}
use Rattle.delivery_example.specs.Setting.{small, mouse, unused, event, bytes}

-- A mouse was added at slot 4, and CLIENT_REV written. The device is off.
abbrev pub before : World
before = after small unused (add 4 mouse ∷ write 0x118 4 2 ∷ [])

-- CONTROL was written: the device is on.
abbrev pub start : World
start = (call small before (write 0x100 4 1)).world

abbrev pub motion : ℕ → Event
motion value = event ev_rel rel_x value

-- So many of them.
abbrev pub motions : ℕ → ℕ → List ℕ
motions count value = bytes (replicate count (motion value))

-- MAGIC is read, ISR written; MAGIC is written, which is refused.
abbrev pub accesses : List Call
accesses = read 0 4 ∷ write 0x110 4 0 ∷ write 0 4 1 ∷ []

-- The first packet takes 34 records after the two of the switch-on, so the second, of 33, is refused for room. Slot 4 is taken, and
-- slot 9 is absent.
abbrev pub refusals : List Call
refusals = packet 4 (motions 32 1) ∷ packet 4 (motions 32 2) ∷ add 4 mouse ∷ remove 9 ∷ []

-- All 36 records are read, one step more finds nothing to read, and READ_PTR is written with the value that it has.
abbrev pub reads : List Call
reads = replicate 37 step ++ (write 0x1000 4 36 ∷ [])

-- A packet after the gap. Then another mouse comes to slot 4 and one to slot 9, and both send.
abbrev pub later : List Call
later =
    packet 4 (motions 1 3)
    ∷ remove 4
    ∷ add 4 mouse
    ∷ add 9 mouse
    ∷ packet 9 (motions 1 5)
    ∷ packet 4 (motions 2 4)
    ∷ []

-- At the end all 14 records are read, and one step more finds nothing to read.
abbrev pub calls : List Call
calls = accesses ++ (refusals ++ (reads ++ (later ++ replicate 15 step)))

-- What the accesses and the calls after them are answered.
abbrev pub answers : List ℕ
answers = 0 ∷ 0 ∷ 3 ∷ 0 ∷ 7 ∷ 6 ∷ 6 ∷ []

abbrev pub items : List Item
items =
    whole 4 (replicate 32 (motion 1))
    ∷ gap
    ∷ whole 4 (motion 3 ∷ [])
    ∷ whole 9 (motion 5 ∷ [])
    ∷ whole 4 (motion 4 ∷ motion 4 ∷ [])
    ∷ []

-- The run meets each premise of the theorem, so what the theorem says holds of it; and this is its log.
pub record InRevision2 : Type 0 where
  pub is_allowed : allowed small ≡ true
  pub is_fresh : IsFresh before.collector
  pub is_off : before.device.registers.on ≡ false
  pub is_on : start.device.registers.on ≡ true
  pub all_belong : AllBelong small start calls
  pub after_list : AfterList small start calls
  pub is_answered : map (λ (entry : Entry). number_in entry.answered) (log_of small start (accesses ++ refusals)) ≡ answers
  pub is_received : received_log (log_of small start calls) ≡ items
  pub is_sent : sent_since start (log_of small start calls) ≡ items
  pub ends_dry : ends_with_nothing_to_read (log_of small start calls) ≡ true
