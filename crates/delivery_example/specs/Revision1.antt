-- A run in revision 1, as an editor does that never writes CLIENT_REV: scaled motion, a kept axis, ACCELERATION written in between, a
-- packet without a form, a refusal for room that nothing tells of, and nothing to read at the end. The same theorem speaks of it.
use Rattle.std.specs.Prelude.{ℕ, ◌-◌, ◌^◌, ◌≡◌, true, false, List, [], ◌∷◌, ◌++◌, map, replicate}
use Rattle.words.specs.Words.{set_u32}
use Rattle.geometry.specs.Geometry.{allowed}
use Rattle.records.specs.declared.Event.{Event}
use Rattle.records.specs.Codes.{ev_key, ev_rel, ev_abs, rel_x, rel_y, rel_wheel, abs_x, abs_y, btn_left}
use Rattle.revision1_records.specs.Flags.{ABSOLUTE, RELATIVE, left_button_down, left_button_up, VWHEEL, flagged, halves, fence}
use Rattle.device.specs.declared.Revision.TheVariants.{One}
use Rattle.delivery.specs.World.{World, Call, write, add, packet, step, revision_in, call}
use Rattle.delivery.specs.Log.{Entry, Item, group, log_of, after, number_in, ends_with_nothing_to_read}
use Rattle.delivery.specs.Received.{received_log}
use Rattle.delivery.specs.Premises.{AllBelong}
use Rattle.delivery.specs.Demand3.{sent_since, AfterList}
use Rattle.delivery_example.specs.Setting.{small, mouse, unused, event, bytes}

-- A tablet with a mouse: SYN, KEY, REL and ABS are used, with ABS_X, ABS_Y and the three buttons.
abbrev pub tablet : List ℕ
tablet = set_u32 (set_u32 (set_u32 (replicate 256 0) 40 0xF) 44 3) 56 0x70000

-- It was added at slot 4. The device is off, and CLIENT_REV was never written.
abbrev pub before : World
before = after small unused (add 4 tablet ∷ [])

abbrev pub start : World
start = (call small before (write 0x100 4 1)).world

-- A signed number in 32 bits.
abbrev minus : ℕ → ℕ
minus size = 2 ^ 32 - size

-- ---- the packets

abbrev pub relative : ℕ → ℕ → List Event
relative x y = event ev_rel rel_x x ∷ event ev_rel rel_y y ∷ []

-- A press of the left button at a place, with the button first; its record comes after the place.
abbrev pub press : List Event
press = event ev_key btn_left 1 ∷ event ev_abs abs_x 100 ∷ event ev_abs abs_y 200 ∷ []

abbrev pub turned : List Event
turned = event ev_rel rel_wheel (minus 1) ∷ event ev_rel rel_x (minus 7) ∷ []

abbrev pub upwards : List Event
upwards = event ev_abs abs_y 300 ∷ []

-- The horizontal wheel has no form.
abbrev pub sideways : List Event
sideways = event ev_rel 6 1 ∷ []

-- One record for each event, and the FENCE.
abbrev pub released : List Event
released = replicate 32 (event ev_key btn_left 0)

-- ---- the calls

-- At ACCELERATION 10, then 15, then 15 still: 21 is ignored.
abbrev pub sending : List Call
sending =
    packet 4 (bytes (relative 7 (minus 5)))
    ∷ packet 4 (bytes press)
    ∷ write 0x10C 4 15
    ∷ packet 4 (bytes turned)
    ∷ write 0x10C 4 21
    ∷ packet 4 (bytes upwards)
    ∷ packet 4 (bytes sideways)
    ∷ []

-- The first packet takes 33 records after the 10 before it, so the second is refused for room. A mouse is added, which puts no record.
abbrev pub full : List Call
full = packet 4 (bytes released) ∷ packet 4 (bytes released) ∷ add 9 mouse ∷ []

-- All 43 records are read, and one step more finds nothing to read; then one packet more, and the same.
abbrev pub reads : List Call
reads = replicate 44 step

abbrev pub last : List Call
last = packet 9 (bytes (relative 19 0)) ∷ replicate 3 step

abbrev pub calls : List Call
calls = sending ++ (full ++ (reads ++ last))

abbrev pub answers : List ℕ
answers = 0 ∷ 0 ∷ 0 ∷ 0 ∷ 0 ∷ 0 ∷ 8 ∷ 0 ∷ 7 ∷ 0 ∷ []

-- ---- what is received

-- A signed number in 16 bits.
abbrev back : ℕ → ℕ
back size = 65536 - size

-- 7 to the left at 15 are 10.5, and 19 are 28.5: both are cut towards zero. The wheel isn't scaled. X is kept at 100.
abbrev pub items : List Item
items =
    group (flagged RELATIVE (halves 7 (back 5)) ∷ fence ∷ [])
    ∷ group (flagged ABSOLUTE (halves 100 200) ∷ flagged left_button_down 0 ∷ fence ∷ [])
    ∷ group (flagged RELATIVE (halves (back 10) 0) ∷ flagged VWHEEL (minus 1) ∷ fence ∷ [])
    ∷ group (flagged ABSOLUTE (halves 100 300) ∷ fence ∷ [])
    ∷ group (replicate 32 (flagged left_button_up 0) ++ (fence ∷ []))
    ∷ group (flagged RELATIVE (halves 28 0) ∷ fence ∷ [])
    ∷ []

-- The run meets each premise of the theorem, so what the theorem says holds of it; and this is its log.
pub record InRevision1 : Type 0 where
  pub is_allowed : allowed small ≡ true
  pub is_off : before.device.registers.on ≡ false
  pub is_on : start.device.registers.on ≡ true
  pub is_revision_1 : revision_in start ≡ One
  pub all_belong : AllBelong small start calls
  pub after_list : AfterList small start calls
  pub is_answered : map (λ (entry : Entry). number_in entry.answered) (log_of small start (sending ++ full)) ≡ answers
  pub is_received : received_log (log_of small start calls) ≡ items
  pub is_sent : sent_since start (log_of small start calls) ≡ items
  pub ends_dry : ends_with_nothing_to_read (log_of small start calls) ≡ true
