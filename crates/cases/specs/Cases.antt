-- The cases marked P on both sides of each edge (01), and those of revision 1 (02, E1): a row says the case, what is computed and what it
-- must be.
use Rattle.std.specs.Prelude.{ℕ, ◌-◌, ◌^◌, ◌≡◌, Bool, cond, List, [], ◌∷◌, length}
use Prim.Native.String.{String}
use Rattle.geometry.specs.Geometry.{ring_length, ring_of, record_place, slot_count, entry_place}
use Rattle.revision1_motion.specs.Scaling.{is_in_range, scaled}
use Rattle.records.specs.Ring.{unread_count, has_room}
use Rattle.entries.specs.Offer.{is_offered}
use Rattle.device.specs.declared.Device.{Device}
use Rattle.device.specs.Result.{Result}
use Rattle.packets.specs.Rule.{packet_answer, packet_of}
use Rattle.registers.specs.Write.{write_of}
use Rattle.kbdif_page.specs.Page.{event_place}
use Rattle.cases.specs.Setting.{sizes, fine, coarse, page, off, on, unset, on_in_revision1, area, motions, motion, minus, absolute}

pub record Case : Type 0 where
  pub says : String
  pub computed : ℕ
  pub expected : ℕ

abbrev case : String → ℕ → ℕ → Case
case says computed expected = record { says = says; computed = computed; expected = expected }

-- A test as a number: 1 if it holds.
abbrev number : Bool → ℕ
number test = cond test 1 0

-- CONTROL's bit 0 is written; then a packet of two events, then one of one event.
abbrev switched : Result
switched = write_of fine off (area 7 7) (length page) 0x100 4 1

abbrev then : Device → List ℕ → ℕ → Result
then device before count = packet_of fine device before page 4 (motions count)

abbrev first : Result
first = then switched.outcome.device switched.area 2

abbrev second : Result
second = then first.outcome.device first.area 1

abbrev pub cases : List Case
cases =
    case "n = 1, E = 8: R" (ring_length fine) 511
    ∷ case "n = 1, E = 8: one record fits beside 509 unread" (number (has_room (ring_of fine) 0 509 1)) 1
    ∷ case "n = 1, E = 8: the ring is full at 510" (number (has_room (ring_of fine) 0 510 1)) 0
    ∷ case "n = 1, E = 8: record 510 begins at" (record_place (ring_of fine) 510) 4088
    ∷ case "n = 1, E = 64: R" (ring_length coarse) 63
    ∷ case "n = 8, E = 8: R" (ring_length (sizes 8 8 68)) 4095
    ∷ case "S = 72: slots" (slot_count (sizes 1 8 72)) 56
    ∷ case "S = 68: slot 59 begins at" (entry_place fine 59) 4012
    ∷ case "slot 4 taken, switch-on: answer" switched.outcome.answer 0
    ∷ case "slot 4 taken, switch-on: w" switched.outcome.device.producer.write_index 2
    ∷ case "a packet of two events for it: w" first.outcome.device.producer.write_index 6
    ∷ case "a further one of one event: w" second.outcome.device.producer.write_index 8
    ∷ case "R = 63: from 0 to 60 are unread" (unread_count (ring_of coarse) 0 60) 60
    ∷ case "R = 63, unread 60, slot current, no lost mark: one event" (packet_answer coarse (on 60) (area 0 60) page 4 (motions 1)) 0
    ∷ case "R = 63, unread 60, slot current, no lost mark: two events" (packet_answer coarse (on 60) (area 0 60) page 4 (motions 2)) 7
    ∷ case "READ_PTR 511 at R = 511" (packet_answer fine (on 0) (area 511 0) page 4 (motions 1)) 10
    ∷ case "READ_PTR 510 at R = 511" (packet_answer fine (on 0) (area 510 0) page 4 (motions 1)) 0
    ∷ case "ABS code 0x35 by bit 21 of absbits' second word"
    (number (is_offered (absolute (2 ^ 21)) (record { kind = 3; code = 0x35; value = 0 }))) 1
    ∷ case "ABS code 0x35 by bit 20 of it" (number (is_offered (absolute (2 ^ 20)) (record { kind = 3; code = 0x35; value = 0 }))) 0
    ∷ case "keyboard ring: index 4294967295 has place 0, which begins at" (event_place 4294967295) 1024
    ∷ case "keyboard ring: place 50 begins at" (event_place 50) 3024
    ∷ []

-- ---- revision 1

-- The device that never had CLIENT_REV written is switched on.
abbrev started : Result
started = write_of fine unset (area 7 7) (length page) 0x100 4 1

-- A signed number in 16 bits.
abbrev back : ℕ → ℕ
back size = 65536 - size

abbrev pub cases_in_revision1 : List Case
cases_in_revision1 =
    case "-19 at 1 is -1" (scaled 1 (minus 19)) (back 1)
    ∷ case "-9 at 1 is 0" (scaled 1 (minus 9)) 0
    ∷ case "19 at 1 is 1" (scaled 1 19) 1
    ∷ case "327679 at 1 is right" (number (is_in_range 1 327679)) 1
    ∷ case "327679 at 1 is 32767" (scaled 1 327679) 32767
    ∷ case "327680 at 1 is too large" (number (is_in_range 1 327680)) 0
    ∷ case "-327689 at 1 is right" (number (is_in_range 1 (minus 327689))) 1
    ∷ case "-327689 at 1 is -32768" (scaled 1 (minus 327689)) (back 32768)
    ∷ case "-327690 at 1 is too large" (number (is_in_range 1 (minus 327690))) 0
    ∷ case "16383 at 20 is right" (number (is_in_range 20 16383)) 1
    ∷ case "16384 at 20 is too large" (number (is_in_range 20 16384)) 0
    ∷ case "-16384 at 20 is right" (number (is_in_range 20 (minus 16384))) 1
    ∷ case "CLIENT_REV never written, switch-on: answer" started.outcome.answer 0
    ∷ case "CLIENT_REV never written, switch-on: w" started.outcome.device.producer.write_index 0
    ∷ case "R = 63, unread 60: a packet of 16383 at 20" (packet_answer coarse (on_in_revision1 60) (area 0 60) page 4 (motion 16383)) 0
    ∷ case "R = 63, unread 61: a packet of 16383 at 20" (packet_answer coarse (on_in_revision1 61) (area 0 61) page 4 (motion 16383)) 7
    ∷ case "R = 63, unread 61: a packet of 16384 at 20" (packet_answer coarse (on_in_revision1 61) (area 0 61) page 4 (motion 16384)) 8
    ∷ []

-- Every row is right.
abbrev pub AllRight : List Case → Type 0
AllRight [] = Unit {0}
AllRight (row ∷ rest) = (row.computed ≡ row.expected) × AllRight rest

abbrev pub Cases : Type 0
Cases = AllRight cases × AllRight cases_in_revision1
