-- What was sent, from the calls' arguments and answers and from the revision and the ACCELERATION at switch-on alone.
use Rattle.std.specs.Prelude.{ℕ, Bool, true, false, ◌&&◌, cond, List, [], ◌∷◌, ◌++◌, eqb}
use Rattle.answers.specs.Answers.{done, no_room}
use Rattle.records.specs.declared.Event.{Event}
use Rattle.records.specs.Packet.{events_of}
use Rattle.revision1_records.specs.declared.Position.{Position}
use Rattle.revision1_records.specs.Records.{origin, group_of}
use Rattle.device.specs.declared.Revision.{Revision}
use Rattle.device.specs.declared.Revision.TheVariants.{One, Two}
use Rattle.device.specs.State.{is_acceleration}
use Rattle.packets.specs.Revision.{lost_after, position_in}
use Rattle.delivery.specs.World.{Call, read, write, add, remove, packet, step}
use Rattle.delivery.specs.Log.{Entry, Item, gap, whole, group, number_in}

-- What the log has to remember: the revision; whether a packet was refused for room since the one accepted before, or since switch-on;
-- ACCELERATION; the last position.
pub record Sender : Type 0 where
  pub revision : Revision
  pub refused : Bool
  pub acceleration : ℕ
  pub position : Position

abbrev pub at_switch_on : Revision → ℕ → Sender
at_switch_on revision acceleration = record { revision = revision; refused = false; acceleration = acceleration; position = origin }

-- What a call adds to the sent log, and what is remembered after it.
pub record Sends : Type 0 where
  pub items : List Item
  pub next : Sender

abbrev pub nothing : Sender → Sends
nothing sender = record { items = []; next = sender }

-- ---- packets

abbrev pub gap_if : Bool → List Item
gap_if refused = cond refused (gap ∷ []) []

-- An accepted packet: in revision 2 whole, under its slot, after one gap if one was refused for room; in revision 1 the group of its
-- records, at the ACCELERATION of that time.
abbrev pub items_in : Revision → Sender → ℕ → List Event → List Item
items_in One sender slot events = group (group_of sender.acceleration sender.position events) ∷ []
items_in Two sender slot events = gap_if sender.refused ++ (whole slot events ∷ [])

-- In revision 1 nothing is told of refused packets, so what is remembered of them stays.
abbrev pub after_accepted : Sender → List Event → Sender
after_accepted sender events = record {
  revision = sender.revision;
  refused = lost_after sender.revision sender.refused;
  acceleration = sender.acceleration;
  position = position_in sender.revision sender.position events;
}

abbrev pub with_refused : Sender → Sender
with_refused sender = record {
  revision = sender.revision;
  refused = true;
  acceleration = sender.acceleration;
  position = sender.position;
}

-- A packet answered 0 is sent; one answered 7 is remembered.
abbrev pub sends_packet : Sender → ℕ → List Event → ℕ → Sends
sends_packet sender slot events n =
    cond (eqb n done) (record { items = items_in sender.revision sender slot events; next = after_accepted sender events })
    (cond (eqb n no_room) (nothing (with_refused sender)) (nothing sender))

-- ---- ACCELERATION

-- In revision 1 a write of 1 to 20 is taken.
abbrev pub acceleration_in : Revision → Bool → ℕ → ℕ → ℕ
acceleration_in One written value old = cond (written && is_acceleration value) value old
acceleration_in Two written value old = old

-- ACCELERATION stands at 0x10C.
abbrev pub after_write : Sender → ℕ → ℕ → ℕ → Sender
after_write sender offset value n = record {
  revision = sender.revision;
  refused = sender.refused;
  acceleration = acceleration_in sender.revision (eqb offset 0x10C && eqb n done) value sender.acceleration;
  position = sender.position;
}

-- ---- all calls

abbrev pub sends : Sender → Call → ℕ → Sends
sends sender (read offset width) n = nothing sender
sends sender (write offset width value) n = nothing (after_write sender offset value n)
sends sender (add slot entry) n = nothing sender
sends sender (remove slot) n = nothing sender
sends sender (packet slot events) n = sends_packet sender slot (events_of events) n
sends sender step n = nothing sender

abbrev pub sent_from : Sender → List Entry → List Item
sent_from sender [] = []
sent_from sender (entry ∷ rest) =
    let now = sends sender entry.did (number_in entry.answered) in
    now.items ++ sent_from now.next rest

abbrev pub sent_log : Revision → ℕ → List Entry → List Item
sent_log revision acceleration log = sent_from (at_switch_on revision acceleration) log
