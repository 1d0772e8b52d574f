-- A law for each way out (Laws.Put), once the revision is known: every packet has a form, and its records are records_for's.
use mathlib.Core.Path.{◌≡◌, refl, ◌∙◌}
use mathlib.Core.Bool.{true}
use lib.ListN.{length}
use Rattle.answers.specs.Refusal.{answer_of}
use Rattle.geometry.specs.Geometry.{ring_of}
use Rattle.records.specs.Packet.{events_of}
use Rattle.device.specs.Revision.{revision_of}
use Rattle.device.specs.Room.{room_refusal}
use Rattle.device.proofs.Laws.Result.{leaves}
use Rattle.answers.proofs.Laws.{never_done}
use Rattle.packets.specs.Revision.{is_formed}
use Rattle.packets.specs.Rule.{packet_records}
use Rattle.packets.proofs.Laws.Put.{put_lost, put-accepted}
use Rattle.packets.proofs.revision2.put_in_revision2.Goals as goal
use Rattle.packets.proofs.revision2.put_in_revision2.Goals.{After-check_room, Start}

formed : (c : Start) → is_formed (revision_of c.args.device.now.registers) c.args.device.now.registers.acceleration
    (events_of c.args.packet.now) ≡ true
formed c = rw c.requires.registers_value

-- the room was tested for the definition's records
judged : (c : After-check_room) → answer_of c.check_room.result
    ≡ room_refusal (ring_of c.args.layout.geometry) c.args.area.now c.args.device.now.producer.write_index
    (length (packet_records c.args.device.now c.args.slot c.args.packet.now))
judged c = c.check_room.ensures
    ∙ rw (c.record_count-needed.ensures, c.write_place-write.ensures.0, c.write_place-write.ensures.1, c.requires.registers_value)

pub returns-in-Err : goal.returns-in-Err
returns-in-Err c = leaves (put_lost c.args.layout.geometry c.args.device.now c.args.area.now c.args.slot c.args.packet.now
    (formed (goal.at.returns-in-Err c).Start) (rw c.in-Err.is at (judged (goal.at.returns-in-Err c).After-check_room))
    (never_done _) refl)

pub returns : goal.returns
returns c =
    let write = c.write_place-write.ensures in
    rw c.requires.registers_value at
    (leaves {after = c.put_packet-next.new.area}
    (put-accepted c.args.layout.geometry c.args.device.now c.args.area.now c.args.slot c.args.packet.now
    (formed (goal.at.returns c).Start) (rw c.in_default.is at (judged (goal.at.returns c).After-check_room))
    c.put_packet-next.result.index refl
    (rw c.requires.registers_value (rw (write.0, write.1) at c.put_packet-next.ensures.put)) refl))
