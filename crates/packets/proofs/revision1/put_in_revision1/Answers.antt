-- A law for each way out (Laws.Put), once the revision is known: the form decides, then the room for the records of the group. What was
-- read has a form where the packet has one, and is its gesture then.
use Prim.Native.Nat.{ℕ}
use mathlib.Core.Path.{◌≡◌, refl, sym, ap, ◌∙◌}
use mathlib.Core.Bool.{true}
use native.Mathlib.Omega.{arith}
use lib.ListN.{length}
use Rattle.answers.specs.Refusal.{answer_of}
use Rattle.geometry.specs.Geometry.{ring_of}
use Rattle.records.specs.Packet.{events_of}
use Rattle.records.proofs.Laws.Packet.{counted}
use Rattle.revision1_gestures.specs.Gesture.{gesture_of}
use Rattle.revision1_gestures.proofs.Laws.Read.{tells_form, tells_whole}
use Rattle.revision1_gestures.proofs.Laws.Form.{form_position}
use Rattle.revision1_records.specs.Records.{group_of, record_count}
use Rattle.revision1_records.proofs.Laws.Count.{few_buttons, group_count}
use Rattle.device.specs.Revision.{revision_of}
use Rattle.device.specs.Room.{room_refusal}
use Rattle.device.proofs.Laws.Result.{leaves}
use Rattle.answers.proofs.Laws.{never_done}
use Rattle.packets.specs.Revision.{is_formed}
use Rattle.packets.specs.Rule.{packet_records}
use Rattle.packets.proofs.Laws.Put.{put_formless, put_lost, put-accepted}
use Rattle.packets.proofs.revision1.put_in_revision1.Goals as goal
use Rattle.packets.proofs.revision1.put_in_revision1.Goals.{Else-not-has_form, After-check_room}

-- the packet has a form
formed : (c : Else-not-has_form) → is_formed (revision_of c.args.device.now.registers) c.args.device.now.registers.acceleration
    (events_of c.args.packet.now) ≡ true
formed c = rw c.requires.registers_value (sym (tells_form c.gesture_of-gesture.ensures _) ∙ sym c.if-not-has_form.ensures)

-- and what was read is its gesture
whole : (c : Else-not-has_form) → c.gesture_of-gesture.result ≡ gesture_of (events_of c.args.packet.now)
whole c = tells_whole c.gesture_of-gesture.ensures _ (sym c.if-not-has_form.ensures)

-- the room was tested for the definition's records, whatever the slot
judged : (c : After-check_room) (slot : ℕ) → answer_of c.check_room.result
    ≡ room_refusal (ring_of c.args.layout.geometry) c.args.area.now c.args.device.now.producer.write_index
    (length (packet_records c.args.device.now slot c.args.packet.now))
judged c slot =
    let a = c.args in
    let told = tells_whole c.gesture_of-gesture.ensures _ (sym c.if-not-has_form.ensures) in
    let group = group_of a.device.now.registers.acceleration a.device.now.producer.position (events_of a.packet.now) in
    let count : c.record_count.result ≡ length group
    = c.record_count.ensures ∙ ap record_count told ∙ sym (group_count _ _ (events_of a.packet.now)) in
    c.check_room.ensures ∙ rw (count, c.write_place-write.ensures.0, c.write_place-write.ensures.1, c.requires.registers_value)

pub returns-then-not-has_form : goal.returns-then-not-has_form
returns-then-not-has_form c = λ slot.
    leaves (put_formless c.args.layout.geometry c.args.device.now c.args.area.now slot c.args.packet.now
    (rw c.requires.registers_value (sym (tells_form c.gesture_of-gesture.ensures _) ∙ sym c.if-not-has_form.ensures)) refl)

pub record_count-requires : goal.record_count-requires
record_count-requires c = rw (whole (goal.at.record_count-requires c).Else-not-has_form)
    (omega (arith, few_buttons (events_of c.args.packet.now), counted c.args.packet.now, c.requires.few))

pub returns-in-Err : goal.returns-in-Err
returns-in-Err c = λ slot.
    leaves (put_lost c.args.layout.geometry c.args.device.now c.args.area.now slot c.args.packet.now
    (formed (goal.at.returns-in-Err c).Else-not-has_form)
    (rw c.in-Err.is at (judged (goal.at.returns-in-Err c).After-check_room slot)) (never_done _) refl)

pub put_group-next-requires-clause-gesture_value : goal.put_group-next-requires-clause-gesture_value
put_group-next-requires-clause-gesture_value c =
    (whole (goal.at.put_group-next-requires-clause-gesture_value c).Else-not-has_form, form_position _ _ (sym c.if-not-has_form.ensures))

pub position_after-device-requires : goal.position_after-device-requires
position_after-device-requires c = form_position _ _ (sym c.if-not-has_form.ensures)

pub returns : goal.returns
returns c = λ slot.
    let write = c.write_place-write.ensures in
    rw (c.requires.registers_value, ← whole (goal.at.returns c).Else-not-has_form, ← c.position_after-device.ensures) at
    (leaves {after = c.put_group-next.new.area}
    (put-accepted c.args.layout.geometry c.args.device.now c.args.area.now slot c.args.packet.now
    (formed (goal.at.returns c).Else-not-has_form) (rw c.in_default.is at (judged (goal.at.returns c).After-check_room slot))
    c.put_group-next.result.index refl
    (rw c.requires.registers_value (rw (write.0, write.1) at c.put_group-next.ensures.put)) refl))
