-- An accepted packet keeps the state's rules: its records end within the ring, and the current slot stays or is the packet's, which is
-- taken.
use Prim.Native.Nat.{ℕ, ◌<◌}
use mathlib.Core.Path.{◌≡◌}
use mathlib.Core.Bool.{true, ◌||◌}
use mathlib.Core.List.{List}
use lib.Dec.{eqb}
use borrow.Author.Tests.{eqb-true}
use Rattle.answers.proofs.Choice.{either}
use Rattle.geometry.specs.declared.Geometry.{Geometry}
use Rattle.geometry.specs.Geometry.{ring_length, ring_of}
use Rattle.records.specs.declared.Event.{Event}
use Rattle.records.specs.Packet.{events_of}
use Rattle.records.proofs.Laws.PutAll.{after_inside}
use Rattle.device.specs.declared.Device.{Device}
use Rattle.device.specs.declared.Revision.{Revision}
use Rattle.device.specs.declared.Revision.TheVariants.{One, Two}
use Rattle.device.specs.Revision.{revision_of}
use Rattle.device.specs.State.{is_taken, current_rule}
use Rattle.device.proofs.Laws.Rules.{Rules, rules_isr, rules_lost, rules_position, rules_write_index, rules_current, taken_current}
use Rattle.device.specs.Result.{Result}
use Rattle.packets.specs.Revision.{current_after}
use Rattle.packets.specs.Rule.{packet_records, packet_answer, after_packet, packet_of}
use Rattle.packets.proofs.Laws.Rule.{accepted}

current_after_lem : (revision : Revision) (taken current slot : ℕ) → current_rule taken current ≡ true → is_taken taken slot ≡ true
    → current_rule taken (current_after revision current slot) ≡ true
current_after_lem One taken current slot rule set = rule
current_after_lem Two taken current slot rule set = taken_current taken slot set

pub packet_keeps : {geometry : Geometry} {device : Device} → Rules geometry device → (slot : ℕ) (events : List Event) (index : ℕ)
    → index < ring_length geometry → is_taken device.taken slot ≡ true → Rules geometry (after_packet slot events index device)
packet_keeps {device = device} keeps slot events index low taken =
    let current = device.producer.current_slot in
    rules_lost
    (rules_current (rules_position (rules_write_index (rules_isr keeps _) index low) _) _
    (current_after_lem (revision_of device.registers) device.taken current slot keeps.current taken))
    _

-- any packet, refused or not
pub packet_call_keeps : (geometry : Geometry) (device : Device) (area page : List ℕ) (slot : ℕ) (packet : List ℕ) → Rules geometry device
    → Rules geometry (packet_of geometry device area page slot packet).outcome.device
unfolding packet_of
packet_call_keeps geometry device area page slot packet keeps =
    let answer : ℕ = packet_answer geometry device area page slot packet in
    either (λ (r : Result). Rules geometry r.outcome.device) (eqb answer 0)
    (λ done.
    packet_keeps keeps slot (events_of packet) _ (after_inside (ring_of geometry) _ (packet_records device slot packet) keeps.write_inside)
    (accepted geometry device area page slot packet (eqb-true answer 0 done)).shared.is_taken_lem)
    (λ refused. either (Rules geometry) (eqb answer 10 || eqb answer 7) (λ lost. rules_lost keeps true) (λ other. keeps))
