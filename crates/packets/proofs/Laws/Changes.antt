-- A packet changes ISR and the device's end of the ring alone, whatever its answer: with these set, the state before is the state after.
use Prim.Native.Nat.{ℕ}
use mathlib.Core.Path.{◌≡◌, refl}
use mathlib.Core.Bool.{◌||◌}
use mathlib.Core.List.{List}
use lib.Dec.{eqb}
use Rattle.answers.proofs.Choice.{either}
use Rattle.geometry.specs.declared.Geometry.{Geometry}
use Rattle.device.specs.declared.Device.{Device}
use Rattle.device.specs.Setters.{with_isr, with_producer}
use Rattle.device.specs.Result.{Result}
use Rattle.packets.specs.Rule.{packet_answer, packet_of}

abbrev pub with_changes : Device → Device → Device
with_changes after before = with_producer after.producer (with_isr after.registers.isr before)

pub packet_changes : (geometry : Geometry) (device : Device) (area page : List ℕ) (slot : ℕ) (packet : List ℕ)
    → let after = (packet_of geometry device area page slot packet).outcome.device in with_changes after device ≡ after
unfolding packet_of
packet_changes geometry device area page slot packet =
    let answer : ℕ = packet_answer geometry device area page slot packet in
    either (λ (r : Result). with_changes r.outcome.device device ≡ r.outcome.device) (eqb answer 0) (λ done. refl)
    (λ refused.
    either (λ (after : Device). with_changes after device ≡ after) (eqb answer 10 || eqb answer 7) (λ lost. refl) (λ other. refl))
