-- What is stored is all that a packet changes (packet_changes).
use mathlib.Core.Path.{ap, ◌∙◌}
use Rattle.device.specs.declared.Device.{Device}
use Rattle.packets.proofs.Laws.Changes.{with_changes, packet_changes}
use Rattle.device_calls.proofs.thayarqo_put_packet.Goals as goal

pub returns : goal.returns
returns c =
    let a = c.args in
    let put = c.packet_rule-out.ensures in (
      c.answer_of.ensures ∙ put.0,
      ap (λ (after : Device). with_changes after a.device.now) put.1
          ∙ packet_changes a.geometry a.device.now a.area.now a.page.now a.slot a.packet.now,
      put.2,
    )
