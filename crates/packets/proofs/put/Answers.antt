-- Refused by the call, the packet or the entry (packet_refused); else put or refused by the revision's own function (packet_offered).
use mathlib.Core.Path.{refl, sym}
use Rattle.std.proofs.lemmas.Result.{err_from_is_err_and}
use Rattle.device.proofs.Laws.Result.{leaves}
use Rattle.answers.proofs.Laws.{never_done}
use Rattle.packets.proofs.Laws.Rule.{packet_refused, packet_offered}
use Rattle.packets.proofs.put.Goals as goal

pub returns-in_err-layout : goal.returns-in_err-layout
returns-in_err-layout c =
    let p = err_from_is_err_and c.from_residual.result c.from_residual.ensures.1 in
    rw (p.1, p.2) (leaves (packet_refused c.args.geometry c.args.device.now c.args.area.now c.args.page.now c.args.slot c.args.packet.now
    c.in_err-layout.ensures.tested (never_done _) refl))

pub returns-in-One : goal.returns-in-One
returns-in-One c = rw (packet_offered c.args.geometry c.args.device.now c.args.area.now c.args.page.now c.args.slot c.args.packet.now
    (sym c.in_ok-layout.ensures.tested))
    (rw c.in_ok-layout.ensures.same at (c.put_in_revision1.ensures c.args.slot))

pub returns-in-Two : goal.returns-in-Two
returns-in-Two c = rw (packet_offered c.args.geometry c.args.device.now c.args.area.now c.args.page.now c.args.slot c.args.packet.now
    (sym c.in_ok-layout.ensures.tested))
    (rw c.in_ok-layout.ensures.same at c.put_in_revision2.ensures)
