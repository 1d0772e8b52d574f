-- A taken slot of a state that keeps the rules is in range.
use mathlib.Core.Path.{sym}
use Rattle.device.proofs.Laws.Rules.{taken_slot}
use Rattle.device.proofs.Laws.Call.{call}
use Rattle.packets.proofs.offer.offered.Goals as goal

pub invariant_of-taken : goal.invariant_of-taken
invariant_of-taken c =
    let found = c.in_ok-layout.ensures.ok_part in
    let same = rw found at c.valid_call.ensures.same in
    let known = call c.args.geometry c.args.device.now _ _ (sym (rw found at c.valid_call.ensures.tested)) in
    record { in_range = rw same (taken_slot known.keeps c.args.slot (sym c.if-not-is_taken.ensures)) }
