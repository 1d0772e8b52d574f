-- Refused, or what the five changes leave together (removed); an accepted remove is known by its table.
use mathlib.Core.Path.{refl, sym}
use Rattle.std.proofs.lemmas.Result.{err_from_is_err_and}
use Rattle.answers.proofs.Laws.{never_done}
use Rattle.hotplug.proofs.Laws.Accepted.{RemoveAccepted, remove_accepted}
use Rattle.hotplug.proofs.Laws.Result.{remove_refused, removed, leaves}
use Rattle.hotplug.proofs.remove.remove.Goals as goal
use Rattle.hotplug.proofs.remove.remove.Goals.{In_ok-taken}

-- what is known of a slot that was handed back
known : (c : In_ok-taken) → RemoveAccepted c.args.geometry c.args.device.now c.args.area.now c.args.page.now c.args.slot
known c = remove_accepted c.args.geometry c.args.device.now c.args.area.now c.args.page.now c.args.slot (sym c.in_ok-taken.ensures.tested)

pub returns-in_err-taken : goal.returns-in_err-taken
returns-in_err-taken c =
    let p = err_from_is_err_and c.from_residual.result c.from_residual.ensures.1 in
    rw (p.1, p.2) (leaves (remove_refused c.args.geometry c.args.device.now c.args.area.now c.args.page.now c.args.slot
    (never_done _) refl c.in_err-taken.ensures.tested))

pub clear_entry-requires : goal.clear_entry-requires
clear_entry-requires c = let k = known (goal.at.clear_entry-requires c).In_ok-taken in k.shared.known.is_page_length

pub write_place-write-requires : goal.write_place-write-requires
write_place-write-requires c = let k = known (goal.at.write_place-write-requires c).In_ok-taken in
    rw c.in_ok-taken.ensures.same.0 k.shared.known.keeps.write_inside

pub put_if-next-requires : goal.put_if-next-requires
put_if-next-requires c = let k = known (goal.at.put_if-next-requires c).In_ok-taken in
    rw (c.write_place-write.ensures.0, c.in_ok-taken.ensures.same.0) k.shared.known.holds

pub clear-device-requires : goal.clear-device-requires
clear-device-requires c = let k = known (goal.at.clear-device-requires c).In_ok-taken in (k.shared.is_bit, k.taken)

pub returns : goal.returns
returns c =
    let same = c.in_ok-taken.ensures.same in
    let write = c.write_place-write.ensures in
    leaves (removed c.args.geometry c.args.device.now c.args.area.now c.args.page.now c.args.slot (sym c.in_ok-taken.ensures.tested)
    (rw (write.0, write.1, same.0, c.dev_record.ensures, c.tells-told.ensures) at c.put_if-next.ensures.put)
    (rw (same.0, same.1) at c.clear_entry.ensures) c.clear-device.ensures c.current_without-device.ensures refl)
