-- Refused, or what the four changes leave together (added); an accepted add is known by its table.
use mathlib.Core.Path.{refl, sym}
use Rattle.std.proofs.lemmas.Result.{err_from_is_err_and}
use Rattle.answers.proofs.Laws.{never_done}
use Rattle.hotplug.proofs.Laws.Accepted.{AddAccepted, add_accepted}
use Rattle.hotplug.proofs.Laws.Result.{add_refused, added, leaves}
use Rattle.hotplug.proofs.add.add.Goals as goal
use Rattle.hotplug.proofs.add.add.Goals.{In_ok-free}

-- what is known of a slot that was handed back
known : (c : In_ok-free) → AddAccepted c.args.geometry c.args.device.now c.args.area.now c.args.page.now c.args.slot c.args.entry.now
known c = add_accepted c.args.geometry c.args.device.now c.args.area.now c.args.page.now c.args.slot c.args.entry.now
    (sym c.in_ok-free.ensures.tested)

pub returns-in_err-free : goal.returns-in_err-free
returns-in_err-free c =
    let p = err_from_is_err_and c.from_residual.result c.from_residual.ensures.1 in
    rw (p.1, p.2) (leaves (add_refused c.args.geometry c.args.device.now c.args.area.now c.args.page.now c.args.slot
    (never_done _) refl c.args.entry.now c.in_err-free.ensures.tested))

pub write_entry-requires : goal.write_entry-requires
write_entry-requires c = let k = known (goal.at.write_entry-requires c).In_ok-free in
    (k.shared.known.is_page_length, rw c.in_ok-free.ensures.same.0 k.entry_size)

pub write_place-write-requires : goal.write_place-write-requires
write_place-write-requires c = let k = known (goal.at.write_place-write-requires c).In_ok-free in
    rw c.in_ok-free.ensures.same.0 k.shared.known.keeps.write_inside

pub put_if-next-requires : goal.put_if-next-requires
put_if-next-requires c = let k = known (goal.at.put_if-next-requires c).In_ok-free in
    rw (c.write_place-write.ensures.0, c.in_ok-free.ensures.same.0) k.shared.known.holds

pub set-device-requires : goal.set-device-requires
set-device-requires c = let k = known (goal.at.set-device-requires c).In_ok-free in (k.shared.is_bit, k.free)

pub returns : goal.returns
returns c =
    let same = c.in_ok-free.ensures.same in
    let write = c.write_place-write.ensures in
    leaves (added c.args.geometry c.args.device.now c.args.area.now c.args.page.now c.args.slot c.args.entry.now
    (sym c.in_ok-free.ensures.tested)
    (rw (write.0, write.1, same.0, c.dev_record.ensures, c.tells-told.ensures) at c.put_if-next.ensures.put)
    (rw (same.0, same.1) at c.write_entry.ensures) c.set-device.ensures refl)
