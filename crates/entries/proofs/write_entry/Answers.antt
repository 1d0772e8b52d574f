-- The stretch lent is the slot's own, which lies in the page since the slot is in range; a copy over all of it is the entry.
use native.Mathlib.Omega.{arith}
use Rattle.geometry.proofs.Laws.Allowed.{sizes}
use Rattle.geometry.proofs.Laws.Slots.{entry_inside}
use Rattle.entries.proofs.Laws.Store.{entry_stored}
use Rattle.entries.proofs.write_entry.Goals as goal

pub returns : goal.returns
returns c = let geometry = c.args.slot.layout.geometry in
    entry_stored geometry c.args.page.now c.args.slot.number c.entry_place-start.ensures
    (omega (
      arith,
      c.entry_place-start.ensures,
      entry_inside geometry (sizes geometry c.args.slot.layout.is_allowed) c.args.slot.number c.args.slot.in_range,
      c.requires.0,
    ))
    c.args.entry.now c.requires.1 c.copy.ensures
