-- As many zeros as the slot's own stretch has bytes: it lies in the page since the slot is in range.
use native.Mathlib.Omega.{arith}
use Rattle.geometry.proofs.Laws.Allowed.{sizes}
use Rattle.geometry.proofs.Laws.Slots.{entry_inside}
use Rattle.entries.proofs.Laws.Store.{entry_cleared}
use Rattle.entries.proofs.clear_entry.Goals as goal

pub returns : goal.returns
returns c = let geometry = c.args.slot.layout.geometry in
    entry_cleared geometry c.args.page.now c.args.slot.number c.entry_place-start.ensures
    (omega (
      arith,
      c.entry_place-start.ensures,
      entry_inside geometry (sizes geometry c.args.slot.layout.is_allowed) c.args.slot.number c.args.slot.in_range,
      c.requires,
    ))
    c.clear.ensures
