-- The slot is in range, so its known bytes lie in the page.
use native.Mathlib.Omega.{arith}
use Rattle.entries.proofs.Laws.Lookup.{known_inside}
use Rattle.entries.proofs.known_bytes.Goals as goal

pub slice_bounds-as_array-end : goal.slice_bounds-as_array-end
slice_bounds-as_array-end c = omega (
  arith,
  c.entry_place-start.ensures,
  known_inside c.args.slot.layout.geometry c.args.slot.number c.args.slot.layout.is_allowed c.args.slot.in_range,
  c.requires,
)
