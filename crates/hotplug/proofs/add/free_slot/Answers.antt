-- An entry of the right size is long enough for its first mask.
use native.Mathlib.Omega.{arith}
use Rattle.geometry.proofs.Laws.Allowed.{sizes}
use Rattle.hotplug.proofs.add.free_slot.Goals as goal

pub is_present-requires : goal.is_present-requires
is_present-requires c = omega (arith, c.if-entry-layout.false, (sizes _ c.in_ok-layout.layout.is_allowed).entry_low)
