-- An allowed entry size is at least 68, so it is no division by zero.
use native.Mathlib.Omega.{arith}
use Rattle.geometry.proofs.Laws.Allowed.{sizes}
use Rattle.geometry.proofs.layout.Layout.slot_count.Goals as goal

pub nonzero_div-result : goal.nonzero_div-result
nonzero_div-result c = omega (arith, sizes _ c.args.self.is_allowed)
