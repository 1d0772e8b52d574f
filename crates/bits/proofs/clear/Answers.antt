-- A bit that is set weighs no more than the whole mask, so the subtraction doesn't go below zero.
use native.Mathlib.Omega.{arith}
use Rattle.bits.proofs.Laws.{clear_fits}
use Rattle.bits.proofs.clear.Goals as goal

pub overflow_sub-result : goal.overflow_sub-result
overflow_sub-result c = omega (arith, c.power.ensures, clear_fits _ _ c.requires.1)
