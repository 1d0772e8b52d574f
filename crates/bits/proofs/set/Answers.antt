-- Adding a power whose bit was clear carries nothing further, so a mask below 2^64 stays below it.
use native.Mathlib.Omega.{arith}
use Rattle.bits.proofs.Laws.{set_below}
use Rattle.bits.proofs.set.Goals as goal

pub overflow_add-result : goal.overflow_add-result
overflow_add-result c = rw c.power.ensures (record { fits = set_below _ _ 64 (omega arith) c.requires.0 c.requires.1 })
