-- A mask below 2^64 has no bit from 64 on.
use mathlib.Core.Path.{◌≡◌, sym, ◌∙◌}
use mathlib.Core.Bool.{false}
use native.Mathlib.Omega.{arith}
use Rattle.std.specs.Prelude.{nat_lt}
use Rattle.std.proofs.Common.{rules}
use Rattle.bits.proofs.Laws.{bit_above}
use Rattle.bits.proofs.is_set.Goals as goal

pub returns-else-index-lt64 : goal.returns-else-index-lt64
returns-else-index-lt64 c = let past : nat_lt c.args.index 64 ≡ false = search rules in
    past ∙ sym (bit_above c.args.mask 64 _ (omega arith) c.if-index-lt64.false)
