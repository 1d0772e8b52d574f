-- The kit's law of leading zeros gives a length with both its bounds, and that length is 64 less the zeros.
use Prim.Native.Nat.{◌-◌}
use mathlib.Core.Path.{◌≡◌}
use native.Mathlib.Omega.{arith}
use lib.Count.{count_leading_zeros, leading_length}
use Rattle.bits.proofs.length.Goals as goal

pub returns : goal.returns
returns c = let found = leading_length 64 c.args.mask (omega arith) in
    let same : 64 - count_leading_zeros 64 c.args.mask ≡ found.0 = omega (arith, found.1) in
    rw same (record { holds = found.2; least = found.3 })
