-- A number has at most ten digits, so there is room for what follows it; two texts that meet are one.
use native.Mathlib.Omega.{arith}
use Rattle.text.proofs.Laws.Written.{adds_next}
use Rattle.text.proofs.Laws.Digits.{decimal-length}
use Rattle.capture.proofs.write_number.Goals as goal

pub write_text-requires : goal.write_text-requires
write_text-requires c = omega (arith, c.write_decimal.ensures.written.ends, c.write_decimal.ensures.size, decimal-length c.args.number)

pub returns : goal.returns
returns c = adds_next c.write_decimal.ensures (omega (arith, decimal-length c.args.number, c.requires)) c.write_text.ensures
