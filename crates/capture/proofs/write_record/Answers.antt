-- Three numbers of at most ten digits with a byte behind each are 33 bytes; after each number that much less room is left.
use native.Mathlib.Omega.{arith}
use Rattle.capture.proofs.Laws.Lines.{number-length, record_added}
use Rattle.capture.proofs.write_record.Goals as goal

pub write_number-requires-2 : goal.write_number-requires-2
write_number-requires-2 c =
    omega (arith, c.write_number.ensures.size, number-length _ 32 c.write_number.ensures.written, c.requires)

pub write_number-requires-3 : goal.write_number-requires-3
write_number-requires-3 c = omega (
  arith,
  c.write_number.ensures.size,
  c.write_number-2.ensures.size,
  number-length _ 32 c.write_number.ensures.written,
  number-length _ 32 c.write_number-2.ensures.written,
  c.requires,
)

pub returns : goal.returns
returns c = record_added c.args.event c.requires c.write_number.ensures c.write_number-2.ensures c.write_number-3.ensures
