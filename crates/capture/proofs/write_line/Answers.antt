-- The word, then the number with its newline: the second text begins where the first ends, so both are one text.
use native.Mathlib.Omega.{arith}
use Rattle.text.proofs.Laws.Written.{adds_next}
use Rattle.capture.specs.Listing.{number_line}
use Rattle.capture.proofs.write_line.Goals as goal

pub returns : goal.returns
unfolding number_line
returns c = adds_next c.write_text.ensures (omega (arith, c.requires)) c.write_number.ensures
