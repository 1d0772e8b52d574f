-- The loop's invariant: the text still to be read, behind the number read so far, says what the whole text says.
use Rattle.decimals.specs.Numbers.{read_rest, read_number}
use lib.ListN.{drop}
use mathlib.Core.Path.{◌≡◌}
use Rattle.decimals.proofs.read_number.Given as goal

abbrev pub invariant-loop-place : goal.invariant-loop-place
invariant-loop-place l = read_rest l.place l.value (drop l.place l.text) ≡ read_number l.text
