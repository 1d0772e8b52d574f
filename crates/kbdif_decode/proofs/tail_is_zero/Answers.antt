-- Each eight bytes are one conjunct of the stretch.
use Rattle.std.proofs.Common.{arith}
use Rattle.std.proofs.lemmas.Grind.{common_steps}
use Rattle.std.proofs.lemmas.Bool.Decides.{nat_tests}
use Rattle.kbdif_decode.proofs.Laws.Reserved.{tail}
use Rattle.kbdif_decode.proofs.tail_is_zero.Goals as goal

pub returns-then-eight_at-eq0-2 : goal.returns-then-eight_at-eq0-2
returns-then-eight_at-eq0-2 c =
    let parts = tail c.args.bytes.now (omega arith) in
    grind (arith, common_steps, nat_tests, parts)

pub returns-else-eight_at-eq0-2 : goal.returns-else-eight_at-eq0-2
returns-else-eight_at-eq0-2 c =
    let parts = tail c.args.bytes.now (omega arith) in
    grind (arith, common_steps, nat_tests, parts)
