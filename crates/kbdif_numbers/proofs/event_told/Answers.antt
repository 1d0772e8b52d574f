-- Bytes that are refused are malformed (refused_back); what others are is told by found_as.
use Rattle.std.proofs.Common.{refl, sym, ◌∙◌}
use Rattle.kbdif_decode.proofs.Laws.Form.{refused_back}
use Rattle.kbdif_numbers.specs.Found.{found_as}
use Rattle.kbdif_numbers.proofs.event_told.Goals as goal

pub returns-in-Err : goal.returns-in-Err
unfolding found_as
returns-in-Err c = λ form is.
    let back = refused_back form c.in-Err.refusal (sym c.in-Err.is ∙ is) in
    rw (back.1, back.0) refl
