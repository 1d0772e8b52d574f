-- The output's length is tested here and the rest by lookup, which hands back the entry's bytes or says why it doesn't.
use mathlib.Core.Path.{sym}
use Rattle.std.proofs.lemmas.Result.{err_from_is_err_and}
use Rattle.driver_calls.proofs.Laws.Entry.{wrong_length, found, refused}
use Rattle.driver_calls.proofs.lookup.Goals as goal

pub returns-in_default : goal.returns-in_default
returns-in_default c = wrong_length _ _ _ _ c.in_default.ensures.cases

pub returns : goal.returns
returns c = found _ _ _ _ c.in-Some.ensures.cases.long (sym c.in_ok-entry.ensures.answer) c.in_ok-entry.ensures.part

pub returns-in_err-entry : goal.returns-in_err-entry
returns-in_err-entry c =
    let p = err_from_is_err_and c.from_residual.result c.from_residual.ensures.1 in
    rw (p.1, p.2, c.in-Some.ensures.cases.same)
    (refused _ _ _ _ c.in-Some.ensures.cases.long c.in_err-entry.field-0.0 c.in_err-entry.ensures.answer)
