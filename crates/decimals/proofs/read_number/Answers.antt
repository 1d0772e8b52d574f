-- The loop's invariant: the text still to be read, behind the number read so far, says what the whole text says.
use Rattle.decimals.proofs.Laws.Reading.{empty_is_bad, reading_begins, reading_goes_on, reading_spoiled, reading_ends}
use Rattle.decimals.proofs.Laws.Answer.{answered}
use native.Mathlib.Omega.{arith}
use mathlib.Core.Path.{sym, ◌∙◌}
use Rattle.std.proofs.lemmas.Result.{err_from_is_err_and}
use Rattle.decimals.proofs.read_number.Goals as goal

pub loop-place-init : goal.loop-place-init
loop-place-init c = reading_begins c.args.text.now (λ e. grind arith)

pub returns-then-is_empty : goal.returns-then-is_empty
returns-then-is_empty c = answered c.args.text.now (sym (empty_is_bad c.args.text.now (grind arith)))

pub returns-in_err-value : goal.returns-in_err-value
returns-in_err-value c =
    let said = sym c.next_number.ensures ∙ c.in_err-value.was in
    let spoiled = reading_spoiled c.args.text.now c.loop-place.place c.loop-place.value _ c.loop-place.invariant (omega arith) said in
    let p = err_from_is_err_and c.from_residual.result c.from_residual.ensures.1 in
    answered c.args.text.now (rw (p.1, p.2) spoiled)

pub loop-place-preserved : goal.loop-place-preserved
loop-place-preserved c =
    let said = sym c.next_number.ensures ∙ c.in_ok-value.was in
    reading_goes_on c.args.text.now c.loop-place.place c.loop-place.value _ c.loop-place.invariant (omega arith) said

pub returns : goal.returns
returns c =
    answered c.args.text.now
    (reading_ends c.args.text.now c.loop-place.place c.loop-place.value _ c.loop-place.invariant (omega arith))
