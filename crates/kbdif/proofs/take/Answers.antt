-- A refusal leaves all as it was; past it an event waits, and what is read of its place is read before the index is written.
use Rattle.std.proofs.Common.{arith, refl, sym, ◌∙◌}
use Rattle.std.proofs.lemmas.Result.{err_from_is_err_and}
use Rattle.kbdif.proofs.Laws.Put.{number_not_done}
use Rattle.kbdif.proofs.Laws.Take.{waits, refusal_told, event_told, outcome_number}
use Rattle.kbdif.proofs.take.Goals as goal

pub returns-in_err-limit : goal.returns-in_err-limit
returns-in_err-limit c =
    let p = err_from_is_err_and c.from_residual.result c.from_residual.ensures.1 in
    let refused = refusal_told c.args.page.now c.args.in_cons.now c.args.contact_limit c.in_err-limit.ensures.answer in
    rw (p.1, p.2) (refused (number_not_done c.in_err-limit.field-0.0) refl)

pub event_at-event-requires : goal.event_at-event-requires
event_at-event-requires c = (waits _ _ _ (sym c.in_ok-limit.ensures.answer)).is_page_length

pub write_u32-requires : goal.write_u32-requires
write_u32-requires c =
    let size = (waits _ _ _ (sym c.in_ok-limit.ensures.answer)).is_page_length in
    omega arith

pub returns : goal.returns
returns c =
    let limit = c.in_ok-limit.ensures.same in
    let told = rw (c.event_at-event.ensures, limit) at c.decode-outcome.ensures in
    let all = event_told c.args.page.now c.args.in_cons.now c.args.contact_limit (sym c.in_ok-limit.ensures.answer) told
    c.next_index.ensures
    c.write_u32.ensures in
    (outcome_number c.decode-outcome.result ∙ all.0, all.1, all.2, all.3)
