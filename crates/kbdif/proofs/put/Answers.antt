-- A refusal leaves all as it was; past it the event is filled in, and then the index.
use Rattle.std.proofs.Common.{arith, sym, ap, ◌∙◌}
use Rattle.std.proofs.lemmas.Result.{err_from_is_err_and}
use Rattle.kbdif.specs.Put.{Stored}
use Rattle.kbdif.proofs.Laws.Put.{accepted, refused, put-done, number_not_done}
use Rattle.kbdif.proofs.put.Goals as goal

pub returns-in_err-event : goal.returns-in_err-event
returns-in_err-event c =
    let p = err_from_is_err_and c.from_residual.result c.from_residual.ensures.1 in
    let refusal = c.in_err-event.field-0.0 in
    let told = c.in_err-event.ensures.answer in
    let same = refused c.args.page.now c.args.in_prod.now c.args.contact_limit c.args.event.now told (number_not_done refusal) in
    rw (p.1, p.2) (ap (λ (stored : Stored). stored.answer) same.0, ap (λ (stored : Stored). stored.in_prod) same.0, same.1)

pub slice_bounds-store-end : goal.slice_bounds-store-end
slice_bounds-store-end c =
    let fine = accepted _ _ _ _ (sym c.in_ok-event.ensures.answer) in
    omega (arith, c.event_place-at.ensures, fine)

pub returns : goal.returns
returns c =
    let done = put-done c.args.page.now c.args.in_prod.now c.args.contact_limit c.args.event.now
    (sym c.in_ok-event.ensures.answer)
    c.event_place-at.ensures.0
    (c.store.ensures ∙ c.in_ok-event.ensures.same)
    c.next_index.ensures
    c.write_u32.ensures in
    (ap (λ (stored : Stored). stored.answer) done.0, ap (λ (stored : Stored). stored.in_prod) done.0, done.1)
