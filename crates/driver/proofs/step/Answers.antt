-- A law for each way out: invalid, nothing to read, received. The tests are those of the definition, in its order.
use mathlib.Core.Path.{◌≡◌, sym, ◌∙◌}
use mathlib.Core.Bool.{true}
use lib.ListN.{length}
use Rattle.std.proofs.Common.{Err}
use Rattle.std.proofs.lemmas.Result.{err_from_is_err_and}
use Rattle.answers.specs.declared.Refusal.TheVariants.{Invalid}
use Rattle.geometry.specs.Geometry.{ring_of}
use Rattle.driver.specs.Step.{is_valid_step}
use Rattle.driver.proofs.Laws.Answer.{answered}
use Rattle.driver.proofs.Laws.Step.{wrong_area, wrong_packet, wrong_driver, all_valid, step_invalid, step_refused, step_received, told_with}
use Rattle.driver.proofs.step.Goals as goal
use Rattle.driver.proofs.step.Goals.{After-ring}

is_valid : (c : After-ring) → is_valid_step c.args.geometry c.args.driver.now (length c.args.area.now) (length c.args.packet.now) ≡ true
is_valid c =
    all_valid c.args.geometry c.args.driver.now _ _ (sym c.in_ok-layout.ensures.tested) c.in-Some.ensures.cases.long
    (sym (rw c.in_ok-layout.ensures.same at c.is_driver.ensures) ∙ c.if-not-is_driver.false)

ring_is : (c : After-ring) → c.ring.result ≡ ring_of c.args.geometry
ring_is c = rw c.in_ok-layout.ensures.same at c.ring.ensures

pub returns-in_err-layout : goal.returns-in_err-layout
returns-in_err-layout c =
    let p = err_from_is_err_and c.from_residual.result c.from_residual.ensures.1 in
    rw (p.1, p.2, c.in_err-layout.ensures.refused)
    (answered c.args.geometry c.args.driver.now c.args.area.now c.args.packet.now (Err Invalid)
    (step_invalid c.args.geometry c.args.driver.now c.args.area.now c.args.packet.now
    (wrong_area c.args.geometry c.args.driver.now _ _ (sym c.in_err-layout.ensures.tested))))

pub returns-in_default : goal.returns-in_default
returns-in_default c =
    answered c.args.geometry c.args.driver.now c.args.area.now c.args.packet.now (Err Invalid)
    (step_invalid c.args.geometry c.args.driver.now c.args.area.now c.args.packet.now
    (wrong_packet c.args.geometry c.args.driver.now _ _ (sym c.in_ok-layout.ensures.tested) c.in_default.ensures.cases))

pub returns-then-not-is_driver : goal.returns-then-not-is_driver
returns-then-not-is_driver c =
    rw c.in-Some.ensures.cases.same
    (answered c.args.geometry c.args.driver.now c.args.area.now c.args.packet.now (Err Invalid)
    (step_invalid c.args.geometry c.args.driver.now c.args.area.now c.args.packet.now
    (wrong_driver c.args.geometry c.args.driver.now _ _ (sym c.in_ok-layout.ensures.tested) c.in-Some.ensures.cases.long
    (sym (rw c.in_ok-layout.ensures.same at c.is_driver.ensures) ∙ c.if-not-is_driver.true))))

pub returns-in_default-taken : goal.returns-in_default-taken
returns-in_default-taken c =
    let at = (goal.at.returns-in_default-taken c).After-ring in
    let facts = rw c.unwrap_err.ensures at c.take_oldest-taken.ensures.refused in
    rw (facts.1, c.in-Some.ensures.cases.same)
    (answered c.args.geometry c.args.driver.now c.args.area.now c.args.packet.now (Err c.unwrap_err.result)
    (step_refused c.args.geometry c.args.driver.now c.args.area.now c.args.packet.now (is_valid at)
    (rw (ring_is at) at facts.0)))

pub returns : goal.returns
returns c =
    let at = (goal.at.returns c).After-ring in
    answered c.args.geometry c.args.driver.now c.args.area.now c.args.packet.now c.receive.result
    (step_received c.args.geometry c.args.driver.now c.args.area.now c.args.packet.now (is_valid at)
    (rw (ring_is at) at c.in-Ok.ensures.taken.0)
    (told_with (rw c.in_ok-layout.ensures.same at c.receive.ensures.0)
    (rw c.in_ok-layout.ensures.same at c.receive.ensures.1))
    (rw (ring_is at) at c.in-Ok.ensures.taken.1)
    (rw (c.in_ok-layout.ensures.same, c.in-Some.ensures.cases.same) at c.receive.ensures.2))
