-- The code asks whether the indices are equal before it tests the second: a write index equal to one in range is in range itself.
use Prim.Native.Nat.{◌<◌}
use mathlib.Core.Path.{sym}
use native.Mathlib.Omega.{arith}
use Rattle.answers.specs.Refusals.{first_refusal}
use Rattle.reading.specs.Reading.{reading_refusal}
use borrow.Author.Tests.{eq-eqb, le-leb, lt-leb, ne_eqb, ltb-false, ltb-true}
use Rattle.reading.proofs.oldest_index.Goals as goal

pub returns-in_default-clause-answered : goal.returns-in_default-clause-answered
unfolding reading_refusal first_refusal
returns-in_default-clause-answered c = rw (le-leb _ _ (ltb-false _ _ (sym c.in_default.ensures.tested)))

pub returns-then-read-write-clause-answered : goal.returns-then-read-write-clause-answered
unfolding reading_refusal first_refusal
returns-then-read-write-clause-answered c =
    let low : c.args.read < c.args.ring.length = ltb-true _ _ (sym c.in-Some.ensures.tested) in
    let low_too : c.args.write < c.args.ring.length = omega arith in
    rw (lt-leb _ _ low, lt-leb _ _ low_too, eq-eqb _ _ c.if-read-write.true)

pub returns-then-write-ring-clause-answered : goal.returns-then-write-ring-clause-answered
unfolding reading_refusal first_refusal
returns-then-write-ring-clause-answered c =
    rw (lt-leb _ _ (ltb-true _ _ (sym c.in-Some.ensures.tested)), le-leb _ _ c.if-write-ring.true)

pub returns-clause-answered : goal.returns-clause-answered
unfolding reading_refusal first_refusal
returns-clause-answered c =
    rw (
      lt-leb _ _ (ltb-true _ _ (sym c.in-Some.ensures.tested)),
      lt-leb _ _ c.if-write-ring.false,
      ne_eqb _ _ c.if-read-write.false,
    )
