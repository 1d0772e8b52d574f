-- The loop's invariant: the rest of the table has for the name what the whole table has.
use mathlib.Core.Path.{sym, ◌∙◌}
use Rattle.node_names.proofs.Laws.Table.{found, looking_goes_on, not_found}
use Rattle.node_names.proofs.lookup.Goals as goal

pub returns-then-eq : goal.returns-then-eq
returns-then-eq c =
    found c.args.name.now c.args.table.now c.loop-known.known-index _ c.loop-known.invariant _ c.loop-known-test.true
    (sym c.eq.ensures ∙ c.if-eq.true)

pub loop-known-preserved : goal.loop-known-preserved
loop-known-preserved c =
    looking_goes_on c.args.name.now c.args.table.now c.loop-known.known-index _ c.loop-known.invariant _ c.loop-known-test.true
    (sym c.eq.ensures ∙ c.if-eq.false)

pub returns : goal.returns
returns c =
    not_found c.args.name.now c.args.table.now c.loop-known.known-index _ c.loop-known.invariant
    c.loop-known-test.false
