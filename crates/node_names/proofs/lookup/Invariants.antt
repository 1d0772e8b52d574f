-- The loop's invariant: the rest of the table has for the name what the whole table has.
use Rattle.std.proofs.Common.{◌≡◌, drop}
use Rattle.node_names.specs.Names.{rows, lookup}
use Rattle.node_names.specs.declared.Node.TheVariants.{Other}
use Rattle.node_names.proofs.lookup.Given as goal

abbrev pub invariant-loop-known : goal.invariant-loop-known
invariant-loop-known l = lookup l.name (rows (drop l.known-index l.table)) Other ≡ lookup l.name (rows l.table) Other
