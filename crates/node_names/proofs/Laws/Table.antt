-- A loop that looks a name up in a table, row by row.
use Prim.Native.Nat.{ℕ, suc, ◌+◌, ◌≤◌, ◌<◌}
use mathlib.Core.Path.{◌≡◌, sym, ◌∙◌}
use mathlib.Core.Bool.{true, false, cond}
use mathlib.Core.List.{List}
use native.Mathlib.Numerals.{add-one}
use lib.ListN.{length, get_or, drop, drop_of_length-le}
use lib.Pointwise.{pointwise}
use lib.Seq.{drop-cons}
use Rattle.std.specs.Prelude.{nat_eq}
use Rattle.std.specs.Borrow.{Bor}
use Rattle.node_names.specs.declared.Node.{Node}
use Rattle.node_names.specs.declared.Node.TheVariants.{Other}
use Rattle.node_names.specs.Names.{same_bytes, rows, lookup}
use Rattle.node_names.proofs.Laws.Same.{compared}

module _ (name : List ℕ) (table : List (Bor (List ℕ) × Node)) (i : ℕ) (whole : Node)
    (looking : lookup name (rows (drop i table)) Other ≡ whole) where
  pub not_found : length table ≤ i → Other ≡ whole
  unfolding lookup
  not_found h = rw (drop_of_length-le table {i = i} h) at looking

  module _ (none : Bor (List ℕ) × Node) (inside : i < length table) where
    row_decides : cond (same_bytes name (get_or table i none).0.now) (get_or table i none).1
        (lookup name (rows (drop (suc i) table)) Other)
        ≡ whole
    unfolding lookup
    row_decides = rw (drop-cons table i none inside) at looking

    pub found : pointwise nat_eq name (get_or table i none).0.now ≡ true → (get_or table i none).1 ≡ whole
    found same = rw (sym (compared name (get_or table i none).0.now) ∙ same) at row_decides

    pub looking_goes_on : pointwise nat_eq name (get_or table i none).0.now ≡ false
        → lookup name (rows (drop (i + 1) table)) Other ≡ whole
    looking_goes_on other = rw add-one (rw (sym (compared name (get_or table i none).0.now) ∙ other) at row_decides)
