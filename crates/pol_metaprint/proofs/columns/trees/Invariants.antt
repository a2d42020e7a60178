use Rattle.std.proofs.Common.{◌≡◌, ◌++◌, List, length}
use Rattle.pol_meta.specs.declared.column.Column.{Column}
use Rattle.pol_metaprint.specs.Columns.{trees_of}
use Rattle.pol_metaprint.specs.Trees.{trees_shown}
use Rattle.pol_metaprint.proofs.columns.trees.Given as goal

abbrev pub invariant-loop-column : goal.invariant-loop-column
invariant-loop-column l =
    (rest : List Column) × (l.columns ≡ l.left ++ rest) × (trees_shown l.trees.items ≡ trees_of rest)

abbrev pub decreases-loop-column : goal.decreases-loop-column
decreases-loop-column l = length l.left
