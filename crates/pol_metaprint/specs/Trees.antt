-- The trees of a program, as contracts see them.
use Rattle.std.specs.Prelude.{List, map, reverse}
use Rattle.serde_json.specs.View.{view}
use Rattle.pol_metaprint.specs.Columns as spec
use Rattle.pol_metaprint.specs.declared.columns.Tree.{Tree}

abbrev pub tree_of : Tree → spec.Tree
tree_of tree = record { column = tree.column.now; json = view tree.json }

abbrev pub shown : List Tree → List spec.Tree
shown trees = map tree_of trees

-- those that stand in a list whose last one comes first
abbrev pub trees_shown : List Tree → List spec.Tree
trees_shown trees = reverse (shown trees)
