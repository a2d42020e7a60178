use Rattle.std.proofs.Common.{◌≡◌, ◌++◌, vec_len}
use Rattle.pol_metaprint.specs.Columns.{beside_of, inner_of}
use Rattle.pol_metaprint.specs.Trees.{shown, trees_shown}
use Rattle.pol_metaprint.proofs.columns.take_inner.Given as goal

abbrev pub invariant-loop-trees : goal.invariant-loop-trees
invariant-loop-trees l =
    (inner_of l.depth (trees_shown l.initial.trees.items) ≡ shown l.inner.items ++ inner_of l.depth (trees_shown l.trees.items))
    × (beside_of l.depth (trees_shown l.initial.trees.items) ≡ beside_of l.depth (trees_shown l.trees.items))

abbrev pub decreases-loop-trees : goal.decreases-loop-trees
decreases-loop-trees l = vec_len l.trees
