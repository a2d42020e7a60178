use Rattle.pol_metaprint.proofs.TreesLemmas.{trees_done}
use Rattle.pol_metaprint.proofs.columns.trees.Goals as goal

pub returns : goal.returns
returns c =
    let so = c.loop-column.invariant in
    trees_done c.args.columns.now c.loop-column.left.now so.0 c.loop-column.trees.items c.reverse.new.self.items c.in_default.ensures.cases so.1 so.2 c.reverse.ensures.items
