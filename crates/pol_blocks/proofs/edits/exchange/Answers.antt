use Rattle.std.proofs.Common.{ap, set}
use Rattle.std.specs.Vec.{with_item}
use Rattle.pol_blocks.proofs.Replaced.{exchanged}
use Rattle.pol_blocks.proofs.edits.exchange.Goals as goal

pub returns-clause-put : goal.returns-clause-put
returns-clause-put g c =
    let block = c.index_mut-block.result.now in
    exchanged c.args.parts.now.items c.args.place.block block (with_item block c.args.place.offset c.replace.new.dest) c.requires.block c.index_mut-block.ensures.value
    c.args.place.offset c.args.item (ap (λ item. set block.items c.args.place.offset item) c.replace.ensures.after)
