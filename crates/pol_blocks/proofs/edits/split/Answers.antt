use Rattle.std.proofs.Common.{arith}
use Rattle.pol_blocks.proofs.Flats.{insert-behind, insert-front}
use Rattle.pol_blocks.proofs.edits.split.Goals as goal

pub returns-then-offset-half-clause-items : goal.returns-then-offset-half-clause-items
returns-then-offset-half-clause-items g c =
    rw (c.put-then-offset-half.ensures.items, c.move_behind.ensures.front, c.move_behind.ensures.behind) (insert-behind c.args.block.now.items 16 c.args.offset c.args.item (omega arith) (omega arith))

pub returns-else-offset-half-clause-items : goal.returns-else-offset-half-clause-items
returns-else-offset-half-clause-items g c =
    rw (c.put-else-offset-half.ensures.items, c.move_behind.ensures.front, c.move_behind.ensures.behind) (insert-front c.args.block.now.items 16 c.args.offset c.args.item (omega arith) (omega arith))
