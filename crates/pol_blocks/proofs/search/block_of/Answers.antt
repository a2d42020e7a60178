use Rattle.std.proofs.Common.{rules}
use Rattle.std.specs.Prelude.{Vec}
use Rattle.std.proofs.lemmas.List.Sorted.{IsPartitionPoint-from_clause}
use Rattle.pol_blocks.specs.Blocks.{ends_in}
use Rattle.pol_blocks.proofs.search.block_of.Goals as goal

pub returns-clause-split : goal.returns-clause-split
returns-clause-split g c =
    IsPartitionPoint-from_clause (λ (block : Vec _ _). ends_in (g.F.Front.passes c.args.front.now) block.items) c.args.parts.now c.partition_point.result c.partition_point.ensures.partitioned c.requires (λ a r q k. search rules)
