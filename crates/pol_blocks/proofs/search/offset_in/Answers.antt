use Rattle.std.proofs.Common.{rules}
use Rattle.std.proofs.lemmas.List.Sorted.{IsPartitionPoint-from_clause}
use Rattle.pol_blocks.proofs.search.offset_in.Goals as goal

pub returns-clause-split : goal.returns-clause-split
returns-clause-split g c =
    IsPartitionPoint-from_clause (g.F.Front.passes c.args.front.now) c.args.block.now c.partition_point.result c.partition_point.ensures.partitioned c.requires (λ a r q k. search rules)
