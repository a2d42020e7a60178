use Rattle.std.proofs.Common.{rules}
use Rattle.std.proofs.lemmas.List.Sorted.{IsPartitionPoint-from_clause}
use Rattle.pol_locations.specs.LocationSet.{is_before}
use Rattle.pol_locations.proofs.NearLemmas.{before-parts}
use Rattle.pol_locations.proofs.location_set.place_of.Goals as goal

pub returns-clause-split : goal.returns-clause-split
returns-clause-split c =
    IsPartitionPoint-from_clause (is_before c.args.location.now) c.args.members.now c.partition_point.result c.partition_point.ensures.partitioned
    (before-parts c.args.members.now c.args.location.now c.requires) (λ a r q k. search rules)
