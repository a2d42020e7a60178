use Rattle.std.proofs.Common.{rules}
use Rattle.std.proofs.lemmas.Iterator.{YieldsList-from_map_by, YieldsList-from_slice}
use Rattle.std.proofs.lemmas.Iterator.Consumers.{map_from_collect}
use Rattle.std.proofs.lemmas.List.{map-id}
use Rattle.pol_locations.proofs.location.lent_segments.Goals as goal

pub returns : goal.returns
returns c =
    rw map-id at
    (map_from_collect _ c.collect.ensures.ran
    (YieldsList-from_map_by _ (λ lent. lent.now) (λ segment. segment) (YieldsList-from_slice c.args.segments.now cc) c.map.ensures.closure (λ x r q k. search rules)))
