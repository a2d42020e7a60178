use Rattle.pol_locations.proofs.Prefixes.{Covers-overlap, Overlaps-sym}
use Rattle.pol_locations.proofs.laws.overlap_is_symmetric.Goals as goal

pub returns-clause-symmetric : goal.returns-clause-symmetric
returns-clause-symmetric c = Overlaps-sym

pub returns-clause-covers : goal.returns-clause-covers
returns-clause-covers c = Covers-overlap
