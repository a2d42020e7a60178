use Rattle.pol_locations.proofs.Segments.{IsSegment-from_tests}
use Rattle.pol_locations.proofs.location.judge.Goals as goal

pub returns-clause-segmented : goal.returns-clause-segmented
returns-clause-segmented c = IsSegment-from_tests c.args.segment.now (cc) (cc) (cc)
