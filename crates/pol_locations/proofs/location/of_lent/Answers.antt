use Rattle.pol_locations.specs.Location.{texts}
use Rattle.pol_locations.proofs.Texts.{location_too_long}
use Rattle.pol_locations.proofs.location.of_lent.Goals as goal

pub returns-then-is_too_long-clause-refused : goal.returns-then-is_too_long-clause-refused
returns-then-is_too_long-clause-refused c = location_too_long (texts c.args.segments.now) (c.is_too_long.ensures.0 c.if-is_too_long.true)
