use Rattle.std.proofs.Common.{Ok, ap, sym}
use Rattle.pol_locations.proofs.Segments.{location_refusal-IsLocation}
use Rattle.pol_routes.specs.Objects.{location_of}
use Rattle.pol_routes.proofs.objects.location_of.Goals as goal

pub returns-in-Ok : goal.returns-in-Ok
unfolding location_of
returns-in-Ok c = rw (location_refusal-IsLocation c.args.texts.now c.in-Ok.ensures.located) (ap Ok (sym c.in-Ok.ensures.value))
