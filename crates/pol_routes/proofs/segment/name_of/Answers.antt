use Rattle.std.proofs.Common.{Ok, ap, sym}
use Rattle.pol_names.proofs.Refusals.{name_refusal-IsName}
use Rattle.pol_routes.specs.Segment.{name_of}
use Rattle.pol_routes.proofs.segment.name_of.Goals as goal

pub returns-in-Ok : goal.returns-in-Ok
unfolding name_of
returns-in-Ok c = rw (name_refusal-IsName c.args.text.now c.in-Ok.ensures.named) (ap Ok (sym c.in-Ok.ensures.value))
