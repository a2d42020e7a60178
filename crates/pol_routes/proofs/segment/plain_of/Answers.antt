use Rattle.std.proofs.Common.{Ok, ap, sym}
use Rattle.pol_names.proofs.Refusals.{plain_refusal-IsPlainName}
use Rattle.pol_routes.specs.Segment.{plain_of}
use Rattle.pol_routes.proofs.segment.plain_of.Goals as goal

pub returns-in-Ok : goal.returns-in-Ok
unfolding plain_of
returns-in-Ok c = rw (plain_refusal-IsPlainName c.args.text.now c.in-Ok.ensures.named) (ap Ok (sym c.in-Ok.ensures.value))
