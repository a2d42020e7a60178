use Rattle.std.proofs.Common.{Ok, ap, sym}
use Rattle.pol_names.specs.Namespace.{levels_of}
use Rattle.pol_names.proofs.Levels.{namespace_refusal-IsNamespace}
use Rattle.pol_routes.specs.Segment.{namespace_of}
use Rattle.pol_routes.proofs.segment.namespace_of.Goals as goal

pub returns-in-Ok : goal.returns-in-Ok
unfolding namespace_of
returns-in-Ok c = rw (namespace_refusal-IsNamespace (levels_of c.args.text.now) c.in-Ok.ensures.named) (ap Ok (sym c.in-Ok.ensures.value))
