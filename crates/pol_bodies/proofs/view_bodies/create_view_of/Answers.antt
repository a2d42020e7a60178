use Rattle.pol_bodies.specs.ViewBodies.{create_view_of, have_forms, read_formed}
use Rattle.pol_bodies.proofs.ViewBodyLemmas.{asked}
use Rattle.pol_bodies.proofs.view_bodies.create_view_of.Goals as goal

pub returns-in-Ok : goal.returns-in-Ok
unfolding create_view_of
returns-in-Ok c = asked _ (read_formed c.args.bytes.now) c.in-Ok.request c.in-Ok.ensures.reading _

-- what was read has its forms
pub invariant_of-result : goal.invariant_of-result
invariant_of-result c = record { formed = ∣ have_forms c.in-Ok.request c.in-Ok.ensures.formed ∣₁ }
