use Rattle.pol_bodies.specs.ViewBodies.{view_commit_of, read_commit_formed}
use Rattle.pol_bodies.proofs.ViewBodyLemmas.{commit_asked}
use Rattle.pol_bodies.proofs.view_bodies.view_commit_of.Goals as goal

pub returns-in-Ok : goal.returns-in-Ok
unfolding view_commit_of
returns-in-Ok c =
    commit_asked c.args.identifier _ (read_commit_formed c.args.bytes.now) c.in-Ok.read c.in-Ok.ensures.reading _
