use Rattle.std.proofs.Common.{inr}
use Rattle.pol_cli.proofs.setup.init.Goals as goal

pub returns-in-Ok : goal.returns-in-Ok
returns-in-Ok g c =
    let prepares = c.in-Ok.ensures.prepared in
    inr (record { prepared = c.in-Ok.prepared; prepares = prepares; makes = c.make_and_tell-reason.ensures prepares.ready.body prepares.ready.first })
