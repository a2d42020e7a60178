use Rattle.std.proofs.Common.{◌∙◌}
use Rattle.pol_server.specs.Stores.{seen_of}
use Rattle.pol_server.proofs.ServeLemmas.{serves}
use Rattle.pol_server.proofs.serve.serve_connection.Goals as goal

pub returns-clause-serves : goal.returns-clause-serves
returns-clause-serves g c =
    serves _ _ (seen_of c.args.stores.now) (seen_of c.serve-ending.new.stores) c.new-connection.result c.serve-ending.new.self _
    c.serve-ending.ensures.finishes c.new-connection.ensures.buffer c.new-connection.ensures.places c.new-connection.ensures.budget c.new-connection.ensures.told
    c.serve-ending.ensures.ending c.serve-ending.ensures.stopped (c.from-places.ensures ∙ c.into_places.ensures)
