use Rattle.std.proofs.Common.{codes, sym, ap, ◌∙◌}
use Rattle.pol_requests.proofs.RefusedLemmas.{followed}
use Rattle.pol_routes.specs.Query.{query_value}
use Rattle.pol_routes.specs.Tables.{purge_read, purge_requested}
use Rattle.pol_routes.proofs.tables.purge_requested.Goals as goal

pub returns : goal.returns
unfolding purge_requested
returns c =
    followed _ purge_read c.in_ok-value.value c.purge_read.result
    (ap (query_value (codes "purgeRequested")) (sym c.query_of.ensures) ∙ c.in_ok-value.ensures)
    c.purge_read.ensures
