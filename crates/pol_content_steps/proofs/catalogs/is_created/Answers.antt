use Rattle.std.proofs.Common.{sym, ap, subst, ◌∙◌}
use Rattle.pol_access_steps.specs.Counters.{counted}
use Rattle.pol_content.specs.declared.change.Change.TheVariants.{PutCatalog}
use Rattle.pol_content_steps.proofs.CatalogLemmas.{created_catalog-sound}
use Rattle.pol_state.specs.Applied.{changed}
use Rattle.pol_state.specs.Sound.{IsSound}
use Rattle.pol_content_steps.proofs.catalogs.is_created.Goals as goal

pub returns : goal.returns
returns c =
    let s = c.args.state.now.rows in
    let at = counted s c.args.counters in
    let row = c.row.result.now in
    let role = c.in-PutCatalog-PutCatalogRole-PutJoin-PutGrant-PutGrant.role in
    let join = c.in-PutCatalog-PutCatalogRole-PutJoin-PutGrant-PutGrant.join in
    let first = c.in-PutCatalog-PutCatalogRole-PutJoin-PutGrant-PutGrant.first in
    let second = c.in-PutCatalog-PutCatalogRole-PutJoin-PutGrant-PutGrant.second in
    let catalog_is = c.in-PutCatalog-PutCatalogRole-PutJoin-PutGrant-PutGrant.is-0 ∙ ap PutCatalog (sym c.row.ensures) in
    let role_is = c.in-PutCatalog-PutCatalogRole-PutJoin-PutGrant-PutGrant.is-1 in
    let join_is = c.in-PutCatalog-PutCatalogRole-PutJoin-PutGrant-PutGrant.is-2 in
    let first_is = c.in-PutCatalog-PutCatalogRole-PutJoin-PutGrant-PutGrant.is-3 in
    let second_is = c.in-PutCatalog-PutCatalogRole-PutJoin-PutGrant-PutGrant.is-4 in
    λ passes. subst IsSound
    (λ i. changed (changed (changed (changed (changed at (sym catalog_is i)) (sym role_is i)) (sym join_is i)) (sym first_is i)) (sym second_is i))
    (created_catalog-sound s c.requires.sound c.args.counters c.requires.follows row role join first second (sym c.may_create_catalog.ensures ∙ passes))
