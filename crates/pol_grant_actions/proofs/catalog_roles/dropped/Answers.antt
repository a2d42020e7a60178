use Rattle.std.proofs.Common.{[], ◌∷◌, ◌++◌, filter, map, ap, sym, ◌∙◌}
use Rattle.pol_access.specs.Order.{grants_in_order, joins_in_order}
use Rattle.pol_access.specs.Referent.{grant_names, join_names}
use Rattle.pol_access.specs.declared.referent.Referent.TheVariants as referent
use Rattle.pol_content.specs.declared.change.Change.TheVariants.{Time, DropCatalogRole, DropGrant, DropJoin}
use Rattle.pol_grant_actions.proofs.ChangesLemmas.{dropped_catalog_role_changes}
use Rattle.pol_grant_actions.proofs.catalog_roles.dropped.Goals as goal

pub returns-clause-changes : goal.returns-clause-changes
returns-clause-changes c =
    let s = c.args.asked.now.state.now.rows in
    let named = referent.CatalogRole c.args.row.now.id in
    let joins = map DropJoin (joins_in_order (filter (join_names s.access.catalog_roles named) s.access.joins)) in
    let grants = map DropGrant (grants_in_order (filter (grant_names s.access.catalog_roles named) s.access.grants)) in
    c.from.ensures
    ∙ c.in_ok-push_grants.ensures ∙ ap (λ items. items ++ grants) (c.in_ok-push_joins.ensures ∙ ap (λ items. items ++ joins) (c.in_ok-changes.ensures.items ∙ (λ i. Time (c.time_of.ensures i) ∷ DropCatalogRole c.args.row.now.id ∷ [])))
    ∙ sym (dropped_catalog_role_changes s c.args.asked.now.command.now c.requires.sound c.args.row.now c.requires.there)
