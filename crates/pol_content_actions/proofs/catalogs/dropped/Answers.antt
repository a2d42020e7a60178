use Rattle.std.proofs.Common.{[], ◌∷◌, ◌++◌, ◌+◌, filter, map, ◌==◌, ap, sym, ◌∙◌}
use Rattle.pol_access.specs.Access.{catalog_role_id}
use Rattle.pol_access.specs.Order.{grants_in_order, joins_in_order}
use Rattle.pol_access.specs.Referent.{grant_names, join_names}
use Rattle.pol_access.specs.declared.referent.Referent.TheVariants as referent
use Rattle.pol_content.specs.declared.change.Change.TheVariants.{Time, DropCatalog, DropCatalogRole, DropGrant, DropJoin}
use Rattle.pol_rules.specs.Rules.{time_of}
use Rattle.pol_content_actions.proofs.ChangesLemmas.{changes-without_catalog}
use Rattle.pol_content_actions.proofs.catalogs.dropped.Goals as goal

pub returns-clause-changes : goal.returns-clause-changes
returns-clause-changes c =
    let s = c.args.asked.now.state.now.rows in
    let command = c.args.asked.now.command.now in
    let named = referent.RoleOfCatalog c.args.row.now.id in
    let roles = map DropCatalogRole (map catalog_role_id (filter (λ role. role.catalog == c.args.row.now.id) s.access.catalog_roles)) in
    let joins = map DropJoin (joins_in_order (filter (join_names s.access.catalog_roles named) s.access.joins)) in
    let grants = map DropGrant (grants_in_order (filter (grant_names s.access.catalog_roles named) s.access.grants)) in
    c.from.ensures
    ∙ c.in_ok-push_grants.ensures
    ∙ ap (λ items. items ++ grants) (c.in_ok-push_joins.ensures ∙ ap (λ items. items ++ joins) (c.in_ok-push_roles.ensures ∙ ap (λ items. items ++ roles) (c.in_ok-changes.ensures.items ∙ (λ i. Time (c.time_of.ensures i) ∷ DropCatalog c.args.row.now.id ∷ []))))
    ∙ sym (changes-without_catalog s c.requires.sound (time_of s command) (s.charged + command.charge) c.args.row.now c.requires.there)
