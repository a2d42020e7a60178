use Rattle.std.proofs.Common.{◌++◌, map, ap, ◌∙◌}
use Rattle.pol_access.specs.Access.{AccessRows}
use Rattle.pol_access.specs.Order.{grants_in_order, joins_in_order, members_in_order}
use Rattle.pol_content.specs.declared.change.Change.TheVariants.{PutCatalog, PutCatalogRole, PutGrant, PutJoin, PutMember, PutNamespace, PutPrincipal, PutPrincipalRole, PutTable, PutView}
use Rattle.pol_rules.proofs.LiveLemmas.{live-sound}
use Rattle.pol_states.proofs.ListingLemmas.{all-made}
use Rattle.pol_states.proofs.listing.all_changes.Goals as goal

pub returns : goal.returns
returns c =
    let s = c.args.state.now.rows in
    let head = c.in_ok-changes.changes.items in
    all-made s (live-sound s c.requires) head c.push_rows.new.changes.items c.push_members.new.changes.items c.push_joins.new.changes.items c.push_grants.new.changes.items c.push_live.new.changes.items c.in_ok-changes.ensures
    (c.in_ok-push_rows.ensures
    ∙ (λ i. head ++ map PutPrincipal (c.access.ensures i).principals ++ map PutPrincipalRole (c.access.ensures i).principal_roles ++ map PutCatalog (c.content.ensures i).catalogs ++ map PutCatalogRole (c.access.ensures i).catalog_roles ++ map PutNamespace (c.content.ensures i).namespaces ++ map PutTable (c.content.ensures i).tables ++ map PutView (c.content.ensures i).views))
    (c.in_ok-push_members.ensures ∙ ap (λ (access : AccessRows). c.push_rows.new.changes.items ++ map PutMember (members_in_order access.members)) c.access-2.ensures)
    (c.in_ok-push_joins.ensures ∙ ap (λ (access : AccessRows). c.push_members.new.changes.items ++ map PutJoin (joins_in_order access.joins)) c.access-3.ensures)
    (c.in_ok-push_grants.ensures ∙ ap (λ (access : AccessRows). c.push_joins.new.changes.items ++ map PutGrant (grants_in_order access.grants)) c.access-4.ensures)
    c.in_ok-push_live.ensures
