use Rattle.std.proofs.Common.{[], ◌∷◌, ◌++◌, filter, map, ap, sym, ◌∙◌}
use Rattle.pol_access.specs.Order.{joins_in_order, members_in_order}
use Rattle.pol_access.specs.Referent.{join_names, member_names}
use Rattle.pol_access.specs.declared.referent.Referent.TheVariants as referent
use Rattle.pol_content.specs.declared.change.Change.TheVariants.{Time, DropJoin, DropMember, DropPrincipalRole}
use Rattle.pol_principal_actions.proofs.ChangesLemmas.{dropped_principal_role_changes}
use Rattle.pol_principal_actions.proofs.principal_roles.dropped.Goals as goal

pub returns-clause-changes : goal.returns-clause-changes
returns-clause-changes c =
    let s = c.args.asked.now.state.now.rows in
    let named = referent.PrincipalRole c.args.row.now.id in
    let members = map DropMember (members_in_order (filter (member_names named) s.access.members)) in
    let joins = map DropJoin (joins_in_order (filter (join_names s.access.catalog_roles named) s.access.joins)) in
    c.from.ensures
    ∙ c.in_ok-push_joins.ensures ∙ ap (λ items. items ++ joins) (c.in_ok-push_members.ensures ∙ ap (λ items. items ++ members) (c.in_ok-changes.ensures.items ∙ (λ i. Time (c.time_of.ensures i) ∷ DropPrincipalRole c.args.row.now.id ∷ [])))
    ∙ sym (dropped_principal_role_changes s c.args.asked.now.command.now c.requires.sound c.args.row.now c.requires.there)
