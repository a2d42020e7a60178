use Rattle.std.proofs.Common.{[], ◌∷◌, ◌++◌, filter, map, ap, sym, ◌∙◌}
use Rattle.pol_access.specs.Order.{grants_in_order}
use Rattle.pol_access.specs.Referent.{grant_names}
use Rattle.pol_access.specs.declared.referent.Referent.TheVariants as referent
use Rattle.pol_access.specs.declared.securable.Securable.TheVariants as securable
use Rattle.pol_content.specs.declared.change.Change.TheVariants.{Time, DropGrant, DropView}
use Rattle.pol_view_actions.proofs.ChangesLemmas.{dropped_view_changes}
use Rattle.pol_view_actions.proofs.views.dropped.Goals as goal

pub returns-clause-changes : goal.returns-clause-changes
returns-clause-changes c =
    let s = c.args.asked.now.state.now.rows in
    let command = c.args.asked.now.command.now in
    let grants = map DropGrant (grants_in_order (filter (grant_names s.access.catalog_roles (referent.Securable (securable.View c.args.row.now.id))) s.access.grants)) in
    c.from.ensures
    ∙ c.in_ok-push_grants.ensures
    ∙ ap (λ items. items ++ grants) (c.in_ok-changes.ensures.items ∙ (λ i. Time (c.time_of.ensures i) ∷ DropView c.args.row.now.id ∷ []))
    ∙ sym (dropped_view_changes s command c.requires.sound c.args.row.now c.requires.there)
