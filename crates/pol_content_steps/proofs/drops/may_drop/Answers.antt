use Rattle.std.proofs.Common.{sym, subst, ◌∙◌}
use Rattle.pol_content_steps.proofs.DropLemmas.{dropped_catalog_role-sound, dropped_namespace-sound, dropped_principal-sound, dropped_principal_role-sound, dropped_table-sound, dropped_view-sound, SoundWithout}
use Rattle.pol_content_steps.proofs.drops.may_drop.Goals as goal

pub returns-in-DropTable : goal.returns-in-DropTable
returns-in-DropTable c =
    let s = c.args.state.now.rows in
    let id = c.in-DropTable.id in
    let rest = c.args.rest.now in
    λ passes. subst (SoundWithout s c.args.counters rest) (sym c.in-DropTable.is)
    (dropped_table-sound s c.requires.sound c.args.counters c.requires.follows id rest (sym c.may_drop_table.ensures ∙ passes))

pub returns-in-DropView : goal.returns-in-DropView
returns-in-DropView c =
    let s = c.args.state.now.rows in
    let id = c.in-DropView.id in
    let rest = c.args.rest.now in
    λ passes. subst (SoundWithout s c.args.counters rest) (sym c.in-DropView.is)
    (dropped_view-sound s c.requires.sound c.args.counters c.requires.follows id rest (sym c.may_drop_view.ensures ∙ passes))

pub returns-in-DropNamespace : goal.returns-in-DropNamespace
returns-in-DropNamespace c =
    let s = c.args.state.now.rows in
    let id = c.in-DropNamespace.id in
    let rest = c.args.rest.now in
    λ passes. subst (SoundWithout s c.args.counters rest) (sym c.in-DropNamespace.is)
    (dropped_namespace-sound s c.requires.sound c.args.counters c.requires.follows id rest (sym c.may_drop_namespace.ensures ∙ passes))

pub returns-in-DropPrincipal : goal.returns-in-DropPrincipal
returns-in-DropPrincipal c =
    let s = c.args.state.now.rows in
    let id = c.in-DropPrincipal.id in
    let rest = c.args.rest.now in
    λ passes. subst (SoundWithout s c.args.counters rest) (sym c.in-DropPrincipal.is)
    (dropped_principal-sound s c.requires.sound c.args.counters c.requires.follows id rest (sym c.may_drop_principal.ensures ∙ passes))

pub returns-in-DropPrincipalRole : goal.returns-in-DropPrincipalRole
returns-in-DropPrincipalRole c =
    let s = c.args.state.now.rows in
    let id = c.in-DropPrincipalRole.id in
    let rest = c.args.rest.now in
    λ passes. subst (SoundWithout s c.args.counters rest) (sym c.in-DropPrincipalRole.is)
    (dropped_principal_role-sound s c.requires.sound c.args.counters c.requires.follows id rest (sym c.may_drop_principal_role.ensures ∙ passes))

pub returns-in-DropCatalogRole : goal.returns-in-DropCatalogRole
returns-in-DropCatalogRole c =
    let s = c.args.state.now.rows in
    let id = c.in-DropCatalogRole.id in
    let rest = c.args.rest.now in
    λ passes. subst (SoundWithout s c.args.counters rest) (sym c.in-DropCatalogRole.is)
    (dropped_catalog_role-sound s c.requires.sound c.args.counters c.requires.follows id rest (sym c.may_drop_catalog_role.ensures ∙ passes))

pub returns-in-DropCatalog : goal.returns-in-DropCatalog
returns-in-DropCatalog c =
    let s = c.args.state.now.rows in
    let rest = c.args.rest.now in
    λ passes. subst (SoundWithout s c.args.counters rest) (sym c.in-DropCatalog.is) (c.may_drop_catalog.ensures passes)
