use Rattle.std.proofs.Common.{sym, ap, subst, ◌∙◌}
use Rattle.pol_access_steps.specs.Counters.{counted}
use Rattle.pol_access_steps.specs.Holders.{may_put_principal}
use Rattle.pol_access_steps.proofs.HolderLemmas.{catalog_role-sound, principal-sound, role-sound}
use Rattle.pol_content.specs.declared.change.Change.{Change}
use Rattle.pol_state.specs.Applied.{changed}
use Rattle.pol_state.specs.Sound.{IsSound}
use Rattle.pol_access_steps.proofs.holders.is_sound_holder.Goals as goal

pub returns-in-PutPrincipal : goal.returns-in-PutPrincipal
returns-in-PutPrincipal c =
    let s = c.args.state.now.rows in
    λ passes. subst (λ (put : Change). IsSound (changed (counted s c.args.counters) put)) (sym c.in-PutPrincipal.is)
    (principal-sound s c.requires.sound c.args.counters c.requires.follows c.in-PutPrincipal.row (sym (c.may_put_principal.ensures ∙ ap (may_put_principal s c.args.counters) c.row.ensures) ∙ passes))

pub returns-in-PutPrincipalRole : goal.returns-in-PutPrincipalRole
returns-in-PutPrincipalRole c =
    let s = c.args.state.now.rows in
    λ passes. subst (λ (put : Change). IsSound (changed (counted s c.args.counters) put)) (sym c.in-PutPrincipalRole.is)
    (role-sound s c.requires.sound c.args.counters c.requires.follows c.in-PutPrincipalRole.row (sym (c.may_put_role.ensures) ∙ passes))

pub returns-in-PutCatalogRole : goal.returns-in-PutCatalogRole
returns-in-PutCatalogRole c =
    let s = c.args.state.now.rows in
    λ passes. subst (λ (put : Change). IsSound (changed (counted s c.args.counters) put)) (sym c.in-PutCatalogRole.is)
    (catalog_role-sound s c.requires.sound c.args.counters c.requires.follows c.in-PutCatalogRole.row (sym (c.may_put_catalog_role.ensures) ∙ passes))
