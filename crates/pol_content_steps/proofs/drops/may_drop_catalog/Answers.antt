use Rattle.std.proofs.Common.{List, ◌∷◌, sym, ap, subst, ◌∙◌}
use Rattle.std.specs.List.{fold}
use Rattle.pol_access_steps.specs.Counters.{counted}
use Rattle.pol_content.specs.declared.change.Change.{Change}
use Rattle.pol_content.specs.declared.change.Change.TheVariants.{DropCatalog}
use Rattle.pol_content_steps.proofs.DropLemmas.{dropped_catalog-sound}
use Rattle.pol_state.specs.Applied.{changed}
use Rattle.pol_state.specs.Sound.{IsSound}
use Rattle.pol_content_steps.proofs.drops.may_drop_catalog.Goals as goal

pub returns-in-DropCatalogRole : goal.returns-in-DropCatalogRole
returns-in-DropCatalogRole c =
    let s = c.args.state.now.rows in
    let at = changed (counted s c.args.counters) (DropCatalog c.args.id) in
    let rest = c.in-Some.rest.now in
    let is = c.in-Some.ensures.cases.0 ∙ ap (λ (first : Change). first ∷ rest) c.in-DropCatalogRole.is in
    λ passes. subst (λ (changes : List Change). IsSound (fold changed at changes)) (sym is)
    (dropped_catalog-sound s c.requires.sound c.args.counters c.requires.follows c.args.id rest c.in-DropCatalogRole.only (sym c.may_drop_with_role.ensures ∙ passes))
