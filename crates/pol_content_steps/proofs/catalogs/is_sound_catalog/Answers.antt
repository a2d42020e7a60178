use Rattle.std.proofs.Common.{List, sym, subst}
use Rattle.std.specs.List.{fold}
use Rattle.pol_content.specs.declared.change.Change.{Change}
use Rattle.pol_access_steps.specs.Counters.{counted}
use Rattle.pol_content_steps.proofs.CatalogLemmas.{five-items}
use Rattle.pol_state.specs.Applied.{changed}
use Rattle.pol_state.specs.Sound.{IsSound}
use Rattle.pol_content_steps.proofs.catalogs.is_sound_catalog.Goals as goal

pub returns-in-len5 : goal.returns-in-len5
returns-in-len5 c =
    let at = counted c.args.state.now.rows c.args.counters in
    let is = five-items c.args.changes.now c.catalog-item.result c.role-item.result c.join-item.result c.first-item.result c.second-item.result c.in-len5.len_at_least c.in-len5.len_below c.catalog-item.is c.role-item.is c.join-item.is c.first-item.is c.second-item.is in
    λ passes. subst (λ (changes : List Change). IsSound (fold changed at changes)) (sym is) (c.is_created.ensures passes)
