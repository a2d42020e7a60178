use Rattle.std.proofs.Common.{◌≡◌, ap, sym, subst, ◌∙◌}
use Rattle.pol_access.specs.Search.{may}
use Rattle.pol_content.specs.Chain.{chain_of}
use Rattle.pol_content.specs.Content.{ContentRows, NamespaceNamesDiffer}
use Rattle.pol_rules.proofs.NeedsLemmas.{may_is}
use Rattle.pol_rules.proofs.needs.session_may.Goals as goal

pub returns : goal.returns
returns c =
    let s = c.args.asked.now.state.now.rows in
    let row = c.args.session.now in
    let need = c.args.need.now in
    let differ = subst (λ (rows : ContentRows). NamespaceNamesDiffer rows.namespaces) (sym c.content.ensures) c.requires.orderly.content.namespace_names_differ in
    let chain : c.as_slice.result.now ≡ chain_of need.on s.content = c.as_slice.ensures.value ∙ c.in_ok-chain.ensures differ ∙ ap (chain_of need.on) c.content.ensures in
    may_is c.access.result.now.rows row.principal row.scope need.privilege c.as_slice.result.now c.may.result c.may.ensures
    ∙ (λ i. may (c.access.ensures i) row.principal row.scope need.privilege (chain i))
