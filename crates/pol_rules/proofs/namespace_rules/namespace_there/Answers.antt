use Rattle.std.proofs.Common.{◌≡◌, None, ap, is_some, sym, subst, true, ◌∙◌}
use Rattle.std.specs.Option.{option_copied}
use Rattle.pol_content.specs.Content.{ContentRows, NamespaceNamesDiffer, first_missing, namespace_named}
use Rattle.pol_rules.proofs.ContentLemmas.{lent_some, levels_some, path_there}
use Rattle.pol_rules.proofs.namespace_rules.namespace_there.Goals as goal

pub unwrap-requires : goal.unwrap-requires
unwrap-requires c =
    let content = c.args.asked.now.state.now.rows.content in
    let levels = c.args.levels.now in
    let none : first_missing c.args.catalog levels content ≡ None = ap (first_missing c.args.catalog levels) (sym c.content.ensures) ∙ sym c.in_ok-namespace.ensures ∙ c.in-None.is in
    let there = path_there c.args.catalog content levels (levels_some levels c.levels-levels.ensures.named.filled) none in
    let differ = subst (λ (rows : ContentRows). NamespaceNamesDiffer rows.namespaces) (sym c.content-in-None.ensures) c.requires.orderly.content.namespace_names_differ in
    let found : is_some (option_copied c.namespace.result) ≡ true = ap is_some (c.namespace.ensures.first differ ∙ ap (namespace_named c.args.catalog levels) c.content-in-None.ensures) ∙ there in
    lent_some c.namespace.result found
