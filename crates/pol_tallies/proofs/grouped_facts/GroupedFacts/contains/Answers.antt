use Rattle.std.proofs.Common.{◌≡◌, Bor, Option, None, Some, is_some, refl, ◌∙◌}
use Rattle.std.specs.Option.{option_copied}
use Rattle.pol_tallies.proofs.NumberedFactsLemmas.{holds-found}
use Rattle.pol_tallies.proofs.grouped_facts.GroupedFacts.contains.Goals as goal

is_some-copied : {A : Type 0} (found : Option (Bor A)) → is_some found ≡ is_some (option_copied found)
is_some-copied None = refl
is_some-copied (Some row) = refl

pub returns : goal.returns
returns g c =
    let found = holds-found (λ row. row.number) (λ row. row.fact) g.T.Fact.coded c.args.fact.now c.self.inside.table.rows (option_copied c.named.result) c.named.ensures in
    rw (← c.self.view_is) (c.is_some.ensures ∙ is_some-copied c.named.result ∙ found)
