use Rattle.std.proofs.Common.{◌≡◌, map, ap, rules}
use Rattle.std.proofs.lemmas.List.Elements.{same_from_all_zip}
use Rattle.std.proofs.lemmas.Map.Entries.{entries_from_clone}
use Rattle.pol_tables.proofs.index.IndexClone.clone.Goals as goal

pub invariant_of-result : goal.invariant_of-result
invariant_of-result c =
    let same : c.in_ok-firsts.firsts.entries ≡ c.self.inside.firsts.entries = entries_from_clone _ _ (λ x y is. search rules) (λ v w is. search rules) _ _ c.in_ok-firsts.ensures.cases in
    rw same c.self.invariant

pub returns : goal.returns
returns c =
    let same : c.in_ok-firsts.firsts.entries ≡ c.self.inside.firsts.entries = entries_from_clone _ _ (λ x y is. search rules) (λ v w is. search rules) _ _ c.in_ok-firsts.ensures.cases in
    let others : c.in_ok-others.others.items ≡ c.self.inside.others.items = same_from_all_zip _ _ _ c.in_ok-others.ensures.cases.0 (λ v w is. search rules) in
    rw (← c.self.view_is) (record { cases = (ap (λ entries. map (λ e. e.1) entries) same, others) })
