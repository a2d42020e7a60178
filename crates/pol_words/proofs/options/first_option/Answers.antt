use Rattle.std.proofs.Common.{◌≡◌, ◌∷◌, rules, subst}
use Rattle.pol_words.specs.Options.{BeginsWith}
use Rattle.pol_words.proofs.OptionLemmas.{valueless}
use Rattle.pol_words.proofs.options.first_option.Goals as goal

pub returns-in-Some-default-empty : goal.returns-in-Some-default-empty
returns-in-Some-default-empty c =
    let none = valueless c.as_str.result.now c.in-Some-default-empty.field-0-0.now c.in-Some-default-empty.field-0-1.now c.in_ok-first.behind.now c.in-Some-default-empty.ensures c.in-Some-default-empty.is-empty in
    let is : c.args.words.now ≡ c.as_str.result.now ∷ c.in_ok-first.behind.now = search rules in
    λ option rest begins. none option rest (subst (λ words. BeginsWith words option rest) is begins)
