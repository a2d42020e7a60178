use Rattle.std.proofs.Common.{◌≡◌, ◌∷◌, rules, subst}
use Rattle.pol_words.specs.Words.{MeansNothing}
use Rattle.pol_words.specs.declared.names.TheConstants.{EXEC, INIT}
use Rattle.pol_words.proofs.plan.plan_of.Goals as goal

pub returns-then-eq-clause-none : goal.returns-then-eq-clause-none
returns-then-eq-clause-none c = λ nothing.
    let are : c.args.words.now.list ≡ EXEC.now ∷ c.in-Some.options.now = search rules in
    c.exec.ensures.none (subst MeansNothing are nothing)

pub returns-then-eq-2-clause-none : goal.returns-then-eq-2-clause-none
returns-then-eq-2-clause-none c = λ nothing.
    let are : c.args.words.now.list ≡ INIT.now ∷ c.in-Some.options.now = search rules in
    c.init.ensures.none (subst MeansNothing are nothing)
