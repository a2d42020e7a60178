use Rattle.std.proofs.Common.{ap, subst, ◌∙◌}
use Rattle.pol_words.specs.Words.{IsReadAs, Means, MeansNothing}
use Rattle.pol_words.proofs.LineLemmas.{means-one}
use Rattle.pol_cli.specs.Places.{places_of}
use Rattle.pol_cli.proofs.places.places_of.Goals as goal

pub returns-in-Some-clause-named : goal.returns-in-Some-clause-named
returns-in-Some-clause-named c = λ plan means.
    let meant : Means c.args.words.now.list c.in-Some.plan = subst (IsReadAs c.args.words.now.list) c.in-Some.is c.in_ok-plan.ensures.plan in
    c.places_named.ensures ∙ ap places_of (means-one c.args.words.now.list c.in-Some.plan plan meant means)

pub returns-in-None-clause-named : goal.returns-in-None-clause-named
returns-in-None-clause-named c = λ plan means.
    let nothing : MeansNothing c.args.words.now.list = subst (IsReadAs c.args.words.now.list) c.in-None.is c.in_ok-plan.ensures.plan in
    absurd (nothing plan means)
