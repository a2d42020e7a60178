use Rattle.pol_words.specs.declared.plan.Plan.TheVariants.{Init}
use Rattle.pol_words.proofs.LineLemmas.{init-nothing, spoken}
use Rattle.pol_words.proofs.plan.init.Goals as goal

pub returns-in_default-clause-plan : goal.returns-in_default-clause-plan
returns-in_default-clause-plan c = init-nothing c.args.options.now c.in_default.ensures

pub returns-in_err-catalogue-clause-none : goal.returns-in_err-catalogue-clause-none
returns-in_err-catalogue-clause-none c =
    spoken (Init c.in-Some.catalogue.now c.in-Some.objects.now) c.args.options.now c.in-Some.ensures

pub returns-clause-none : goal.returns-clause-none
returns-clause-none c =
    spoken (Init c.in-Some.catalogue.now c.in-Some.objects.now) c.args.options.now c.in-Some.ensures
