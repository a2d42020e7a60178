use Rattle.pol_words.specs.declared.plan.Plan.TheVariants.{Exec, ExecFresh}
use Rattle.pol_words.proofs.LineLemmas.{exec-nothing, spoken}
use Rattle.pol_words.proofs.plan.exec.Goals as goal

pub returns-in_err-root_secret-clause-none : goal.returns-in_err-root_secret-clause-none
returns-in_err-root_secret-clause-none c =
    spoken (ExecFresh c.in-Some.secret.now) c.args.options.now c.in-Some.ensures

pub returns-in-Some-clause-none : goal.returns-in-Some-clause-none
returns-in-Some-clause-none c = spoken (ExecFresh c.in-Some.secret.now) c.args.options.now c.in-Some.ensures

pub returns-in_default-places-clause-plan : goal.returns-in_default-places-clause-plan
returns-in_default-places-clause-plan c =
    exec-nothing c.args.options.now c.in_default.ensures c.in_default-places.ensures

pub returns-in_err-catalogue-clause-none : goal.returns-in_err-catalogue-clause-none
returns-in_err-catalogue-clause-none c =
    spoken (Exec c.in-Some-places.catalogue.now c.in-Some-places.objects.now) c.args.options.now c.in-Some-places.ensures

pub returns-clause-none : goal.returns-clause-none
returns-clause-none c =
    spoken (Exec c.in-Some-places.catalogue.now c.in-Some-places.objects.now) c.args.options.now c.in-Some-places.ensures
