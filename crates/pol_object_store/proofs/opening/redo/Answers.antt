use Rattle.std.proofs.Common.{sym, ◌∙◌, true≢false}
use Rattle.pol_object_store.proofs.LeadLemmas.{misfit_unfit}
use Rattle.pol_object_store.proofs.opening.redo.Goals as goal

pub returns-then-not-branch-clause-refused : goal.returns-then-not-branch-clause-refused
returns-then-not-branch-clause-refused c is =
    misfit_unfit c.args.body.now c.args.objects.now c.in_ok-change.change c.in_ok-change.ensures.change
    (λ fits. true≢false (sym (c.in_ok-is_fitting.ensures.1 fits) ∙ c.if-not-branch.true))
