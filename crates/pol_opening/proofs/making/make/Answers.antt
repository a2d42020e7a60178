use Rattle.std.proofs.Common.{ap, ◌∙◌}
use Rattle.std.proofs.lemmas.Result.{on_ok_weaker, IfErr-weaker}
use Rattle.pol_state.specs.Rows.{Rows}
use Rattle.pol_opening.proofs.AfterLemmas.{after_charged}
use Rattle.pol_opening.proofs.LeadLemmas.{unsound_unfit}
use Rattle.pol_opening.proofs.PutLemmas.{each_valid}
use Rattle.pol_opening.proofs.ReadingLemmas.{making_for}
use Rattle.pol_opening.proofs.making.make.Goals as goal

pub make_all-requires-clause-changes : goal.make_all-requires-clause-changes
make_all-requires-clause-changes c = each_valid c.in-Ok.changes.items c.in-Ok.ensures.changes.0

pub returns-in-Ok-clause-charged : goal.returns-in-Ok-clause-charged
returns-in-Ok-clause-charged c =
    on_ok_weaker c.make_all.result (λ made. ap (λ (s : Rows). s.charged) made ∙ after_charged c.in-Ok.changes.items c.args.state.now.rows) c.make_all.ensures.made

pub returns-in-Ok-clause-refused : goal.returns-in-Ok-clause-refused
returns-in-Ok-clause-refused c =
    IfErr-weaker c.make_all.result _ _
    (λ why is. making_for c.args.at _ _ (unsound_unfit c.args.body.now c.in-Ok.changes.items c.args.state.now.rows c.in-Ok.ensures.changes) why is)
    c.make_all.ensures.refused
