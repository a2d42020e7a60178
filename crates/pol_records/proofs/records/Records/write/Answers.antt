use Rattle.std.proofs.lemmas.Result.{err_from_is_err_and, IfErr-weaker, IfOk-weaker}
use Rattle.pol_records.proofs.records.Records.write.Goals as goal

pub returns-in_err-settle-clause-lost : goal.returns-in_err-settle-clause-lost
returns-in_err-settle-clause-lost g c =
    let p = err_from_is_err_and c.from_residual.result c.from_residual.ensures.1 in
    rw (p.1, p.2) (λ opening written lost holds. rw (c.in_err-settle.ensures.refused.0) (c.settle.ensures.holds opening written lost holds))

pub returns-clause-written : goal.returns-clause-written
returns-clause-written g c =
    IfOk-weaker c.append.result _ _ (λ _ appends opening written lost holds. appends opening written lost (c.settle.ensures.holds opening written lost holds))
    c.append.ensures.written

pub returns-clause-lost : goal.returns-clause-lost
returns-clause-lost g c =
    IfErr-weaker c.append.result _ _ (λ _ loses opening written lost holds. loses opening written lost (c.settle.ensures.holds opening written lost holds))
    c.append.ensures.lost
