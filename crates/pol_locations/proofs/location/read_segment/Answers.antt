use Rattle.std.proofs.lemmas.Result.{err_from_is_err_and}
use Rattle.pol_locations.proofs.Segments.{refused_at_segment}
use Rattle.pol_locations.proofs.location.read_segment.Goals as goal

pub returns-in_err-judge-clause-refused : goal.returns-in_err-judge-clause-refused
returns-in_err-judge-clause-refused c =
    let p = err_from_is_err_and c.from_residual.result c.from_residual.ensures.1 in
    rw (p.1, p.2) (λ segments segmented bounded. refused_at_segment c.args.segments.now.items c.args.segment.now segments _ segmented bounded c.in_err-judge.ensures.refused)
