use Rattle.std.proofs.Common.{IsUtf8, sym, subst}
use Rattle.pol_routes.proofs.TargetLemmas.{IsUtf8-path_of}
use Rattle.pol_routes.proofs.plans.row_of.Goals as goal

pub returns-in-Err : goal.returns-in-Err
returns-in-Err c = λ utf8.
    absurd (c.in-Err.ensures.cases.0 (subst IsUtf8 (sym c.path_of.ensures) (IsUtf8-path_of c.args.target.now utf8)))
