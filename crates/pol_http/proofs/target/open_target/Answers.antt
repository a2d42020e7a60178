use Rattle.pol_http.proofs.TargetLemmas.{no_only_space, no_second_space}
use Rattle.pol_http.proofs.target.open_target.Goals as goal

pub returns-in_err-target-clause-none : goal.returns-in_err-target-clause-none
returns-in_err-target-clause-none c = rw (c.from_residual.ensures) (no_only_space c.in_err-target.ensures.none)

pub returns-in-Some-clause-none : goal.returns-in-Some-clause-none
returns-in-Some-clause-none c = no_second_space c.in_ok-target.ensures.found c.in-Some.ensures.found
