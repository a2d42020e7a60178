use Rattle.std.proofs.Common.{◌≡◌, true, rules, tests}
use Rattle.std.proofs.lemmas.Iterator.{YieldsList-from_slice, IsFirst-from_position}
use Rattle.pol_http.specs.Text.{is_no_space}
use Rattle.pol_http.proofs.TargetLemmas.{first_space}
use Rattle.pol_http.proofs.target.after_space.Goals as goal

pub returns-clause-found : goal.returns-clause-found
returns-clause-found c =
    let bytes = c.args.bytes.now in
    let first = IsFirst-from_position _ _ c.position.result (λ byte. byte ≡ 32) (λ byte. is_no_space byte ≡ true)
    c.position.ensures.ran (YieldsList-from_slice bytes cc) (λ x q k. search (rules, tests)) (λ x q k. search (rules, tests)) in
    let found = rw c.in_ok-space.was at first in
    first_space bytes c.in_ok-space.space found.0 (found.1 0) found.2
