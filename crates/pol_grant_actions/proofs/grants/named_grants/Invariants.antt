use Rattle.std.proofs.Common.{◌≡◌, take}
use Rattle.std.specs.List.{filter_map}
use Rattle.pol_grant_actions.specs.Grants.{named_grant}
use Rattle.pol_grant_actions.proofs.grants.named_grants.Given as goal

abbrev pub invariant-loop-row : goal.invariant-loop-row
invariant-loop-row l = l.grants.items ≡ filter_map (named_grant l.asked.state.now.rows) (take l.row-index l.rows)
