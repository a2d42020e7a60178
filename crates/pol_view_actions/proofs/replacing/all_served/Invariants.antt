use Rattle.std.proofs.Common.{◌≡◌, drop, map}
use Rattle.pol_state.specs.Bounds.{first_refusal}
use Rattle.pol_view_actions.specs.Replacing.{any_unserved, unserved}
use Rattle.pol_view_actions.proofs.replacing.all_served.Given as goal

abbrev pub invariant-loop-update : goal.invariant-loop-update
invariant-loop-update l = first_refusal (map unserved (drop l.update-index l.updates)) ≡ any_unserved l.updates
