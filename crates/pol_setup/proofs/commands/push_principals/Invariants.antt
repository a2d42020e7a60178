use Rattle.std.proofs.Common.{◌≡◌, ◌++◌}
use Rattle.std.specs.List.{flat_map}
use Rattle.pol_setup.specs.Setup.{principal_actions}
use Rattle.pol_setup.proofs.commands.push_principals.Given as goal

abbrev pub invariant-loop-principal : goal.invariant-loop-principal
invariant-loop-principal l = l.actions.items ≡ l.initial.actions.items ++ flat_map principal_actions l.yielded
