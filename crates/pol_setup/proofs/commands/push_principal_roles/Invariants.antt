use Rattle.std.proofs.Common.{◌≡◌, ◌++◌, map}
use Rattle.pol_setup.specs.Setup.{create_principal_role}
use Rattle.pol_setup.proofs.commands.push_principal_roles.Given as goal

abbrev pub invariant-loop-role : goal.invariant-loop-role
invariant-loop-role l = l.actions.items ≡ l.initial.actions.items ++ map create_principal_role l.yielded
