use Rattle.std.proofs.Common.{◌≡◌, ◌++◌}
use Rattle.std.specs.List.{flat_map}
use Rattle.pol_setup.specs.Setup.{catalog_role_actions}
use Rattle.pol_setup.proofs.commands.push_catalog_roles.Given as goal

abbrev pub invariant-loop-role : goal.invariant-loop-role
invariant-loop-role l = l.actions.items ≡ l.initial.actions.items ++ flat_map catalog_role_actions l.yielded
