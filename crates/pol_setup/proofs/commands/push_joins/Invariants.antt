use Rattle.std.proofs.Common.{◌≡◌, ◌++◌, map}
use Rattle.pol_setup.specs.Setup.{add_join}
use Rattle.pol_setup.proofs.commands.push_joins.Given as goal

abbrev pub invariant-loop-role : goal.invariant-loop-role
invariant-loop-role l = l.actions.items ≡ l.initial.actions.items ++ map (add_join l.catalog l.catalog_role) l.yielded
