use Rattle.std.proofs.Common.{◌≡◌, ◌++◌, map}
use Rattle.pol_setup.specs.Setup.{add_grant}
use Rattle.pol_setup.proofs.commands.push_grants.Given as goal

abbrev pub invariant-loop-one : goal.invariant-loop-one
invariant-loop-one l = l.actions.items ≡ l.initial.actions.items ++ map add_grant l.yielded
