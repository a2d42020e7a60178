use Rattle.std.proofs.Common.{◌≡◌, ◌++◌, map}
use Rattle.pol_setup.specs.Setup.{add_member}
use Rattle.pol_setup.proofs.commands.push_members.Given as goal

abbrev pub invariant-loop-role : goal.invariant-loop-role
invariant-loop-role l = l.actions.items ≡ l.initial.actions.items ++ map (add_member l.principal) l.yielded
