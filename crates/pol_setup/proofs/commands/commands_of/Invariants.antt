use Rattle.std.proofs.Common.{◌≡◌, map}
use Rattle.pol_setup.specs.Setup.{by_setup}
use Rattle.pol_setup.proofs.commands.commands_of.Given as goal

abbrev pub invariant-loop-action : goal.invariant-loop-action
invariant-loop-action l = l.commands.items ≡ map (by_setup l.moment) l.yielded
