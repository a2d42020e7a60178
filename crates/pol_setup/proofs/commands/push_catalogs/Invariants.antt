use Rattle.std.proofs.Common.{◌≡◌, ◌++◌, map}
use Rattle.pol_setup.specs.Setup.{create_catalog}
use Rattle.pol_setup.proofs.commands.push_catalogs.Given as goal

abbrev pub invariant-loop-catalog : goal.invariant-loop-catalog
invariant-loop-catalog l = l.actions.items ≡ l.initial.actions.items ++ map create_catalog l.yielded
