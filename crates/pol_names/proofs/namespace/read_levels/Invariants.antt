use Rattle.std.proofs.Common.{drop}
use Rattle.pol_names.specs.Namespace.{texts}
use Rattle.pol_names.proofs.Levels.{HaveRead}
use Rattle.pol_names.proofs.namespace.read_levels.Given as goal

abbrev pub invariant-loop-level : goal.invariant-loop-level
invariant-loop-level l = HaveRead (texts l.levels) l.names.items (texts (drop l.level-index l.levels))
