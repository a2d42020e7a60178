use Rattle.std.proofs.Common.{◌≡◌, ◌++◌, map}
use Rattle.pol_content.specs.declared.change.Change.TheVariants.{PutTable}
use Rattle.pol_commit_actions.proofs.puts.puts_of.Given as goal

abbrev pub invariant-loop-row : goal.invariant-loop-row
invariant-loop-row l = l.changes.items ≡ l.initial.changes.items ++ map PutTable l.yielded
