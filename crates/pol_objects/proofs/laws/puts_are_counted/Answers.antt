use Rattle.pol_objects.proofs.Machines.{count_is_bounded, puts_are_counted}
use Rattle.pol_objects.proofs.laws.puts_are_counted.Goals as goal

pub returns-clause-counted : goal.returns-clause-counted
returns-clause-counted c = puts_are_counted

pub returns-clause-bounded : goal.returns-clause-bounded
returns-clause-bounded c = count_is_bounded
