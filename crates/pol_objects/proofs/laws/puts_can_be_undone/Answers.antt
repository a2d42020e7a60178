use Rattle.pol_objects.proofs.Machines.{taken_back}
use Rattle.pol_objects.proofs.laws.puts_can_be_undone.Goals as goal

pub returns : goal.returns
returns c = taken_back
