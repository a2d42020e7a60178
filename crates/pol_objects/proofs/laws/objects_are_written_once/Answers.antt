use Rattle.pol_objects.proofs.Machines.{put_is_there, written_once}
use Rattle.pol_objects.proofs.laws.objects_are_written_once.Goals as goal

pub returns-clause-there : goal.returns-clause-there
returns-clause-there c = put_is_there

pub returns-clause-once : goal.returns-clause-once
returns-clause-once c = written_once
