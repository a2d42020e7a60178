use Rattle.pol_objects.proofs.Machines.{locations_by_texts}
use Rattle.pol_objects.proofs.laws.texts_tell_locations.Goals as goal

pub returns : goal.returns
returns c = locations_by_texts
