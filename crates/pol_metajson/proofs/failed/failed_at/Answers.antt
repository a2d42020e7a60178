use Rattle.pol_readers.specs.declared.path.Step.TheVariants.{Place}
use Rattle.pol_metajson.proofs.FailedLemmas.{fails}
use Rattle.pol_metajson.proofs.failed.failed_at.Goals as goal

pub returns-clause-fails : goal.returns-clause-fails
returns-clause-fails g c = fails (Place c.args.place) c.args.error c.under_place.result c.under_place.ensures
