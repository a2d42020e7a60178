use Rattle.pol_readers.specs.declared.path.Step.TheVariants.{Key}
use Rattle.pol_metajson.proofs.FailedLemmas.{fails}
use Rattle.pol_metajson.proofs.failed.failed_under.Goals as goal

pub returns-clause-fails : goal.returns-clause-fails
returns-clause-fails g c = fails (Key c.args.key.now) c.args.error c.under_key.result c.under_key.ensures
