use Rattle.std.proofs.Common.{◌≡◌, drop}
use Rattle.pol_drafts.specs.Partitions.{earlier_id}
use Rattle.pol_drafts.proofs.partition_fields.earlier_id.Given as goal

abbrev pub invariant-loop-spec : goal.invariant-loop-spec
invariant-loop-spec l = earlier_id l.field l.specs ≡ earlier_id l.field (drop l.spec-index l.specs)
