use Rattle.std.proofs.Common.{◌≡◌, ◌++◌, drop}
use Rattle.pol_drafts.specs.Partitions.{bound_fields}
use Rattle.pol_drafts.proofs.partition_fields.bound_fields.Given as goal

abbrev pub invariant-loop-place : goal.invariant-loop-place
invariant-loop-place l =
    bound_fields l.ids l.fields ≡ l.made.items ++ bound_fields (drop l.place l.ids) (drop l.place l.fields)
