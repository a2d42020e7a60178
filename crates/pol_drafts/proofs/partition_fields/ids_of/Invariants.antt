use Rattle.std.proofs.Common.{◌≡◌, ◌≤◌, ◌+◌, ◌++◌, ◌^◌, drop, length}
use Rattle.pol_drafts.specs.Partitions.{ids_of}
use Rattle.pol_drafts.proofs.partition_fields.ids_of.Given as goal

abbrev pub invariant-loop-field : goal.invariant-loop-field
invariant-loop-field l = record {
  made : ids_of l.specs l.fn.next l.fields ≡ l.ids.items ++ ids_of l.specs l.next (drop l.field-index l.fields);
  count : length l.ids.items ≡ l.field-index;
  room : l.next ≤ 2 ^ 32 + l.field-index;
}
