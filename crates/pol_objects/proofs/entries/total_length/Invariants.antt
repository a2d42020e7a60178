use Rattle.std.proofs.Common.{◌≡◌, ◌+◌, length}
use Rattle.std.specs.List.{sum_by}
use Rattle.pol_blocks.specs.Blocks.{flat}
use Rattle.pol_objects.proofs.entries.total_length.Given as goal

-- the bytes so far and those of the objects that are left
abbrev pub invariant-loop-entry : goal.invariant-loop-entry
invariant-loop-entry l = l.total + sum_by (λ entry. length entry.1) l.entry-iterator ≡ sum_by (λ entry. length entry.1) (flat l.entries)
