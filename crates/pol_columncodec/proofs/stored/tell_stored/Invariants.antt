use Rattle.std.proofs.Common.{take}
use Rattle.std.specs.List.{AllByRecursion}
use Rattle.pol_columnforms.specs.Columns.{HasTexts}
use Rattle.pol_columncodec.proofs.stored.tell_stored.Given as goal

abbrev pub invariant-loop-column : goal.invariant-loop-column
invariant-loop-column l = AllByRecursion HasTexts (take l.column-index l.columns)
