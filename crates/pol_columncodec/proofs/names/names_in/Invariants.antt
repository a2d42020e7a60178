use Rattle.std.proofs.Common.{◌≡◌, take}
use Rattle.pol_columnforms.specs.Named.{names_in}
use Rattle.pol_columncodec.proofs.names.names_in.Given as goal

abbrev pub invariant-loop-column : goal.invariant-loop-column
invariant-loop-column l = l.names.items ≡ names_in l.depth (take l.column-index l.columns)
