use Rattle.std.proofs.Common.{◌≡◌, ◌≤◌, ◌-◌, length}
use Rattle.std.specs.Io.KnownBytes.{Consumes}
use Rattle.pol_init.specs.Reading.{most_taken}
use Rattle.pol_init.proofs.reading.read_text.Given as goal

abbrev pub invariant-loop-alloc : goal.invariant-loop-alloc
invariant-loop-alloc g l = record {
  takes : Consumes (g.S.Source.left l.fn.source) (g.S.Source.left l.source) l.text.items;
  same : g.S.Source.faults l.source ≡ g.S.Source.faults l.fn.source;
  within : length l.text.items ≤ most_taken;
}

abbrev pub decreases-loop-alloc : goal.decreases-loop-alloc
decreases-loop-alloc g l = most_taken - length l.text.items
