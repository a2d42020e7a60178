use Rattle.std.proofs.Common.{◌≡◌, ◌++◌, take, flat_map}
use Rattle.std.specs.List.{AllByRecursion}
use Rattle.pol_forms.specs.Forms.{text}
use Rattle.pol_forms.proofs.names.write_each.Given as goal

abbrev pub invariant-loop-level : goal.invariant-loop-level
invariant-loop-level l = record {
  bytes : l.written.items ≡ l.fn.written.items ++ flat_map text.write (take l.level-index l.levels);
  holds : AllByRecursion text.holds (take l.level-index l.levels);
}
