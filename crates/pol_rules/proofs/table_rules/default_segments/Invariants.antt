use Rattle.std.proofs.Common.{◌≡◌, ◌++◌, take}
use Rattle.pol_rules.proofs.table_rules.default_segments.Given as goal

abbrev pub invariant-loop-level : goal.invariant-loop-level
invariant-loop-level l =
    l.segments.items ≡ l.initial.segments.items ++ take l.level-index l.parts
