use Rattle.std.proofs.Common.{◌≡◌, ◌+◌, ◌-◌, length, map, take}
use Rattle.std.specs.List.{find, range_with_len}
use Rattle.pol_content.specs.Content.{first_missing, is_missing}
use Rattle.pol_content.proofs.content.Content.first_missing.Given as goal

-- the first that is missing is the first of those that are left
abbrev pub invariant-loop-depth : goal.invariant-loop-depth
invariant-loop-depth l =
    find (is_missing l.catalog l.self.rows) (map (λ depth. take depth l.levels) (range_with_len (l.depth + 1) (length l.levels - l.depth))) ≡ first_missing l.catalog l.levels l.self.rows
