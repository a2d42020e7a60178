use Rattle.std.proofs.Common.{◌≡◌, ◌++◌, map, None, vec_items}
use Rattle.std.specs.List.{AllByRecursion, take_while}
use Rattle.pol_blocks.specs.Blocks.{flat}
use Rattle.pol_locations.specs.Location.{parse_refusal, segments_of}
use Rattle.pol_objects.specs.Objects.{paths_behind}
use Rattle.pol_objects.proofs.Covered.{is_early}
use Rattle.pol_objects.proofs.object_map.push_below.Given as goal

-- the paths so far and those of the entries that are left and in the range, and the texts of all that are left are read
abbrev pub invariant-loop-entry : goal.invariant-loop-entry
invariant-loop-entry l =
    (vec_items l.paths ++ map (λ entry. segments_of entry.0) (take_while (is_early l.text) l.entry-iterator) ≡ vec_items l.fn.paths ++ paths_behind l.text (flat l.by_text))
    × AllByRecursion (λ entry. parse_refusal entry.0 ≡ None) l.entry-iterator
