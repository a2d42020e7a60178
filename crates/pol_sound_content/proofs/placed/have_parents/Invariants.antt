use Rattle.std.proofs.Common.{◌≡◌}
use Rattle.std.specs.List.{list_all}
use Rattle.pol_sound_content.specs.Judged.{has_parent}
use Rattle.pol_sound_content.proofs.placed.have_parents.Given as goal

-- those that are left pass exactly where all do
abbrev pub invariant-loop-row : goal.invariant-loop-row
invariant-loop-row l = list_all (has_parent l.content.rows) l.row-iterator ≡ list_all (has_parent l.content.rows) l.content.rows.namespaces
