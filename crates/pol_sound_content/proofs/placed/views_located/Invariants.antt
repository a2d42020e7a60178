use Rattle.std.proofs.Common.{◌≡◌}
use Rattle.std.specs.List.{list_all}
use Rattle.pol_sound_content.specs.Judged.{is_located}
use Rattle.pol_sound_content.proofs.placed.views_located.Given as goal

-- those that are left pass exactly where all do
abbrev pub invariant-loop-row : goal.invariant-loop-row
invariant-loop-row l = list_all (is_located) l.row-iterator ≡ list_all (is_located) l.fn.rows
