use Rattle.std.proofs.Common.{◌≡◌, length}
use Rattle.pol_locations.specs.Location.{is_overlap}
use Rattle.pol_table_rows.specs.declared.row.TableRow.{TableRow}
use Rattle.pol_sound_access.specs.Judged.{all_differ}
use Rattle.pol_sound_content.proofs.placed.lie_apart.Given as goal

-- those that are left lie apart exactly where all do
abbrev pub invariant-loop-row : goal.invariant-loop-row
invariant-loop-row l =
    let clash : TableRow → TableRow → _ = λ left right. is_overlap left.location right.location in
    all_differ clash l.rest ≡ all_differ clash l.fn.rows

abbrev pub decreases-loop-row : goal.decreases-loop-row
decreases-loop-row l = length l.rest
