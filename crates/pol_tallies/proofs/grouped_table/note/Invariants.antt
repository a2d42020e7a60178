use Rattle.std.proofs.Common.{◌≡◌, ◌≤◌, ◌+◌, ℕ, take}
use Rattle.pol_tallies.specs.Grouped.{times}
use Rattle.pol_tallies.specs.Tally.{count_of}
use Rattle.pol_tallies.proofs.grouped_table.note.Given as goal

abbrev pub invariant-loop-place : goal.invariant-loop-place
invariant-loop-place g l = record {
  counts : (group : ℕ) → count_of group l.tally ≡ count_of group l.fn.tally + times group (take l.place (g.R.Grouped.groups l.row));
  room : l.fn.tally.room ≤ l.tally.room + l.place;
}
