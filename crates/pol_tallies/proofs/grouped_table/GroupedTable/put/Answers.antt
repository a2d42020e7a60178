use Rattle.std.proofs.Common.{◌-◌, ◌<◌, ℕ, ap, arith, ◌∙◌}
use Rattle.pol_tables.specs.Table.{row_of}
use Rattle.pol_tallies.specs.Grouped.{times_of}
use Rattle.pol_tallies.specs.Tally.{count_of}
use Rattle.pol_tallies.proofs.GroupedLemmas.{one_fewer, tallied_fits, tallied_put}
use Rattle.pol_tallies.proofs.grouped_table.GroupedTable.put.Goals as goal

pub note-requires-clause-place : goal.note-requires-clause-place
note-requires-clause-place g c =
    let some : 0 < c.self.inside.spare = omega (arith, rw (← c.self.view_is) at c.requires) in
    omega (arith, one_fewer c.self.inside.spare g.R.Grouped.MOST some, c.self.invariant.1, c.forget_known.ensures.room)

pub note-requires-clause-fits : goal.note-requires-clause-fits
note-requires-clause-fits g c group =
    let fits = tallied_fits g.R.Grouped.groups g.R.Grouped.MOST c.self.inside.table.rows c.self.inside.tally group c.self.invariant.0 (omega (arith, c.len-length.ensures)) (omega (arith, c.MOST-most.ensures)) in
    omega (arith, fits, c.forget_known.ensures.counts group)

pub invariant_of-self : goal.invariant_of-self
invariant_of-self g c =
    let some : 0 < c.self.inside.spare = omega (arith, rw (← c.self.view_is) at c.requires) in (
      rw c.put.ensures.rows (tallied_put g.R.Keyed.key g.R.Grouped.groups g.R.Grouped.MOST c.args.row c.self.inside.table.rows c.self.inside.tally c.forget_known.new.tally c.note.new.tally c.forget_known.ensures.differ c.self.invariant.0 c.note.ensures.few
          (λ group. c.forget_known.ensures.counts group ∙ ap (λ (id : ℕ). count_of group c.self.inside.tally - times_of g.R.Grouped.groups group (row_of g.R.Keyed.key id c.self.inside.table.rows)) c.key.ensures)
          c.note.ensures.counts),
      omega (arith, one_fewer c.self.inside.spare g.R.Grouped.MOST some, c.self.invariant.1, c.forget_known.ensures.room, c.note.ensures.room),
    )
