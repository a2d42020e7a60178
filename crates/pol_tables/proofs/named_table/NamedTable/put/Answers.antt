use Rattle.std.proofs.Common.{◌||◌, ◌∙◌}
use Rattle.pol_tables.specs.Index.{is_noted, same_entry}
use Rattle.pol_tables.proofs.NamedLemmas.{AreNoted-put}
use Rattle.pol_tables.proofs.named_table.NamedTable.put.Goals as goal

pub invariant_of-self : goal.invariant_of-self
invariant_of-self g c =
    rw c.put.ensures.rows (AreNoted-put g.R.Keyed.key g.R.Named.number c.args.row c.self.inside.table.rows c.self.inside.index c.forget.new.index c.note.new.self c.self.invariant
    (λ noted differs. c.forget.ensures.others noted (λ is. differs (is ∙ c.key-id.ensures)))
    (λ other. c.note.ensures.noted other ∙ (λ i. same_entry other (record { number = c.number.ensures i; id = c.key-id.ensures i }) || is_noted other c.forget.new.index)))
