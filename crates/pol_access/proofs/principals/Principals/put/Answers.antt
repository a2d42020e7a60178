use Rattle.std.proofs.Common.{ap, ◌||◌, ◌∙◌}
use Rattle.pol_access.specs.Access.{principal_id}
use Rattle.pol_access.specs.Names.{client_number, text_number}
use Rattle.pol_tables.specs.Index.{is_noted, same_entry}
use Rattle.pol_tables.proofs.NamedLemmas.{AreNoted-put}
use Rattle.pol_access.proofs.principals.Principals.put.Goals as goal

pub invariant_of-self : goal.invariant_of-self
invariant_of-self c =
    rw c.put.ensures.rows (AreNoted-put principal_id client_number c.args.row c.self.inside.table.rows c.self.inside.clients c.forget_client.new.clients c.note.new.self c.self.invariant
    (λ noted differs. c.forget_client.ensures.others noted differs)
    (λ other. c.note.ensures.noted other ∙ (λ i. same_entry other (record { number = (c.text_number.ensures ∙ ap text_number c.as_str.ensures) i; id = c.args.row.id }) || is_noted other c.forget_client.new.clients)))
