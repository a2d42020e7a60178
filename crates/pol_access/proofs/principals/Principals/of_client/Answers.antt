use Rattle.std.proofs.Common.{ap, sym}
use Rattle.std.specs.Cmp.Lexicographic.{same_text}
use Rattle.std.specs.Option.{option_copied}
use Rattle.pol_access.specs.Access.{principal_id}
use Rattle.pol_access.specs.Names.{client_number, has_client_id, text_number}
use Rattle.pol_tables.proofs.NamedLemmas.{Finds-none, FindsOr-weaken}
use Rattle.pol_access.proofs.principals.Principals.of_client.Goals as goal

pub returns-in-None : goal.returns-in-None
returns-in-None c =
    let test = has_client_id c.args.client_id.now in
    let none = Finds-none principal_id client_number test c.self.inside.table.rows c.self.inside.clients (text_number c.args.client_id.now) (λ row same. ap text_number (sym (same_text c.args.client_id.now row.client_id (sym same)))) c.rows-rows.ensures.differ c.first_client.ensures.differ c.self.invariant c.in-None.ensures.found in
    rw (← c.self.view_is) (FindsOr-weaken principal_id test _ _ c.self.inside.table.rows (option_copied c.other_client.result) none (rw c.others.ensures at c.other_client.ensures))
