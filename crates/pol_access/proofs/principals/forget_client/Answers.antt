use Rattle.std.proofs.Common.{not, ap, ◌&&◌, ◌∙◌}
use Rattle.pol_tables.specs.Index.{is_noted}
use Rattle.pol_tables.specs.contracts.index.IndexEntry.{the_row}
use Rattle.pol_tables.specs.declared.index.IndexEntry.{IndexEntry}
use Rattle.pol_tables.proofs.SameLemmas.{same-differ}
use Rattle.pol_access.proofs.principals.forget_client.Goals as goal

pub returns-in-Some-clause-others : goal.returns-in-Some-clause-others
returns-in-Some-clause-others c noted differs =
    let gone : IndexEntry = record { number = c.text_number.result; id = c.args.id } in
    c.forget.ensures.noted noted ∙ ap (λ b. not b && is_noted noted c.args.clients.now) (same-differ the_row.coded noted gone (λ is. differs (ap (λ (kept : IndexEntry). kept.id) is)))
