use Rattle.std.proofs.Common.{[], ◌∷◌, Err, subst}
use Rattle.std.specs.Bool.{⊤}
use Rattle.pol_rules.specs.Judged.{Enters}
use Rattle.pol_commit_actions.specs.Commits.{answer_first, committing, rows_committed, tables_committed}
use Rattle.pol_commit_actions.proofs.CommitLemmas.{committing_stops}
use Rattle.pol_commit_actions.proofs.commits.commit_table.Goals as goal

pub returns-in_err-tables : goal.returns-in_err-tables
returns-in_err-tables c =
    let s = c.args.asked.now.state.now.rows in
    let command = c.args.asked.now.command.now in
    let name = c.args.name.now in
    let commit = c.args.commit.now in
    committing_stops s command [] (rows_committed s (tables_committed s command name (commit ∷ []))) (answer_first (tables_committed s command name (commit ∷ []))) c.in_err-tables.field-0.0 c.from_residual.result c.from_residual.ensures.1 c.args.name.now (c.args.commit.now ∷ [])
    (subst (λ commits. Enters {T = ⊤} (committing s command c.args.name.now commits) (λ _. ⊤) (Err c.in_err-tables.field-0.0)) c.from_ref.ensures.value c.in_err-tables.ensures)
