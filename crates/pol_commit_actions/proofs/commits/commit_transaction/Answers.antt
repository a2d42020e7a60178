use Rattle.std.proofs.Common.{[], Some}
use Rattle.pol_commands.specs.declared.reply.Answer.TheVariants.{TransactionCommitted}
use Rattle.pol_commit_actions.specs.Commits.{rows_committed, tables_committed}
use Rattle.pol_commit_actions.proofs.CommitLemmas.{committing_stops}
use Rattle.pol_commit_actions.proofs.commits.commit_transaction.Goals as goal

pub returns-in_err-tables : goal.returns-in_err-tables
returns-in_err-tables c =
    let s = c.args.asked.now.state.now.rows in
    let command = c.args.asked.now.command.now in
    let name = c.args.name.now in
    let commits = c.args.commits.now in
    committing_stops s command [] (rows_committed s (tables_committed s command name commits)) (Some TransactionCommitted) c.in_err-tables.field-0.0 c.from_residual.result c.from_residual.ensures.1 name commits c.in_err-tables.ensures
