use Rattle.std.proofs.Common.{◌≡◌, ◌+◌, ◌∙◌, ◌++◌, length, ◌∷◌, [], ap, sym, subst, Some}
use Rattle.std.proofs.lemmas.List.{length_push, map-append}
use Rattle.std.proofs.lemmas.List.Elements.{All-push}
use Rattle.pol_table_rows.specs.Tables.{table_id}
use Rattle.pol_tables.specs.Table.{row_of}
use Rattle.pol_commit_actions.specs.Outcome.{CommitTo}
use Rattle.pol_commit_actions.specs.Replaced.{AreThere}
use Rattle.pol_commit_actions.specs.Seen.{commit_to, commits_to}
use Rattle.pol_commit_actions.proofs.LoopLemmas.{found-more, judging_tables, past}
use Rattle.pol_commit_actions.proofs.finding.tables_there.Goals as goal

pub loop-commit-preserved : goal.loop-commit-preserved
loop-commit-preserved c =
    let s = c.args.asked.now.state.now.rows in
    let catalog = c.args.catalog.now in
    let commits = c.args.commits.now in
    let commit = c.commit-item.result in
    let row = c.in_ok-row.row.now in
    let pushed = ap commits_to c.in_ok-push.ensures.items ∙ map-append commit_to c.loop-commit.targets.items _ in
    record {
      left = past _ _ (judging_tables s catalog) commits c.loop-commit.commit-index commit c.loop-commit-test.true c.commit-item.is c.in_ok-row.ensures.0
          ∙ c.loop-commit.invariant.left;
      found = pushed
          ∙ ap (λ found. found ++ record { row = row; commit = commit } ∷ []) c.loop-commit.invariant.found
          ∙ found-more s catalog commits c.loop-commit.commit-index commit row c.loop-commit-test.true c.commit-item.is c.in_ok-row.ensures.1.0;
      there = subst (AreThere s) (sym pushed) (All-push (λ (one : CommitTo). row_of table_id one.row.id s.content.tables ≡ Some one.row) (commits_to c.loop-commit.targets.items) (record { row = row; commit = commit }) c.loop-commit.invariant.there c.in_ok-row.ensures.1.1);
      count = ap length c.in_ok-push.ensures.items ∙ length_push c.loop-commit.targets.items _ ∙ ap (λ n. n + 1) c.loop-commit.invariant.count;
    }
