use Rattle.std.proofs.Common.{◌≡◌, ◌∙◌, Ok, ap, length, subst, sym}
use Rattle.std.proofs.lemmas.List.{length-map}
use Rattle.pol_rules.specs.Needs.{forbidden}
use Rattle.pol_rules.specs.Rules.{time_of}
use Rattle.pol_commit_actions.specs.Commits.{tables_committed}
use Rattle.pol_commit_actions.specs.Outcome.{all_committed, commit_outcome, refused_by}
use Rattle.pol_commit_actions.specs.Replaced.{AreReplaced}
use Rattle.pol_commit_actions.specs.Rules.{any_over_limit, bad_location_from, moved_onto, moved_outside, no_namespaces, no_tables, table_twice, write_needs}
use Rattle.pol_commit_actions.specs.Seen.{commit_to, committed_table, committed_tables, commits_to}
use Rattle.pol_commit_actions.proofs.CommitLemmas.{commits-are, inside-is, tables-are}
use Rattle.pol_commit_actions.proofs.MadeLemmas.{all-length}
use Rattle.pol_commit_actions.proofs.OutcomeLemmas.{made-length, outcome-made}
use Rattle.pol_commit_actions.proofs.commits.all_judged.Goals as goal

pub returns : goal.returns
returns c =
    let s = c.args.asked.now.state.now.rows in
    let command = c.args.asked.now.command.now in
    let name = c.args.name.now in
    let commits = c.args.commits.now in
    let catalog = c.in_ok-catalog.catalog.now in
    let is = c.in_ok-catalog.ensures.1.0 in
    let time = time_of s command in
    let targets = commits_to c.in_ok-targets.targets.items in
    let metas = c.in_ok-made.made.items in
    let found = commits-are s name commits catalog is targets c.in_ok-targets.ensures.1.0 in
    let made : commit_outcome time targets ≡ Ok metas =
    ap (λ all. commit_outcome time (commits_to all)) (sym c.as_slice-2.ensures.value) ∙ c.in_ok-made.ensures.1 in
    let are = tables-are s command name commits targets metas found made in
    let seen = c.in_ok-tables.ensures.1.0 ∙ ap (λ all. all_committed (commits_to all) metas) c.as_slice-3.ensures.value in
    let tables = seen ∙ sym are in
    let placed = are ∙ ap (λ all. all_committed (commits_to all) metas) (sym c.as_slice-3.ensures.value) in
    let paired = made-length time 0 targets metas (outcome-made time targets metas made).1 in
    let count = sym (length-map c.in_ok-tables.tables.items committed_table) ∙ ap length seen ∙ all-length targets metas (sym paired) ∙ paired ∙ length-map c.in_ok-targets.targets.items commit_to ∙ c.in_ok-targets.ensures.1.2 in (
      (
        c.in_ok-signed_in.ensures.0,
        (
          c.in_ok-catalog.ensures.0,
          (
            inside-is s name commits catalog is (λ one. forbidden s command (write_needs s commits one)) ∙ c.in_ok-allowed_on_each.ensures.0,
            (
              inside-is s name commits catalog is (no_namespaces s commits) ∙ c.in_ok-namespaces_there.ensures.0,
              (
                inside-is s name commits catalog is (no_tables s commits) ∙ c.in_ok-targets.ensures.0,
                (
                  ap table_twice (found ∙ ap commits_to (sym c.as_slice.ensures.value)) ∙ c.in_ok-named_once.ensures.0,
                  (
                    ap (λ all. refused_by (commit_outcome time all)) found ∙ ap refused_by made,
                    (
                      ap (bad_location_from 0) placed ∙ c.in_ok-tables.ensures.0,
                      (
                        inside-is s name commits catalog is (moved_outside (tables_committed s command name commits)) ∙ ap (λ all. moved_outside all catalog) (sym tables ∙ ap committed_tables (sym c.as_slice-4.ensures.value)) ∙ c.in_ok-all_inside.ensures.0,
                        (
                          ap (moved_onto s) (sym tables ∙ ap committed_tables (sym c.as_slice-5.ensures.value)) ∙ c.in_ok-all_apart.ensures.0,
                          (
                            c.in_ok-all_served.ensures.0,
                            (
                              c.in_ok-within.ensures.0,
                              (ap any_over_limit (sym tables ∙ ap committed_tables (sym c.as_slice-6.ensures.value)) ∙ c.in_ok-all_within.ensures.0, tt),
                            ),
                          ),
                        ),
                      ),
                    ),
                  ),
                ),
              ),
            ),
          ),
        ),
      ),
      (tables, count, subst (AreReplaced s) (sym c.in_ok-tables.ensures.1.0) c.in_ok-tables.ensures.1.1),
    )
