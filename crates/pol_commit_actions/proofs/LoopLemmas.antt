-- Loops that judge one of several after the other: what is left of them tells what all do.
use Rattle.std.proofs.Common.{◌≡◌, ℕ, ◌+◌, ◌<◌, ◌≤◌, Bool, true, false, not, cond, ◌||◌, nat_eq, nat_lt, List, [], ◌∷◌, ◌++◌, map, flat_map, drop, take, get_or, length, Option, None, Some, refl, sym, ap, ◌∙◌, arith}
use Rattle.std.specs.List.{filter_map, fold, list_any, position_or_len}
use Rattle.std.proofs.lemmas.List.Elements.{filter_map-append}
use Rattle.pol_content.specs.Chain.{table_at}
use Rattle.std.specs.Option.{option_map, option_or}
use Rattle.std.proofs.lemmas.Bool.{le-ltb, lt-ltb, ltb-false, ltb-true}
use Rattle.std.proofs.lemmas.List.Sums.{fold-append}
use Rattle.std.proofs.lemmas.List.{at_drop_all, at_drop_more, length-map, length-take-le, map-append, take_all, take_more}
use Rattle.pol_commands.specs.declared.commit.Commit.{Commit}
use Rattle.pol_commands.specs.declared.reply.Refusal.{Refusal}
use Rattle.pol_commands.specs.declared.reply.Refusal.TheVariants.{RequirementFailed, TableTwice}
use Rattle.pol_content.specs.declared.rows.CatalogRow.{CatalogRow}
use Rattle.pol_state.specs.Bounds.{first_refusal, table_over_limit}
use Rattle.pol_state.specs.Rows.{Rows}
use Rattle.pol_rules.specs.Rules.{no_namespace}
use Rattle.pol_rules.specs.TableRules.{location_outside, no_table}
pub use Rattle.pol_rules.proofs.JudgingLemmas.{Judging, first-step, over, past, stops}
use Rattle.pol_rules.proofs.RulesLemmas.{first-joined}
use Rattle.pol_table_rows.specs.declared.row.TableRow.{TableRow}
use Rattle.pol_commit_actions.specs.Outcome.{CommitTo, CommittedTable, is_moved, moved, rows_after, tables_left, unmet_from, unmet_in}
use Rattle.pol_commit_actions.specs.Overlaps.{least_over, lesser_over}
use Rattle.pol_commit_actions.specs.Rules.{any_over_limit, any_unserved, commit_at, commits_at, moved_onto, moved_outside, no_namespaces, no_tables, overlap_among, twice_after, unserved}
use Rattle.pol_commit_actions.specs.Seen.{commit_to, commits_to, committed_table, committed_tables}
use Rattle.pol_commit_actions.specs.declared.target.Committed.{Committed}
use Rattle.pol_commit_actions.specs.declared.target.Target.{Target}

-- commits on the tables of a state
module _ (s : Rows) (catalog : CatalogRow) where
  pub judging_namespaces : Judging (λ i commits. no_namespaces s commits catalog) (λ i (commit : Commit). no_namespace s catalog.id commit.identifier.namespace)
  unfolding no_namespaces
  judging_namespaces = record {
    step = λ i commit commits. first-step (no_namespace s catalog.id commit.identifier.namespace) (map (λ (one : Commit). no_namespace s catalog.id one.identifier.namespace) commits);
    none = λ i. refl;
  }

  pub judging_tables : Judging (λ i commits. no_tables s commits catalog) (λ i (commit : Commit). no_table s commit.identifier catalog)
  unfolding no_tables
  judging_tables = record {
    step = λ i commit commits. first-step (no_table s commit.identifier catalog) (map (λ (one : Commit). no_table s one.identifier catalog) commits);
    none = λ i. refl;
  }

-- updates that aren't served
pub judging_updates : Judging (λ i updates. first_refusal (map unserved updates)) (λ i update. unserved update)
judging_updates =
    record { step = λ i update updates. first-step (unserved update) (map unserved updates); none = λ i. refl }

pub judging_unserved : Judging (λ i commits. any_unserved commits) (λ i (commit : Commit). first_refusal (map unserved commit.updates))
unfolding any_unserved
judging_unserved = record {
  step = λ i commit commits.
      ap first_refusal (map-append unserved commit.updates (flat_map (λ (one : Commit). one.updates) commits))
      ∙ first-joined (map unserved commit.updates) (map unserved (flat_map (λ (one : Commit). one.updates) commits));
  none = λ i. refl;
}

-- requirements that aren't met
pub judging_unmet : Judging (λ i targets. unmet_from i (commits_to targets)) (λ i target. option_map (RequirementFailed i) (unmet_in (commit_to target)))
unfolding unmet_from
judging_unmet = record { step = λ i target targets. refl; none = λ i. refl }

-- tables after their commits
pub judging_limits : Judging (λ i tables. any_over_limit (committed_tables tables)) (λ i (table : Committed). table_over_limit table.after)
unfolding any_over_limit
judging_limits = record {
  step = λ i table tables. first-step (table_over_limit table.after) (map (λ (one : CommittedTable). table_over_limit one.after) (committed_tables tables));
  none = λ i. refl;
}

module _ (rule : TableRow → Option Refusal) where
  -- a rule on those that are moved
  abbrev pub moved_rules : List Committed → Option Refusal
  moved_rules tables = first_refusal (map (λ (one : CommittedTable). rule one.after) (moved (committed_tables tables)))

  abbrev pub moved_rule : Committed → Option Refusal
  moved_rule table = cond (is_moved (committed_table table)) (rule table.after) None

  pub judging_moved : Judging (λ i tables. moved_rules tables) (λ i table. moved_rule table)
  judging_moved = record { step = λ i table tables. by table (moved (committed_tables tables)) (is_moved (committed_table table)); none = λ i. refl }
    where
      by : (table : Committed) (others : List CommittedTable) (b : Bool) → first_refusal (map (λ (one : CommittedTable). rule one.after) (cond b (committed_table table ∷ others) others)) ≡ option_or (cond b (rule table.after) None) (first_refusal (map (λ (one : CommittedTable). rule one.after) others))
      by table others true = first-step (rule table.after) (map (λ (one : CommittedTable). rule one.after) others)
      by table others false = refl

pub judging_outside : (catalog : CatalogRow) → Judging (λ i tables. moved_outside (committed_tables tables) catalog) (λ i table. moved_rule (λ row. location_outside row.location catalog) table)
unfolding moved_outside
judging_outside catalog = judging_moved (λ row. location_outside row.location catalog)

-- the tables that are moved onto others, of some, where all of these are committed to
abbrev pub onto_of : Rows → List Committed → List Committed → Option Refusal
onto_of s all tables = moved_rules (overlap_among (tables_left (rows_after (committed_tables all)) s.content.tables)) tables

pub onto_all : (s : Rows) (all : List Committed) → onto_of s all all ≡ moved_onto s (committed_tables all)
unfolding moved_onto
onto_all s all = refl

-- the ids of tables that are named
abbrev pub ids_to : List Target → List ℕ
ids_to targets = map (λ (one : CommitTo). one.row.id) (commits_to targets)

place-there : (test : ℕ → Bool) (ids : List ℕ) → nat_lt (position_or_len test ids) (length ids) ≡ list_any test ids
place-there test [] = refl
place-there test (id ∷ ids) = by (test id) (place-there test ids)
  where
    by : (b : Bool) → nat_lt (position_or_len test ids) (length ids) ≡ list_any test ids → nat_lt (cond (not b) (1 + position_or_len test ids) 0) (length (id ∷ ids)) ≡ (b || list_any test ids)
    by true rest = lt-ltb 0 (length (id ∷ ids)) (omega arith)
    by false rest = both (nat_lt (position_or_len test ids) (length ids)) refl ∙ rest
      where
        both : (b : Bool) → nat_lt (position_or_len test ids) (length ids) ≡ b → nat_lt (1 + position_or_len test ids) (length (id ∷ ids)) ≡ nat_lt (position_or_len test ids) (length ids)
        both true is = lt-ltb (1 + position_or_len test ids) (length (id ∷ ids)) (let below = ltb-true (position_or_len test ids) (length ids) is in omega (arith, below)) ∙ sym is
        both false is = le-ltb (1 + position_or_len test ids) (length (id ∷ ids)) (let below = ltb-false (position_or_len test ids) (length ids) is in omega (arith, below)) ∙ sym is

module _ (targets : List Target) where
  abbrev pub ids_before : ℕ → List ℕ
  ids_before i = ids_to (take i targets)

  abbrev pub twice_left : ℕ → Option Refusal
  twice_left i = twice_after (ids_before i) (ids_to (drop i targets))

  one-left : (i : ℕ) (target : Target) (known : Bool) → i < length targets → target ≡ get_or targets i target → list_any (nat_eq target.row.now.id) (ids_before i) ≡ known
      → twice_left i ≡ option_or (option_map (λ first. TableTwice first (length (ids_before i))) (cond known (Some (position_or_len (nat_eq target.row.now.id) (ids_before i))) None)) (twice_after (ids_before i ++ target.row.now.id ∷ []) (ids_to (drop (i + 1) targets)))
  unfolding twice_after
  one-left i target known inside is has =
      at_drop_more (λ rest. twice_after (ids_before i) (ids_to rest)) targets i target inside
      ∙ ap (λ (one : Target). twice_after (ids_before i) (one.row.now.id ∷ ids_to (drop (i + 1) targets))) (sym is)
      ∙ ap (λ b. option_or (option_map (λ first. TableTwice first (length (ids_before i))) (cond b (Some (position_or_len (nat_eq target.row.now.id) (ids_before i))) None)) (twice_after (ids_before i ++ target.row.now.id ∷ []) (ids_to (drop (i + 1) targets)))) (place-there (nat_eq target.row.now.id) (ids_before i) ∙ has)

  pub ids-more : (i : ℕ) (target : Target) → i < length targets → target ≡ get_or targets i target → ids_before (i + 1) ≡ ids_before i ++ target.row.now.id ∷ []
  ids-more i target inside is =
      ap ids_to (take_more targets i target inside ∙ ap (λ one. take i targets ++ one ∷ []) (sym is))
      ∙ ap (map (λ (one : CommitTo). one.row.id)) (map-append commit_to (take i targets) (target ∷ []))
      ∙ map-append (λ (one : CommitTo). one.row.id) (commits_to (take i targets)) (commit_to target ∷ [])

  pub twice-new : (i : ℕ) (target : Target) → i < length targets → target ≡ get_or targets i target → list_any (nat_eq target.row.now.id) (ids_before i) ≡ false → twice_left (i + 1) ≡ twice_left i
  twice-new i target inside is has =
      ap (λ before. twice_after before (ids_to (drop (i + 1) targets))) (ids-more i target inside is) ∙ sym (one-left i target false inside is has)

  pub twice-named : (i : ℕ) (target : Target) → i < length targets → target ≡ get_or targets i target → list_any (nat_eq target.row.now.id) (ids_before i) ≡ true
      → twice_left i ≡ Some (TableTwice (position_or_len (nat_eq target.row.now.id) (ids_before i)) i)
  twice-named i target inside is has =
      one-left i target true inside is has
      ∙ ap (λ count. Some (TableTwice (position_or_len (nat_eq target.row.now.id) (ids_before i)) count)) (length-map (commits_to (take i targets)) (λ (one : CommitTo). one.row.id) ∙ length-map (take i targets) commit_to ∙ length-take-le i targets (omega (arith, inside)))

  pub twice-over : (i : ℕ) → length targets ≤ i → twice_left i ≡ None
  unfolding twice_after
  twice-over i few = at_drop_all (λ rest. twice_after (ids_before i) (ids_to rest)) targets i few

  pub ids-all : (i : ℕ) → length targets ≤ i → ids_before i ≡ ids_to targets
  ids-all i few = ap ids_to (take_all i targets few)

-- the least of tables that overlap another one, with one more of them
pub least-none : (row : TableRow) → least_over row [] ≡ None
unfolding least_over
least-none row = refl

pub least-more : (row : TableRow) (tables : List Committed) (i : ℕ) (table : Committed) → i < length tables → table ≡ get_or tables i table
    → lesser_over row (least_over row (rows_after (committed_tables (take i tables)))) table.after ≡ least_over row (rows_after (committed_tables (take (i + 1) tables)))
unfolding least_over
least-more row tables i table inside is =
    sym (ap (λ some. fold (lesser_over row) None (rows_after (committed_tables some))) (take_more tables i table inside ∙ ap (λ one. take i tables ++ one ∷ []) (sym is))
    ∙ ap (λ some. fold (lesser_over row) None (rows_after some)) (map-append committed_table (take i tables) (table ∷ []))
    ∙ ap (fold (lesser_over row) None) (map-append (λ (one : CommittedTable). one.after) (committed_tables (take i tables)) (committed_table table ∷ []))
    ∙ fold-append (lesser_over row) None (rows_after (committed_tables (take i tables))) (table.after ∷ []))

pub least-all : (row : TableRow) (tables : List Committed) (i : ℕ) → length tables ≤ i → least_over row (rows_after (committed_tables (take i tables))) ≡ least_over row (rows_after (committed_tables tables))
least-all row tables i few = ap (λ some. least_over row (rows_after (committed_tables some))) (take_all i tables few)

-- one more commit whose table is there
pub found-more : (s : Rows) (catalog : CatalogRow) (commits : List Commit) (i : ℕ) (commit : Commit) (row : TableRow) → i < length commits → commit ≡ get_or commits i commit → table_at catalog.id commit.identifier.namespace commit.identifier.name s.content ≡ Some row
    → commits_at s (take i commits) catalog ++ record { row = row; commit = commit } ∷ [] ≡ commits_at s (take (i + 1) commits) catalog
unfolding commits_at
found-more s catalog commits i commit row inside is at =
    ap (λ more. filter_map (commit_at s catalog) (take i commits) ++ more) (sym (one (ap (option_map (λ found. record { row = found; commit = commit })) at)))
    ∙ sym (ap (filter_map (commit_at s catalog)) (take_more commits i commit inside ∙ ap (λ next. take i commits ++ next ∷ []) (sym is)) ∙ filter_map-append (commit_at s catalog) (take i commits) (commit ∷ []))
  where
    one : commit_at s catalog commit ≡ Some (record { row = row; commit = commit }) → filter_map (commit_at s catalog) (commit ∷ []) ≡ record { row = row; commit = commit } ∷ []
    one is = rw is refl
