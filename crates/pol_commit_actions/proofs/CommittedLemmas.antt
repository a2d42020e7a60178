-- The rows once commits are done are orderly.
use Rattle.std.proofs.Common.{◌≡◌, ℕ, ◌+◌, Bool, true, false, not, List, [], ◌∷◌, map, Option, None, Some, Result, Ok, Err, option_and_then, refl, sym, ap, subst, ◌∙◌, inl, inr, arith}
use Rattle.std.specs.Prelude.{◌⊎◌}
use Rattle.std.specs.List.{list_any, AllByRecursion}
use Rattle.std.specs.Option.{option_map}
use Rattle.std.proofs.lemmas.Bool.{eq-eqb}
use Rattle.pol_commands.specs.declared.command.Command.{Command}
use Rattle.pol_commands.specs.declared.commit.Commit.{Commit}
use Rattle.pol_commands.specs.declared.reply.Refusal.{Refusal}
use Rattle.pol_commands.specs.declared.reply.Refusal.TheVariants.{BadLocation}
use Rattle.pol_content.specs.Chain.{table_at}
use Rattle.pol_content.specs.Content.{catalog_named, namespace_id}
use Rattle.pol_content.specs.Ties.{catalog_of_namespace}
use Rattle.pol_content.specs.declared.rows.CatalogRow.{CatalogRow}
use Rattle.pol_content.proofs.SoundLemmas as content
use Rattle.pol_content.proofs.TiedContentLemmas as ties
use Rattle.pol_locations.specs.declared.refused.LocationRefused.{LocationRefused}
use Rattle.pol_meta.specs.Valid.{IsLong}
use Rattle.pol_meta.specs.declared.metadata.TableMetadata.{TableMetadata}
use Rattle.pol_state.specs.Bounds.{EachPasses}
use Rattle.pol_state.specs.Rows.{Rows}
use Rattle.pol_state.specs.Sound.{IsOrderly, IsSound}
use Rattle.pol_rules.specs.Acting.{stamped}
use Rattle.pol_rules.specs.Prologues.{table_row_at}
use Rattle.pol_rules.specs.Rules.{time_of}
use Rattle.pol_rules.proofs.FitLemmas.{fit-altered, MovesOn}
use Rattle.pol_rules.proofs.FoundLemmas.{found-holds}
use Rattle.pol_rules.proofs.RulesLemmas.{none-either}
use Rattle.pol_rules.proofs.SoundLemmas.{tables-orderly, IsWithin}
use Rattle.pol_table_actions.proofs.ActionLemmas.{table-own}
use Rattle.pol_table_rows.specs.Sound.{IsSoundTable}
use Rattle.pol_table_rows.specs.Tables.{is_table_named, table_id}
use Rattle.pol_table_rows.specs.declared.row.TableRow.{TableRow}
use Rattle.pol_tables.specs.Table.{has_id, knows, row_of, IdsDiffer}
use Rattle.pol_tables.proofs.ListLemmas.{each-join, each-map, each-weaken}
use Rattle.pol_tables.proofs.NamedLemmas.{each-own}
use Rattle.pol_tables.proofs.RisingLemmas.{IdsDiffer-rising}
use Rattle.pol_commit_actions.specs.Commits.{commits_found, commits_in, committing, rows_committed, tables_committed}
use Rattle.pol_commit_actions.specs.Outcome.{CommitTo, CommittedTable, all_committed, commit_outcome, committed, committed_by, is_moved, left_as, made_from, made_in, refused_by, rows_after, tables_left, told_at}
use Rattle.pol_commit_actions.specs.Rules.{bad_location_from, commits_at, misplaced, moved_onto, overlap_among}
use Rattle.pol_commit_actions.proofs.LeftLemmas.{IsAlike, IsPlaced, Spot, apart-rows, each-passed, left-holds, names-differ, none-named}
use Rattle.pol_commit_actions.proofs.OutcomeLemmas.{both-made, outcome-made, told-made}
use Rattle.pol_commit_actions.proofs.SingleLemmas.{IsKept, committed-kept}
use Rattle.pol_commit_actions.proofs.SortedLemmas.{left-id}

well-placed : (table : ℕ) (found : Option LocationRefused) → option_map (BadLocation table) found ≡ None → found ≡ None
well-placed table None none = refl
well-placed table (Some why) none = let contrary : Some (BadLocation table why) ≡ None = none in cc

not-refused : {A : Type 0} (outcome : Result A Refusal) → refused_by outcome ≡ None → (made : A) × (outcome ≡ Ok made)
not-refused (Ok made) none = (made, refl)
not-refused (Err why) none = let contrary : Some why ≡ None = none in cc

-- the tables are those of the state, and sound by themselves
abbrev IsThere : Rows → CommitTo → Type 0
IsThere s one = (row_of table_id one.row.id s.content.tables ≡ Some one.row) × IsSoundTable one.row

-- each table after its commit
kept-all : (s : Rows) (time table : ℕ) (commits : List CommitTo) (metas : List TableMetadata) → IsLong time → AllByRecursion (IsThere s) commits → made_from time table commits ≡ Ok metas
    → bad_location_from table (all_committed commits metas) ≡ None → AllByRecursion (IsKept s) (all_committed commits metas)
unfolding made_from all_committed bad_location_from
kept-all s time table [] metas within there told passes = tt
kept-all s time table (one ∷ others) [] within there told passes = tt
kept-all s time table (one ∷ others) (made ∷ metas) within there told passes =
    let parts = both-made (told_at table (made_in time one)) (made_from time (table + 1) others) (made ∷ metas) told in
    let first : parts.0 ≡ made = let both = parts.4 in cc in
    let rest : parts.1 ≡ metas = let both = parts.4 in cc in
    let rules = none-either (option_map (BadLocation table) (misplaced (is_moved (committed one made)) made.location)) (bad_location_from (table + 1) (all_committed others metas)) passes in (
      committed-kept s time one made within there.0.0 there.0.1 (told-made table (made_in time one) made (parts.2 ∙ ap Ok first)) (well-placed table (misplaced (is_moved (committed one made)) made.location) rules.0),
      kept-all s time (table + 1) others metas within there.1 (parts.3 ∙ ap Ok rest) rules.1,
    )

module _ (s : Rows) (command : Command) (sound : IsSound s) where
  tables-differ : IdsDiffer table_id s.content.tables
  tables-differ = IdsDiffer-rising table_id s.content.tables sound.orderly.content.tables.numbered.rise

  tables-own : AllByRecursion (λ row. row_of table_id row.id s.content.tables ≡ Some row) s.content.tables
  tables-own = each-own table_id s.content.tables tables-differ

  -- each commit's table is there
  commits-there : (name : List ℕ) (catalog : CatalogRow) → catalog_named name s.content ≡ Some catalog → (commits : List Commit) → AllByRecursion (IsThere s) (commits_at s commits catalog)
  unfolding commits_at table_row_at
  commits-there name catalog is [] = tt
  commits-there name catalog is (commit ∷ commits) = by (table_at catalog.id commit.identifier.namespace commit.identifier.name s.content) refl (commits-there name catalog is commits)
    where
      by : (found : Option TableRow) → table_at catalog.id commit.identifier.namespace commit.identifier.name s.content ≡ found → AllByRecursion (IsThere s) (commits_at s commits catalog) → AllByRecursion (IsThere s) (commits_at s (commit ∷ commits) catalog)
      by None at rest = rw at rest
      by (Some row) at rest =
          let own = table-own s command sound name commit.identifier row (ap (option_and_then (λ (one : CatalogRow). table_at one.id commit.identifier.namespace commit.identifier.name s.content)) is ∙ at) in
          let itself = found-holds IsSoundTable (has_id table_id row.id) s.content.tables row sound.orderly.content.tables.each own in
          rw at ((own, itself), rest)

  all-there : (name : List ℕ) (commits : List Commit) → AllByRecursion (IsThere s) (commits_in s name commits)
  unfolding commits_in
  all-there name commits = by (catalog_named name s.content) refl
    where
      by : (found : Option CatalogRow) → catalog_named name s.content ≡ found → AllByRecursion (IsThere s) (commits_found s commits found)
      by None is = tt
      by (Some catalog) is = commits-there name catalog is commits

  module _ (within : IsWithin s command) where
    -- tables after their commits, which overlap no others where they are moved
    orderly-left : (tables : List CommittedTable) → AllByRecursion (IsKept s) tables → moved_onto s tables ≡ None → IsOrderly (stamped s command (rows_committed s tables))
    unfolding tables_left moved_onto
    orderly-left tables kept onto =
        let alter : TableRow → TableRow = left_as (rows_after tables) in
        let rows = s.content.tables in
        let after = map alter rows in
        let ids = left-id (rows_after tables) in
        let placed = each-join (IsKept s) (λ (one : CommittedTable). is_moved one ≡ true → overlap_among after one.after ≡ None) (IsPlaced s after) tables (λ one keeps clear. record { kept = keeps; clear = clear }) kept (each-passed is_moved (λ (one : CommittedTable). overlap_among after one.after) tables onto) in
        let alike = each-weaken (λ row. row_of table_id row.id rows ≡ Some row) (IsAlike alter) rows (λ row own.
        let both = left-holds s after tables (λ (one : TableRow). (one.namespace ≡ row.namespace) × (one.name ≡ row.name)) row placed own (refl, refl) (λ one at is. (at.kept.namespace ∙ ap (λ (before : TableRow). before.namespace) is, at.kept.name ∙ ap (λ (before : TableRow). before.name) is)) in
        record { namespace = both.0; name = both.1 }) tables-own in
        let namespaces = each-map (λ one. knows namespace_id one.namespace s.content.namespaces ≡ true) alter rows (each-join (IsAlike alter) (λ row. knows namespace_id row.namespace s.content.namespaces ≡ true) (λ row. knows namespace_id (alter row).namespace s.content.namespaces ≡ true) rows (λ row like known. ap (λ id. knows namespace_id id s.content.namespaces) like.namespace ∙ known) alike sound.orderly.content.tables.namespaces) in
        let each = each-map IsSoundTable alter rows (each-join (λ row. row_of table_id row.id rows ≡ Some row) IsSoundTable (λ row. IsSoundTable (alter row)) rows (λ row own itself. left-holds s after tables IsSoundTable row placed own itself (λ one at is. at.kept.sound)) tables-own sound.orderly.content.tables.each) in
        let spots = each-weaken (λ row. row_of table_id row.id rows ≡ Some row) (Spot alter after) rows (λ row own. left-holds s after tables (λ (one : TableRow). (one.location ≡ row.location) ⊎ (overlap_among after one ≡ None)) row placed own (inl refl) (λ one at is. spot after row one at is (is_moved one) refl)) tables-own in
        let on = each-weaken (λ row. row_of table_id row.id rows ≡ Some row) (λ row. MovesOn row (alter row)) rows (λ row own. left-holds s after tables (MovesOn row) row placed own (record { moves = omega arith; stays = λ same. refl }) (λ one at is. moved-on row one at.kept is)) tables-own in
        tables-orderly s command s.access (record s.content { tables = after }) s.next_id sound within (omega arith) sound.orderly.access
        (content.altered_tables s.next_id s.content alter ids (names-differ alter rows alike sound.orderly.content.tables.names_differ) namespaces (apart-rows alter ids after rows (λ P all. all) spots tables-differ sound.orderly.content.tables.apart) each (each-weaken (λ view. list_any (is_table_named view.namespace view.name) rows ≡ false) (λ view. list_any (is_table_named view.namespace view.name) after ≡ false) s.content.views (λ view none. none-named alter view.namespace view.name rows alike ∙ none) sound.orderly.content.views.names_apart) sound.orderly.content)
        (ties.altered_tables s.access s.content sound.orderly.ties alter ids (λ id row found.
        ap (λ namespace. catalog_of_namespace namespace s.content) (found-holds (IsAlike alter) (has_id table_id id) rows row alike found).namespace))
        (fit-altered s sound alter ids on)
      where
        moved-on : (row : TableRow) (one : CommittedTable) → IsKept s one → one.before ≡ row → MovesOn row one.after
        moved-on row one kept is = subst (λ before. MovesOn before one.after) is (record {
          moves = kept.grows;
          stays = λ same. kept.stays (ap not (eq-eqb one.after.moves one.before.moves same));
        })

        spot : (after : List TableRow) (row : TableRow) (one : CommittedTable) → IsPlaced s after one → one.before ≡ row → (b : Bool) → is_moved one ≡ b → (one.after.location ≡ row.location) ⊎ (overlap_among after one.after ≡ None)
        spot after row one at is true moves = inr (at.clear moves)
        spot after row one at is false stays = inl (at.kept.stays stays ∙ ap (λ (before : TableRow). before.location) is)

    pub orderly-committed : (name : List ℕ) (commits : List Commit) → EachPasses (committing s command name commits []) → IsOrderly (stamped s command (rows_committed s (tables_committed s command name commits)))
    unfolding tables_committed
    orderly-committed name commits passes =
        let all = commits_in s name commits in
        let outcome = not-refused (commit_outcome (time_of s command) all) passes.1.1.1.1.1.1.0 in
        let made = (outcome-made (time_of s command) all outcome.0 outcome.1).1 in
        let is = ap (committed_by all) outcome.1 in
        let placed : bad_location_from 0 (all_committed all outcome.0) ≡ None = ap (bad_location_from 0) (sym is) ∙ passes.1.1.1.1.1.1.1.0 in
        let kept = kept-all s (time_of s command) 0 all outcome.0 (omega (arith, within.time)) (all-there name commits) made placed in
        orderly-left (committed_by all (commit_outcome (time_of s command) all)) (subst (AllByRecursion (IsKept s)) (sym is) kept) passes.1.1.1.1.1.1.1.1.1.0
