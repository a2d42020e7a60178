-- The changes of commits and of renaming, and that they lead to the rows after.
use Rattle.std.proofs.Common.{◌≡◌, ℕ, Bool, true, false, not, cond, ◌&&◌, nat_eq, List, [], ◌∷◌, filter, map, Some, is_some, refl, sym, ap, subst, ◌∙◌, append-nil, true≢false}
use Rattle.std.specs.Coded.{Coded}
use Rattle.std.specs.Str.{bytes_eq}
use Rattle.std.proofs.lemmas.Bool.{eq-eqb}
use Rattle.std.proofs.lemmas.Slice.Eq.{bytes_eq-Decides}
use Rattle.pol_tables.specs.Same.{same}
use Rattle.pol_tables.specs.Table.{row_of, IdsDiffer}
use Rattle.pol_tables.proofs.ChangesLemmas.{table_changes-map, table_changes-put_altered}
use Rattle.pol_tables.proofs.RisingLemmas.{IdsDiffer-rising}
use Rattle.pol_tables.proofs.SameLemmas.{same-differ, same-true}
use Rattle.pol_tables.proofs.TableLemmas.{is_some-row_of, rows_with-known, rows_with-same}
use Rattle.pol_commands.specs.declared.command.Command.{Command}
use Rattle.pol_content.specs.declared.rows.NamespaceRow.{NamespaceRow}
use Rattle.pol_content.specs.declared.change.Change.TheVariants.{Time, PutTable, DropTable}
use Rattle.pol_state.specs.Changes.{changes_between, headed}
use Rattle.pol_state.specs.Rows.{Rows}
use Rattle.pol_state.specs.Sound.{IsSound}
use Rattle.pol_state.proofs.AppliedLemmas.{rows-altered}
use Rattle.pol_state.proofs.ChangesLemmas.{none, still, made-in_place}
use Rattle.pol_rules.specs.Acting.{stamped}
use Rattle.pol_rules.specs.Rules.{time_of}
use Rattle.pol_rules.proofs.LeadsLemmas.{Leads, leads-by, leads-one, leads-same}
use Rattle.pol_table_rows.specs.Tables.{table_id}
use Rattle.pol_table_rows.specs.contracts.row.TableRow as table
use Rattle.pol_table_rows.specs.declared.row.TableRow.{TableRow}
use Rattle.pol_commit_actions.specs.Commits.{rows_committed}
use Rattle.pol_commit_actions.specs.Outcome.{CommittedTable, left_as, rows_after, tables_left}
use Rattle.pol_commit_actions.specs.Renaming.{renamed, with_altered}
use Rattle.pol_commit_actions.specs.Replaced.{AreReplaced, changed_rows}
use Rattle.pol_commit_actions.proofs.SortedLemmas.{left-id, sorted-altered}

-- rows none of which is altered
unaltered : {R : Type 0} (code : Coded R) (alter : R → R) (rows : List R) → filter (λ row. not (same code (alter row) row)) rows ≡ [] → map alter rows ≡ rows
unaltered {R = R} code alter [] none = refl
unaltered {R = R} code alter (row ∷ rows) none = by (same code (alter row) row) refl none (unaltered code alter rows)
  where
    others : List R
    others = filter (λ row. not (same code (alter row) row)) rows

    by : (b : Bool) → same code (alter row) row ≡ b → cond (not b) (row ∷ others) others ≡ [] → (others ≡ [] → map alter rows ≡ rows) → alter row ∷ map alter rows ≡ row ∷ rows
    by true is none rest = λ i. same-true code (alter row) row is i ∷ rest none i
    by false is some rest = let contrary : row ∷ others ≡ [] = some in cc

module _ (s : Rows) (command : Command) (sound : IsSound s) where
  tables-differ : IdsDiffer table_id s.content.tables
  tables-differ = IdsDiffer-rising table_id s.content.tables sound.orderly.content.tables.numbered.rise

  -- tables that are altered under their ids
  module _ (alter : TableRow → TableRow) (keeps : (row : TableRow) → table_id (alter row) ≡ table_id row) where
    abbrev after : Rows
    after = record s { content = record s.content { tables = map alter s.content.tables } }

    abbrev altered : List TableRow
    altered = map alter (filter (λ row. not (same table.the_row.coded (alter row) row)) s.content.tables)

    altered_changes : changes_between s (stamped s command after) ≡ headed (time_of s command) [] (map PutTable altered)
    altered_changes =
        made-in_place s (stamped s command after) (record none { tables = map PutTable altered }) refl refl (λ i. record (still s i) { tables = table_changes-map table.the_row.coded table_id PutTable DropTable alter keeps s.content.tables tables-differ i })
        ∙ ap (headed (time_of s command) []) (append-nil (map PutTable altered))

    -- the rows as they are but for these tables, at the command's time
    abbrev holding : List TableRow → Rows
    holding tables = record s { time = time_of s command; content = record s.content { tables = tables } }

    leads-altered : Leads s command after
    leads-altered = by (filter (λ row. not (same table.the_row.coded (alter row) row)) s.content.tables) refl
      where
        by : (chosen : List TableRow) → filter (λ row. not (same table.the_row.coded (alter row) row)) s.content.tables ≡ chosen → Leads s command after
        by [] is =
            let stays = unaltered table.the_row.coded alter s.content.tables is in
            subst (λ tables. Leads s command (record s { content = record s.content { tables = tables } })) (sym stays) (leads-same s command)
        by (first ∷ others) is =
            leads-by s command after (Time (time_of s command) ∷ map PutTable altered)
            (altered_changes ∙ ap (λ rows. headed (time_of s command) [] (map PutTable (map alter rows))) is ∙ ap (λ rows. Time (time_of s command) ∷ map PutTable (map alter rows)) (sym is))
            (rows-altered table.the_row.coded table_id PutTable holding (λ rows row. refl) alter keeps s.content.tables sound.orderly.content.tables.numbered.rise).is

  -- commits
  pub leads-committed : (tables : List CommittedTable) → Leads s command (rows_committed s tables)
  unfolding tables_left
  leads-committed tables = leads-altered (left_as (rows_after tables)) (left-id (rows_after tables))

  pub committed_changes : (tables : List CommittedTable) → AreReplaced s tables → (rows : List TableRow) → rows ≡ changed_rows tables
      → changes_between s (stamped s command (rows_committed s tables)) ≡ headed (time_of s command) [] (map PutTable rows)
  unfolding tables_left
  committed_changes tables replaced rows is =
      altered_changes (left_as (rows_after tables)) (left-id (rows_after tables))
      ∙ ap (λ altered. headed (time_of s command) [] (map PutTable altered)) (sym (is ∙ sorted-altered s sound.orderly.content.tables.numbered.rise tables replaced.there replaced.ids replaced.kept replaced.differ))

  -- a table that is put in its own place
  pub put_changes : (row old : TableRow) → row_of table_id row.id s.content.tables ≡ Some old → same table.the_row.coded row old ≡ false
      → changes_between s (stamped s command (with_altered s row)) ≡ Time (time_of s command) ∷ PutTable row ∷ []
  put_changes row old found other =
      made-in_place s (stamped s command (with_altered s row)) (record none { tables = PutTable row ∷ [] }) refl refl (λ i. record (still s i) { tables = table_changes-put_altered table.the_row.coded table_id PutTable DropTable row old s.content.tables tables-differ found other i })

  stays : (row : TableRow) → row_of table_id row.id s.content.tables ≡ Some row → with_altered s row ≡ s
  stays row found =
      ap (λ tables. record s { content = record s.content { tables = tables } })
      (rows_with-known table_id row s.content.tables (sym (is_some-row_of table_id row.id s.content.tables) ∙ ap is_some found)
      ∙ rows_with-same table_id row s.content.tables tables-differ found)

  pub leads-put : (row old : TableRow) → row_of table_id row.id s.content.tables ≡ Some old → Leads s command (with_altered s row)
  leads-put row old found =
      leads-one s command (with_altered s row) (PutTable row) true (same table.the_row.coded row old)
      (λ is. stays row (found ∙ ap Some (sym (same-true table.the_row.coded row old is)))) (λ other. put_changes row old found other) refl

  -- a table that gets a name that it doesn't have
  pub renamed_changes : (row : TableRow) (namespace : NamespaceRow) (name : List ℕ) → row_of table_id row.id s.content.tables ≡ Some row
      → (nat_eq namespace.id row.namespace && bytes_eq name row.name) ≡ false
      → changes_between s (stamped s command (with_altered s (renamed name row namespace))) ≡ Time (time_of s command) ∷ PutTable (renamed name row namespace) ∷ []
  renamed_changes row namespace name found other =
      put_changes (renamed name row namespace) row found (same-differ table.the_row.coded (renamed name row namespace) row (λ is. true≢false (sym (both is) ∙ other)))
    where
      both : renamed name row namespace ≡ row → (nat_eq namespace.id row.namespace && bytes_eq name row.name) ≡ true
      both is =
          let ids = eq-eqb namespace.id row.namespace (ap (λ (one : TableRow). one.namespace) is) in
          let names = (bytes_eq-Decides name row.name).1 (ap (λ (one : TableRow). one.name) is) in
          λ i. ids i && names i
