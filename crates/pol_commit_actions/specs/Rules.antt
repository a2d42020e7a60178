-- Rules on commits and on renaming, each in the order in which the actions list them.
use Rattle.std.specs.Prelude.{ℕ, ◌+◌, nat_eq, Bool, true, false, List, [], ◌∷◌, ◌++◌, length, map, filter_map, flat_map, Option, None, Some}
use Rattle.std.specs.List.{position}
use Rattle.std.specs.Option.{option_map, option_or}
use Rattle.pol_access.specs.declared.privilege.Privilege.TheVariants.{TableCreate, TableDrop, TableWriteProperties}
use Rattle.pol_commands.specs.declared.commit.Commit.{Commit}
use Rattle.pol_commands.specs.declared.reply.OptionName.TheVariants as option
use Rattle.pol_commands.specs.declared.reply.Quantity.TheVariants as quantity
use Rattle.pol_commands.specs.declared.reply.Refusal.{Refusal}
use Rattle.pol_commands.specs.declared.reply.Refusal.TheVariants.{BadLocation, LocationOverlap, TableTwice, Unsupported}
use Rattle.pol_content.specs.Chain.{table_at}
use Rattle.pol_content.specs.declared.rows.CatalogRow.{CatalogRow}
use Rattle.pol_locations.specs.Location.{parse_refusal}
use Rattle.pol_locations.specs.declared.refused.LocationRefused.{LocationRefused}
use Rattle.pol_names.specs.declared.identifier.Identifier.{Identifier}
use Rattle.pol_state.specs.Bounds.{above, first_refusal, table_over_limit}
use Rattle.pol_state.specs.Rows.{Rows}
use Rattle.pol_rules.specs.Needs.{on_path, on_table}
use Rattle.pol_rules.specs.Rules.{no_namespace}
use Rattle.pol_rules.specs.TableRules.{location_outside, no_table}
use Rattle.pol_rules.specs.declared.needs.Need.{Need}
use Rattle.pol_table_rows.specs.Tables.{overlapping}
use Rattle.pol_table_rows.specs.declared.row.TableRow.{TableRow}
use Rattle.pol_updates.specs.declared.update.Update.{Update}
use Rattle.pol_updates.specs.declared.update.Update.TheVariants as update
use Rattle.pol_commit_actions.specs.Outcome.{CommitTo, CommittedTable, is_moved, moved, rows_after, tables_left}

-- what commits need: the properties of each table may be written
abbrev pub write_needs : Rows → List Commit → CatalogRow → List Need
write_needs s commits catalog =
    flat_map (λ (commit : Commit). on_table s TableWriteProperties commit.identifier catalog) commits

-- what renaming needs: the table may be dropped where it is, and made where it is to be
abbrev pub rename_needs : Rows → Identifier → Identifier → CatalogRow → List Need
rename_needs s source destination catalog =
    on_table s TableDrop source catalog ++ on_path s TableCreate destination.namespace catalog

-- the namespace of a table that is named isn't there; the first such is told
unfoldable pub no_namespaces : Rows → List Commit → CatalogRow → Option Refusal
no_namespaces s commits catalog =
    first_refusal (map (λ (commit : Commit). no_namespace s catalog.id commit.identifier.namespace) commits)

-- a table that is named isn't there; the first such is told
unfoldable pub no_tables : Rows → List Commit → CatalogRow → Option Refusal
no_tables s commits catalog = first_refusal (map (λ (commit : Commit). no_table s commit.identifier catalog) commits)

-- each commit with its table, where it is there; where one isn't, an earlier rule has refused
abbrev pub commit_at : Rows → CatalogRow → Commit → Option CommitTo
commit_at s catalog commit =
    option_map (λ row. record { row = row; commit = commit }) (table_at catalog.id commit.identifier.namespace commit.identifier.name s.content)

unfoldable pub commits_at : Rows → List Commit → CatalogRow → List CommitTo
commits_at s commits catalog = filter_map (commit_at s catalog) commits

-- a table is named a second time: the first such place is told, after the place at which it is named first
unfoldable pub twice_after : List ℕ → List ℕ → Option Refusal
twice_after before [] = None
twice_after before (id ∷ ids) =
    option_or (option_map (λ first. TableTwice first (length before)) (position (nat_eq id) before)) (twice_after (before ++ id ∷ []) ids)

unfoldable pub table_twice : List CommitTo → Option Refusal
table_twice commits = twice_after [] (map (λ (one : CommitTo). one.row.id) commits)

-- why the text of a location that a table is moved to is none
abbrev pub misplaced : Bool → List ℕ → Option LocationRefused
misplaced true text = parse_refusal text
misplaced false text = None

-- a table is moved to a text that is no location; the first such is told, where the first of the tables has this place
unfoldable pub bad_location_from : ℕ → List CommittedTable → Option Refusal
bad_location_from table [] = None
bad_location_from table (one ∷ others) =
    option_or (option_map (BadLocation table) (misplaced (is_moved one) one.after.metadata.location)) (bad_location_from (table + 1) others)

-- a table is moved to where the catalogue has no tables; the first such is told
unfoldable pub moved_outside : List CommittedTable → CatalogRow → Option Refusal
moved_outside tables catalog =
    first_refusal (map (λ (one : CommittedTable). location_outside one.after.location catalog) (moved tables))

-- a table's location and another's overlap; of several others that of the least id is told
unfoldable pub overlap_among : List TableRow → TableRow → Option Refusal
overlap_among tables row =
    option_map (λ (other : TableRow). LocationOverlap row.location other.location) (overlapping row.location (row.id ∷ []) tables)

-- a table is moved to where another one is, once all are moved; the first such is told
unfoldable pub moved_onto : Rows → List CommittedTable → Option Refusal
moved_onto s tables =
    first_refusal (map (λ (one : CommittedTable). overlap_among (tables_left (rows_after tables) s.content.tables) one.after) (moved tables))

-- an update that isn't served
abbrev pub unserved : Update → Option Refusal
unserved (update.AssignUuid uuid) = None
unserved (update.UpgradeFormatVersion version) = None
unserved (update.AddSchema schema) = None
unserved (update.SetCurrentSchema member) = None
unserved (update.AddSpec spec) = None
unserved (update.SetDefaultSpec member) = None
unserved (update.AddSortOrder order) = None
unserved (update.SetDefaultSortOrder member) = None
unserved (update.AddSnapshot snapshot) = None
unserved (update.SetSnapshotRef name reference) = None
unserved (update.RemoveSnapshots ids) = None
unserved (update.RemoveSnapshotRef name) = None
unserved (update.SetLocation location) = None
unserved (update.SetProperties updates) = None
unserved (update.RemoveProperties removals) = None
unserved (update.RemovePartitionSpecs ids) = None
unserved (update.RemoveSchemas ids) = None
unserved (update.Unsupported action) = Some (Unsupported (option.Update action))

-- the first of several
unfoldable pub any_unserved : List Commit → Option Refusal
any_unserved commits = first_refusal (map unserved (flat_map (λ (commit : Commit). commit.updates) commits))

-- there are too many tables, which is known of the commits alone
abbrev pub too_many_tables : List Commit → Option Refusal
too_many_tables commits = above quantity.TransactionTables (length commits)

-- a table is above a bound after its commit; the first such is told, by the first of its quantities
unfoldable pub any_over_limit : List CommittedTable → Option Refusal
any_over_limit tables = first_refusal (map (λ (one : CommittedTable). table_over_limit one.after) tables)
