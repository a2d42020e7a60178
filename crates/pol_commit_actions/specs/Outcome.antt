-- What commits make of tables as a state has them (Iceberg REST OpenAPI, CommitTableRequest and
-- CommitTransactionRequest): the requirements of all tables are tested first, then all updates are applied.
use Rattle.std.specs.Prelude.{ℕ, ◌+◌, ◌==◌, nat_eq, Bool, not, List, [], ◌∷◌, length, map, filter, Option, None, Some, unwrap_or, Result, Ok, Err, if◌then◌else◌}
use Rattle.std.specs.List.{position}
use Rattle.std.specs.Option.{option_map, option_or}
use Rattle.std.specs.Str.{bytes_eq}
use Rattle.pol_commands.specs.declared.commit.Commit.{Commit}
use Rattle.pol_commands.specs.declared.reply.Refusal.{Refusal}
use Rattle.pol_commands.specs.declared.reply.Refusal.TheVariants.{RequirementFailed, UpdateRefused}
use Rattle.pol_locations.specs.Location.{segments_of}
use Rattle.pol_meta.specs.declared.metadata.TableMetadata.{TableMetadata}
use Rattle.pol_requirements.specs.Requirements.{is_met}
use Rattle.pol_table_rows.specs.Tables.{table_id}
use Rattle.pol_table_rows.specs.declared.row.TableRow.{TableRow}
use Rattle.pol_tables.specs.Table.{row_of}
use Rattle.pol_updates.specs.Updates.{Place, metadata_after}

-- a commit, and the table that it changes
pub record CommitTo : Type 0 where
  pub row : TableRow
  pub commit : Commit

-- the first requirement of a commit that its table doesn't meet
abbrev pub unmet_in : CommitTo → Option ℕ
unmet_in one = position (λ requirement. not (is_met one.row.metadata requirement)) one.commit.requirements

-- the first pair of a table and a requirement that it doesn't meet, where the first of the tables has this place
unfoldable pub unmet_from : ℕ → List CommitTo → Option Refusal
unmet_from table [] = None
unmet_from table (one ∷ others) = option_or (option_map (RequirementFailed table) (unmet_in one)) (unmet_from (table + 1) others)

-- the metadata of a table after the updates of its commit at a moment
abbrev pub made_in : ℕ → CommitTo → Result TableMetadata Place
made_in time one = metadata_after one.row.metadata one.row.version one.commit.updates time

-- the same, where the table of this place is told with an update that is refused
abbrev pub told_at : ℕ → Result TableMetadata Place → Result TableMetadata Refusal
told_at table (Ok made) = Ok made
told_at table (Err place) = Err (UpdateRefused table place.index place.why)

-- a table's metadata before those of the tables after it; the first that is refused ends it
abbrev pub and_others : Result TableMetadata Refusal → Result (List TableMetadata) Refusal → Result (List TableMetadata) Refusal
and_others (Err why) others = Err why
and_others (Ok made) (Err why) = Err why
and_others (Ok made) (Ok others) = Ok (made ∷ others)

-- the metadata of all tables, or the first pair of a table and an update that is refused, where the first of the tables
-- has this place
unfoldable pub made_from : ℕ → ℕ → List CommitTo → Result (List TableMetadata) Refusal
made_from time table [] = Ok []
made_from time table (one ∷ others) = and_others (told_at table (made_in time one)) (made_from time (table + 1) others)

-- what was refused already stays refused
abbrev pub unless : {A : Type 0} → Option Refusal → Result A Refusal → Result A Refusal
unless None outcome = outcome
unless (Some why) outcome = Err why

-- the outcome of commits at a moment: the first pair of a table and a requirement that it doesn't meet, else the first
-- pair of a table and an update that is refused, else the new metadata of all tables
unfoldable pub commit_outcome : ℕ → List CommitTo → Result (List TableMetadata) Refusal
commit_outcome time commits = unless (unmet_from 0 commits) (made_from time 0 commits)

-- what an outcome refuses
abbrev pub refused_by : {A : Type 0} → Result A Refusal → Option Refusal
refused_by (Ok made) = None
refused_by (Err why) = Some why

-- a table before its commit and after it
pub record CommittedTable : Type 0 where
  pub before : TableRow
  pub after : TableRow

-- whether a metadata has its table lie elsewhere than before
abbrev pub lies_elsewhere : TableRow → TableMetadata → Bool
lies_elsewhere row made = not (bytes_eq made.location row.metadata.location)

-- where a table lies after its commit
abbrev pub location_after : TableRow → TableMetadata → List (List ℕ)
location_after row made = if lies_elsewhere row made then segments_of made.location else row.location

-- a number that grows by one where something is so
abbrev pub grown_if : Bool → ℕ → ℕ
grown_if test number = if test then number + 1 else number

-- a table after its commit: a commit with an update is one version more, and one that has it lie elsewhere one move more
abbrev pub committed : CommitTo → TableMetadata → CommittedTable
committed one made = record {
  before = one.row;
  after = record one.row {
    version = grown_if (not (length one.commit.updates == 0)) one.row.version;
    moves = grown_if (lies_elsewhere one.row made) one.row.moves;
    location = location_after one.row made;
    metadata = made;
  };
}

-- and so are all tables
unfoldable pub all_committed : List CommitTo → List TableMetadata → List CommittedTable
all_committed [] metas = []
all_committed (one ∷ others) [] = []
all_committed (one ∷ others) (made ∷ metas) = committed one made ∷ all_committed others metas

-- the tables that an outcome leaves; where it refuses, none
abbrev pub committed_by : List CommitTo → Result (List TableMetadata) Refusal → List CommittedTable
committed_by commits (Ok metas) = all_committed commits metas
committed_by commits (Err why) = []

-- those that lie elsewhere than before
abbrev pub is_moved : CommittedTable → Bool
is_moved one = not (nat_eq one.after.moves one.before.moves)

abbrev pub moved : List CommittedTable → List CommittedTable
moved tables = filter is_moved tables

-- the rows after
abbrev pub rows_after : List CommittedTable → List TableRow
rows_after tables = map (λ (one : CommittedTable). one.after) tables

-- the tables of a state once rows stand in the places of those with their ids
abbrev pub left_as : List TableRow → TableRow → TableRow
left_as rows row = unwrap_or (row_of table_id row.id rows) row

unfoldable pub tables_left : List TableRow → List TableRow → List TableRow
tables_left rows tables = map (left_as rows) tables
