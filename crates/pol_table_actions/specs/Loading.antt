-- What is shown of a table, and loading one.
use Rattle.std.specs.Prelude.{ℕ, Bool, true, false, List, [], filter, ◌==◌, Option, None, option_map}
use Rattle.std.specs.List.{list_any}
use Rattle.pol_access.specs.declared.privilege.Privilege.TheVariants.{TableReadProperties}
use Rattle.pol_commands.specs.declared.command.Command.{Command}
use Rattle.pol_commands.specs.declared.reply.Answer.{Answer}
use Rattle.pol_commands.specs.declared.reply.Answer.TheVariants.{TableLoaded}
use Rattle.pol_locations.specs.Location.{location_text}
use Rattle.pol_meta.specs.FileNames.{metadata_file}
use Rattle.pol_meta.specs.declared.metadata.TableMetadata.{TableMetadata}
use Rattle.pol_meta.specs.declared.reference.NamedRef.{NamedRef}
use Rattle.pol_names.specs.declared.identifier.Identifier.{Identifier}
use Rattle.pol_table_rows.specs.declared.row.TableRow.{TableRow}
use Rattle.pol_tokens.specs.declared.token.TokenRow.{TokenRow}
use Rattle.pol_rules.specs.Acting.{Acting, reading}
use Rattle.pol_rules.specs.Prologues.{at_table, table_row_at}
use Rattle.pol_state.specs.Rows.{Rows}

-- where the metadata of a table is
abbrev pub metadata_location : TableRow → List ℕ
metadata_location row = metadata_file (location_text row.location) row.version row.metadata.table_uuid

-- whether a reference names a snapshot
abbrev pub is_referenced : List NamedRef → ℕ → Bool
is_referenced refs id = list_any (λ named. named.reference.snapshot_id == id) refs

-- a metadata without the snapshots that no reference names
unfoldable pub with_named_snapshots : TableMetadata → TableMetadata
with_named_snapshots meta =
    record meta { snapshots = filter (λ snapshot. is_referenced meta.refs snapshot.snapshot_id) meta.snapshots }

-- what is shown of a metadata
abbrev pub metadata_shown : Bool → TableMetadata → TableMetadata
metadata_shown false meta = meta
metadata_shown true meta = with_named_snapshots meta

-- the answer that shows a table, with the storage token that was issued, if one was
abbrev pub loaded_with : Bool → Option TokenRow → TableRow → Answer
loaded_with refs_only token row = TableLoaded (metadata_location row) (metadata_shown refs_only row.metadata) token

-- and that which has no storage token
abbrev pub loaded : Bool → TableRow → Answer
loaded refs_only row = loaded_with refs_only None row

-- loading a table
abbrev pub load_table : Rows → Command → List ℕ → Identifier → Bool → Acting
load_table s command name identifier refs_only =
    reading s (at_table s command TableReadProperties name identifier []) (option_map (loaded refs_only) (table_row_at s name identifier))
