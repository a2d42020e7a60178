-- What is printed of a metadata is read as the same metadata.
use Rattle.std.specs.Prelude.{◌≡◌, ◌<◌, ℕ, length, List, All, Ok}
use Rattle.pol_properties.specs.Properties.{KeysAscend}
use Rattle.pol_meta.specs.Valid.{HasForms}
use Rattle.pol_meta.specs.declared.metadata.TableMetadata.{TableMetadata}
use Rattle.pol_readers.specs.Forms as form
use Rattle.pol_readers.specs.Grammar.{Exact, IsBody}
use Rattle.pol_metaread.specs.Metadata.{table_metadata}
use Rattle.pol_metaprint.specs.Metadata.{table_json}

-- the bytes of a uuid
pub record IsUuid (uuid : List ℕ) : Type 0 where
  pub count : length uuid ≡ 16
  pub bytes : All (λ byte. byte < 256) uuid

-- what the types of a metadata's fields keep
pub record IsHeld (meta : TableMetadata) : Type 0 where
  pub properties : KeysAscend meta.properties
  pub summaries : All (λ snapshot. KeysAscend snapshot.summary) meta.snapshots
  pub uuid : IsUuid meta.table_uuid

-- a metadata whose parts have their forms is read of what is printed of it
abbrev pub PrintedIsRead : Type 0
PrintedIsRead = (meta : TableMetadata) → HasForms meta → IsHeld meta → table_metadata.read (table_json meta) ≡ Ok meta

-- a metadata is read exactly where the bytes are an object of JSON that is of the grammar
abbrev pub MetadataAreExact : Type 0
MetadataAreExact = Exact (form.body table_metadata.read) (IsBody table_metadata.stands)
