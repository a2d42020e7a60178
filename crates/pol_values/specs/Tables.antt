-- What the body that creates a table tells, and what a metadata does.
use Rattle.std.specs.Prelude.{◌≡◌, ◌⊎◌, ℕ, List, [], ◌∷◌, ◌++◌, Option, Some, None, Ok, Err, codes, unwrap_or}
use Rattle.serde_json.specs.Written.{compact_text}
use Rattle.pol_readers.specs.Forms as form
use Rattle.pol_readers.specs.Path.{path_text}
use Rattle.pol_readers.specs.declared.path.Step.{Step}
use Rattle.pol_meta.specs.Creation.{create_refusal, created}
use Rattle.pol_meta.specs.declared.metadata.TableMetadata.{TableMetadata}
use Rattle.pol_meta.specs.Why.{word_of}
use Rattle.pol_meta.specs.declared.why.Why.{Why}
use Rattle.pol_metaread.specs.Metadata.{table_metadata}
use Rattle.pol_metajson.specs.Table.{create_table}
use Rattle.pol_metajson.specs.declared.table.CreateTable.{CreateTable}
use Rattle.pol_metaprint.specs.Metadata.{table_json}

-- where a table or a view lies: where it is asked to, or below one location by its name
abbrev pub location_of : Option (List ℕ) → List ℕ → List ℕ
location_of location name = unwrap_or location (codes "lake://b/" ++ name)

-- the uuid of each table and view that is made
abbrev pub uuid : List ℕ
uuid = 0 ∷ 1 ∷ 2 ∷ 3 ∷ 4 ∷ 5 ∷ 6 ∷ 7 ∷ 8 ∷ 9 ∷ 10 ∷ 11 ∷ 12 ∷ 13 ∷ 14 ∷ 15 ∷ []

-- the metadata of a table that is asked for, at one moment
abbrev pub made : CreateTable → TableMetadata
made request =
    created uuid (location_of request.location request.name) request.schema request.partition_spec request.write_order request.properties 1000

-- why no such table is made
abbrev pub refusal : CreateTable → Option Why
refusal request = create_refusal request.schema request.partition_spec request.write_order

-- a table is told by the JSON of its metadata, and what can't be made by why
abbrev pub TellsRequest : CreateTable → List ℕ → Type 0
TellsRequest request told =
    ((refusal request ≡ None) × (told ≡ compact_text (table_json (made request))))
    ⊎ ((reason : Why) × (refusal request ≡ Some reason) × (told ≡ word_of reason))

-- a body is told by the table that it asks for, and what is none by the path to its first bad field
abbrev pub TellsTable : List ℕ → List ℕ → Type 0
TellsTable body told =
    ((request : CreateTable) × (form.body create_table.read body ≡ Ok request) × TellsRequest request told)
    ⊎ ((path : List Step) × (form.body create_table.read body ≡ Err path) × (told ≡ codes "Unreadable: " ++ path_text path))

-- a metadata is told by the JSON that it is printed as, and what is none by the path to its first bad field
abbrev pub TellsMetadata : List ℕ → List ℕ → Type 0
TellsMetadata text told =
    ((meta : TableMetadata) × (form.body table_metadata.read text ≡ Ok meta) × (told ≡ compact_text (table_json meta)))
    ⊎ ((path : List Step) × (form.body table_metadata.read text ≡ Err path) × (told ≡ codes "Unreadable: " ++ path_text path))
