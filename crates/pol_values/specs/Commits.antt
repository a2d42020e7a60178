-- What a commit to a table's metadata tells, and what a transaction does.
use Rattle.std.specs.Prelude.{◌≡◌, ◌⊎◌, ◌++◌, ℕ, List, Option, None, Some, Result, Ok, Err, codes, decimal, length, not}
use Rattle.std.specs.List.{position}
use Rattle.serde_json.specs.Written.{compact_text}
use Rattle.pol_readers.specs.Forms as form
use Rattle.pol_readers.specs.Path.{path_text}
use Rattle.pol_readers.specs.declared.path.Step.{Step}
use Rattle.pol_meta.specs.Why.{word_of}
use Rattle.pol_meta.specs.declared.metadata.TableMetadata.{TableMetadata}
use Rattle.pol_metaprint.specs.Metadata.{table_json}
use Rattle.pol_metaread.specs.Metadata.{table_metadata}
use Rattle.pol_requirements.specs.Requirements.{is_met}
use Rattle.pol_requirements.specs.declared.requirement.Requirement.{Requirement}
use Rattle.pol_updates.specs.Updates.{Place, metadata_after}
use Rattle.pol_updates.specs.declared.change.TableChange.{TableChange}
use Rattle.pol_updates.specs.declared.change.TableCommit.{TableCommit}
use Rattle.pol_updates.specs.declared.update.Update.{Update}
use Rattle.pol_commitjson.specs.Commits.{table_commit, transaction}

-- the place of the first requirement that doesn't hold of a metadata
abbrev pub unmet : TableMetadata → List Requirement → Option ℕ
unmet meta requirements = position (λ requirement. not (is_met meta requirement)) requirements

-- the metadata after updates of the one of a version, at a moment
abbrev pub after : TableMetadata → List Update → Result TableMetadata Place
after meta updates = metadata_after meta 7 updates 2000

-- the text of an update that is refused, by its place, and why
abbrev pub refused_text : Place → List ℕ
refused_text refused = codes "Refused: " ++ (decimal refused.index ++ (codes " " ++ word_of refused.why))

-- updates are told by the JSON of the metadata after them, and those of which one is refused by the first such
abbrev pub TellsUpdates : TableMetadata → List Update → List ℕ → Type 0
TellsUpdates meta updates told =
    ((made : TableMetadata) × (after meta updates ≡ Ok made) × (told ≡ compact_text (table_json made)))
    ⊎ ((refused : Place) × (after meta updates ≡ Err refused) × (told ≡ refused_text refused))

-- a commit is told by its first requirement that doesn't hold, and where all hold by its updates
abbrev pub TellsChange : TableMetadata → TableCommit → List ℕ → Type 0
TellsChange meta commit told =
    ((place : ℕ) × (unmet meta commit.requirements ≡ Some place) × (told ≡ codes "Unmet: " ++ decimal place))
    ⊎ ((unmet meta commit.requirements ≡ None) × TellsUpdates meta commit.updates told)

-- a body is told by the commit that it is, and what is none by the path to its first bad field
abbrev pub TellsBody : TableMetadata → List ℕ → List ℕ → Type 0
TellsBody meta body told =
    ((commit : TableCommit) × (form.body table_commit.read body ≡ Ok commit) × TellsChange meta commit told)
    ⊎ ((path : List Step) × (form.body table_commit.read body ≡ Err path) × (told ≡ codes "Unreadable: " ++ path_text path))

-- a commit is told of a metadata that can be read
abbrev pub TellsCommit : List ℕ → List ℕ → List ℕ → Type 0
TellsCommit text body told =
    (meta : TableMetadata) × (form.body table_metadata.read text ≡ Ok meta) × TellsBody meta body told

-- a transaction is told by how many changes of tables it has, and what is none by the path to its first bad field
abbrev pub TellsTransaction : List ℕ → List ℕ → Type 0
TellsTransaction body told =
    ((changes : List TableChange) × (form.body transaction.read body ≡ Ok changes) × (told ≡ decimal (length changes)))
    ⊎ ((path : List Step) × (form.body transaction.read body ≡ Err path) × (told ≡ codes "Unreadable: " ++ path_text path))
