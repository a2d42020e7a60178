-- Commits to one table and to several (Iceberg REST OpenAPI, CommitTableRequest and CommitTransactionRequest).
use Rattle.std.specs.Prelude.{All, List}
use Rattle.pol_commitjson.specs.Identifiers.{identifier}
use Rattle.pol_commitjson.specs.Requirements.{requirement}
use Rattle.pol_commitjson.specs.Updates.{update}
use Rattle.pol_commitjson.specs.declared.keys.TheConstants as key
use Rattle.pol_readers.specs.Shape.{Shape, ◌>>=◌, an_object, done, field, list}
use Rattle.pol_updates.specs.Forms.{HasForm}
use Rattle.pol_updates.specs.declared.change.TableChange.{TableChange}
use Rattle.pol_updates.specs.declared.change.TableCommit.{TableCommit}

unfoldable pub table_commit : Shape TableCommit
table_commit = do
  _ ← an_object
  required ← field key.REQUIREMENTS.now (list requirement)
  changed ← field key.UPDATES.now (list update)
  done (record { requirements = required; updates = changed })

unfoldable pub table_change : Shape TableChange
table_change = do
  _ ← an_object
  named ← field key.IDENTIFIER.now identifier
  required ← field key.REQUIREMENTS.now (list requirement)
  changed ← field key.UPDATES.now (list update)
  done (record { identifier = named; requirements = required; updates = changed })

unfoldable pub transaction : Shape (List TableChange)
transaction = do
  _ ← an_object
  changes ← field key.TABLE_CHANGES.now (list table_change)
  done changes

-- commits each of whose updates has its form
abbrev pub IsFormed : TableCommit → Type 0
IsFormed commit = All HasForm commit.updates

abbrev pub IsChangeFormed : TableChange → Type 0
IsChangeFormed change = All HasForm change.updates

abbrev pub AreFormed : List TableChange → Type 0
AreFormed changes = All IsChangeFormed changes
