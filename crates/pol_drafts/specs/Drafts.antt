-- Metadata amid a list of updates, and what one update may answer.
use Rattle.std.specs.Prelude.{◌≡◌, ◌==◌, List, [], None, Result, Ok, Err}
use Rattle.std.specs.Bool.{⊤}
use Rattle.std.specs.List.{find}
use Rattle.std.specs.Option.{option_map_or}
use Rattle.pol_meta.specs.declared.column.Column.{Column}
use Rattle.pol_meta.specs.declared.metadata.TableMetadata.{TableMetadata}
use Rattle.pol_meta.specs.declared.why.Why.{Why}
use Rattle.pol_drafts.specs.declared.draft.Draft.{Draft}
use Rattle.pol_drafts.specs.declared.stop.Stop.{Stop}
use Rattle.pol_drafts.specs.declared.stop.Stop.TheVariants.{Refused, OutOfMemory}

-- a metadata before a list of updates, which has added nothing yet
abbrev pub begun : TableMetadata → Draft
begun meta = record { meta = meta; last_schema = None; last_spec = None; last_order = None }

-- an update answers so, and leaves this draft: the one that it makes, or its first reason, or memory is wanting
abbrev pub Becomes : {A D : Type 0} → Result D Why → Result A Stop → D → Type 0
Becomes made (Ok done) now = made ≡ Ok now
Becomes made (Err (Refused why)) now = made ≡ Err why
Becomes made (Err OutOfMemory) now = ⊤

-- the same of what an update is made of
abbrev pub Gives : {A : Type 0} → Result A Why → Result A Stop → Type 0
Gives made (Ok value) = made ≡ Ok value
Gives made (Err (Refused why)) = made ≡ Err why
Gives made (Err OutOfMemory) = ⊤

-- what comes after a value; a reason stands
abbrev pub and_then : {A B : Type 0} → Result A Why → (A → Result B Why) → Result B Why
and_then (Ok value) after = after value
and_then (Err why) after = Err why

-- the columns of the current schema
abbrev pub current_columns : TableMetadata → List Column
current_columns meta =
    option_map_or (λ schema. schema.fields) (find (λ schema. schema.schema_id == meta.current_schema_id) meta.schemas) []
