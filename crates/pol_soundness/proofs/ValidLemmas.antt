-- Metadata stay valid as changes are made, and are so in a sound state.
use Rattle.std.proofs.Common.{◌≡◌, ◌+◌, List, [], ◌∷◌, refl, ap, arith}
use Rattle.std.specs.List.{AllByRecursion}
use Rattle.std.proofs.Math.Logic.{∥∥₁_map}
use Rattle.pol_content.specs.declared.change.Change.{Change}
use Rattle.pol_content.specs.declared.change.Change.TheVariants.{Time, NextId, NextSerial, PutPrincipal, DropPrincipal, PutPrincipalRole, DropPrincipalRole, PutCatalog, DropCatalog, PutCatalogRole, DropCatalogRole, PutNamespace, DropNamespace, PutTable, DropTable, PutView, DropView, PutMember, DropMember, PutJoin, DropJoin, PutGrant, DropGrant, PutSession, PutToken}
use Rattle.pol_sound_content.specs.Valid.{HasValidMetadata, HasValidParts, HasValidViewMetadata}
use Rattle.pol_soundness.specs.Base.{rows_after, PutsValid}
use Rattle.pol_soundness.specs.Laws.{AppliedAtTheirTime, EmptyStateIsValid, SoundStatesAreValid}
use Rattle.pol_state.specs.Applied.{changed}
use Rattle.pol_state.specs.Rows.{Rows, empty_state}
use Rattle.pol_table_rows.specs.Sound.{IsSoundTable}
use Rattle.pol_table_rows.specs.Tables.{table_id}
use Rattle.pol_tables.proofs.ListLemmas.{each-weaken}
use Rattle.pol_tables.proofs.NamedLemmas.{each-rows_with, each-rows_without}
use Rattle.pol_view_rows.specs.Sound.{IsSoundView}
use Rattle.pol_view_rows.specs.Views.{view_id}

valid-changed : (s : Rows) (change : Change) → PutsValid change → HasValidParts s.content → HasValidParts (changed s change).content
valid-changed s (Time time) puts parts = parts
valid-changed s (NextId id) puts parts = parts
valid-changed s (NextSerial serial) puts parts = parts
valid-changed s (PutPrincipal row) puts parts = parts
valid-changed s (DropPrincipal id) puts parts = parts
valid-changed s (PutPrincipalRole row) puts parts = parts
valid-changed s (DropPrincipalRole id) puts parts = parts
valid-changed s (PutCatalog row) puts parts = record { tables = parts.tables; views = parts.views }
valid-changed s (DropCatalog id) puts parts = record { tables = parts.tables; views = parts.views }
valid-changed s (PutCatalogRole row) puts parts = parts
valid-changed s (DropCatalogRole id) puts parts = parts
valid-changed s (PutNamespace row) puts parts = record { tables = parts.tables; views = parts.views }
valid-changed s (DropNamespace id) puts parts = record { tables = parts.tables; views = parts.views }
valid-changed s (PutTable row) puts parts = record {
  tables = each-rows_with table_id HasValidMetadata HasValidMetadata row s.content.tables parts.tables (λ kept valid apart. valid) (puts.table row refl);
  views = parts.views;
}
valid-changed s (DropTable id) puts parts = record {
  tables = each-rows_without table_id HasValidMetadata HasValidMetadata id s.content.tables parts.tables (λ kept valid apart. valid);
  views = parts.views;
}
valid-changed s (PutView row) puts parts = record {
  tables = parts.tables;
  views = each-rows_with view_id HasValidViewMetadata HasValidViewMetadata row s.content.views parts.views (λ kept valid apart. valid) (puts.view row refl);
}
valid-changed s (DropView id) puts parts = record {
  tables = parts.tables;
  views = each-rows_without view_id HasValidViewMetadata HasValidViewMetadata id s.content.views parts.views (λ kept valid apart. valid);
}
valid-changed s (PutMember row) puts parts = parts
valid-changed s (DropMember row) puts parts = parts
valid-changed s (PutJoin row) puts parts = parts
valid-changed s (DropJoin row) puts parts = parts
valid-changed s (PutGrant row) puts parts = parts
valid-changed s (DropGrant row) puts parts = parts
valid-changed s (PutSession row) puts parts = parts
valid-changed s (PutToken row) puts parts = parts

-- metadata stay valid
pub valid-after : (changes : List Change) (s : Rows) → AllByRecursion PutsValid changes → HasValidParts s.content → HasValidParts (rows_after changes s).content
unfolding rows_after
valid-after [] s puts parts = parts
valid-after (change ∷ changes) s puts parts =
    valid-after changes (changed s change) puts.1 (valid-changed s change puts.0 parts)

pub sound-valid : SoundStatesAreValid
sound-valid s sound =
    let content = sound.orderly.content in
    record {
      tables = each-weaken IsSoundTable HasValidMetadata s.content.tables (λ row is. is.metadata) content.tables.each;
      views = each-weaken IsSoundView HasValidViewMetadata s.content.views (λ row is. ∥∥₁_map is.metadata (λ kept. kept.valid)) content.views.each;
    }

pub empty-valid : EmptyStateIsValid
unfolding empty_state
empty-valid = record { tables = tt; views = tt }

pub applied-after : AppliedAtTheirTime
unfolding rows_after
applied-after changes s =
    let after = rows_after changes s in
    let kept : after.charged + 0 ≡ after.charged = omega arith in
    ap (λ charged. record after { charged = charged }) kept
