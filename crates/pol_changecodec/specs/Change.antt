-- The forms of changes and of lists of them.
use Rattle.std.specs.Prelude.{◌≡◌, ℕ, List, [], ◌∷◌, ◌++◌, Some, ⊤, refl}
use Rattle.pol_content.specs.declared.change.Change.{Change}
use Rattle.pol_content.specs.declared.change.Change.TheVariants.{Time, NextId, NextSerial, PutPrincipal, DropPrincipal, PutPrincipalRole, DropPrincipalRole, PutCatalog, DropCatalog, PutCatalogRole, DropCatalogRole, PutNamespace, DropNamespace, PutTable, DropTable, PutView, DropView, PutMember, DropMember, PutJoin, DropJoin, PutGrant, DropGrant, PutSession, PutToken}
use Rattle.pol_forms.specs.Enums.{Written, Variant, written_as, enum, enum_read, made_read_back, case_of}
use Rattle.pol_forms.specs.Form.{Form}
use Rattle.pol_forms.specs.Forms.{list, number}
use Rattle.pol_meta.specs.Valid.{IsValid}
use Rattle.pol_views.specs.Valid.{IsValidView}
use Rattle.pol_codec.specs.Rows.{catalog, catalog_role, grant, join, member, namespace_row, principal, principal_role, session, token}
use Rattle.pol_changecodec.specs.Tables.{table_row, view_row}

-- what is written of a change: the place of its variant, and the row, the id or the number
abbrev change_written : Change → Written
change_written (Time time) = written_as 0 number time
change_written (NextId id) = written_as 1 number id
change_written (NextSerial serial) = written_as 2 number serial
change_written (PutPrincipal row) = written_as 3 principal row
change_written (DropPrincipal id) = written_as 4 number id
change_written (PutPrincipalRole row) = written_as 5 principal_role row
change_written (DropPrincipalRole id) = written_as 6 number id
change_written (PutCatalog row) = written_as 7 catalog row
change_written (DropCatalog id) = written_as 8 number id
change_written (PutCatalogRole row) = written_as 9 catalog_role row
change_written (DropCatalogRole id) = written_as 10 number id
change_written (PutNamespace row) = written_as 11 namespace_row row
change_written (DropNamespace id) = written_as 12 number id
change_written (PutTable row) = written_as 13 table_row row
change_written (DropTable id) = written_as 14 number id
change_written (PutView row) = written_as 15 view_row row
change_written (DropView id) = written_as 16 number id
change_written (PutMember row) = written_as 17 member row
change_written (DropMember row) = written_as 18 member row
change_written (PutJoin row) = written_as 19 join row
change_written (DropJoin row) = written_as 20 join row
change_written (PutGrant row) = written_as 21 grant row
change_written (DropGrant row) = written_as 22 grant row
change_written (PutSession row) = written_as 23 session row
change_written (PutToken row) = written_as 24 token row

abbrev change_variants : List (Variant change_written)
change_variants =
    case_of 0 Time number (λ time. refl)
    ∷ case_of 1 NextId number (λ id. refl)
    ∷ case_of 2 NextSerial number (λ serial. refl)
    ∷ case_of 3 PutPrincipal principal (λ row. refl)
    ∷ case_of 4 DropPrincipal number (λ id. refl)
    ∷ case_of 5 PutPrincipalRole principal_role (λ row. refl)
    ∷ case_of 6 DropPrincipalRole number (λ id. refl)
    ∷ case_of 7 PutCatalog catalog (λ row. refl)
    ∷ case_of 8 DropCatalog number (λ id. refl)
    ∷ case_of 9 PutCatalogRole catalog_role (λ row. refl)
    ∷ case_of 10 DropCatalogRole number (λ id. refl)
    ∷ case_of 11 PutNamespace namespace_row (λ row. refl)
    ∷ case_of 12 DropNamespace number (λ id. refl)
    ∷ case_of 13 PutTable table_row (λ row. refl)
    ∷ case_of 14 DropTable number (λ id. refl)
    ∷ case_of 15 PutView view_row (λ row. refl)
    ∷ case_of 16 DropView number (λ id. refl)
    ∷ case_of 17 PutMember member (λ row. refl)
    ∷ case_of 18 DropMember member (λ row. refl)
    ∷ case_of 19 PutJoin join (λ row. refl)
    ∷ case_of 20 DropJoin join (λ row. refl)
    ∷ case_of 21 PutGrant grant (λ row. refl)
    ∷ case_of 22 DropGrant grant (λ row. refl)
    ∷ case_of 23 PutSession session (λ row. refl)
    ∷ case_of 24 PutToken token (λ row. refl)
    ∷ []

pub change_read_back : (value : Change) (rest : List ℕ) → (change_written value).holds → enum_read change_variants ((change_written value).bytes ++ rest) ≡ Some (value, rest)
change_read_back (Time time) rest held = made_read_back Time number time rest held
change_read_back (NextId id) rest held = made_read_back NextId number id rest held
change_read_back (NextSerial serial) rest held = made_read_back NextSerial number serial rest held
change_read_back (PutPrincipal row) rest held = made_read_back PutPrincipal principal row rest held
change_read_back (DropPrincipal id) rest held = made_read_back DropPrincipal number id rest held
change_read_back (PutPrincipalRole row) rest held = made_read_back PutPrincipalRole principal_role row rest held
change_read_back (DropPrincipalRole id) rest held = made_read_back DropPrincipalRole number id rest held
change_read_back (PutCatalog row) rest held = made_read_back PutCatalog catalog row rest held
change_read_back (DropCatalog id) rest held = made_read_back DropCatalog number id rest held
change_read_back (PutCatalogRole row) rest held = made_read_back PutCatalogRole catalog_role row rest held
change_read_back (DropCatalogRole id) rest held = made_read_back DropCatalogRole number id rest held
change_read_back (PutNamespace row) rest held = made_read_back PutNamespace namespace_row row rest held
change_read_back (DropNamespace id) rest held = made_read_back DropNamespace number id rest held
change_read_back (PutTable row) rest held = made_read_back PutTable table_row row rest held
change_read_back (DropTable id) rest held = made_read_back DropTable number id rest held
change_read_back (PutView row) rest held = made_read_back PutView view_row row rest held
change_read_back (DropView id) rest held = made_read_back DropView number id rest held
change_read_back (PutMember row) rest held = made_read_back PutMember member row rest held
change_read_back (DropMember row) rest held = made_read_back DropMember member row rest held
change_read_back (PutJoin row) rest held = made_read_back PutJoin join row rest held
change_read_back (DropJoin row) rest held = made_read_back DropJoin join row rest held
change_read_back (PutGrant row) rest held = made_read_back PutGrant grant row rest held
change_read_back (DropGrant row) rest held = made_read_back DropGrant grant row rest held
change_read_back (PutSession row) rest held = made_read_back PutSession session row rest held
change_read_back (PutToken row) rest held = made_read_back PutToken token row rest held

unfoldable pub change : Form Change
change = enum change_written change_variants change_read_back

-- the changes of one command
abbrev pub changes : Form (List Change)
changes = list change

-- what a change keeps that its type doesn't: the metadata of a table or view that is put is valid
abbrev pub IsSoundChange : Change → Type 0
IsSoundChange (Time time) = ⊤
IsSoundChange (NextId id) = ⊤
IsSoundChange (NextSerial serial) = ⊤
IsSoundChange (PutPrincipal row) = ⊤
IsSoundChange (DropPrincipal id) = ⊤
IsSoundChange (PutPrincipalRole row) = ⊤
IsSoundChange (DropPrincipalRole id) = ⊤
IsSoundChange (PutCatalog row) = ⊤
IsSoundChange (DropCatalog id) = ⊤
IsSoundChange (PutCatalogRole row) = ⊤
IsSoundChange (DropCatalogRole id) = ⊤
IsSoundChange (PutNamespace row) = ⊤
IsSoundChange (DropNamespace id) = ⊤
IsSoundChange (PutTable row) = IsValid row.metadata
IsSoundChange (DropTable id) = ⊤
IsSoundChange (PutView row) = IsValidView row.metadata
IsSoundChange (DropView id) = ⊤
IsSoundChange (PutMember row) = ⊤
IsSoundChange (DropMember row) = ⊤
IsSoundChange (PutJoin row) = ⊤
IsSoundChange (DropJoin row) = ⊤
IsSoundChange (PutGrant row) = ⊤
IsSoundChange (DropGrant row) = ⊤
IsSoundChange (PutSession row) = ⊤
IsSoundChange (PutToken row) = ⊤
