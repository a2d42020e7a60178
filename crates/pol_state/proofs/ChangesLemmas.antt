-- The changes between two states, by the changes of each kind of rows.
use Rattle.std.proofs.Common.{◌≡◌, ℕ, ◌+◌, ◌<◌, Bool, true, false, not, cond, List, [], ◌∷◌, ◌++◌, filter, map, refl, ap, ◌∙◌, arith, ◌==◌}
use Rattle.std.proofs.lemmas.Bool.{eq-eqb, ne_eqb}
use Rattle.pol_access.specs.Access.{catalog_role_id, principal_id, principal_role_id}
use Rattle.pol_access.specs.Order.{grant_cmp, join_cmp, member_cmp}
use Rattle.pol_access.specs.contracts.rows.CatalogRoleRow as catalog_role
use Rattle.pol_access.specs.contracts.rows.GrantRow as grant
use Rattle.pol_access.specs.contracts.rows.JoinRow as join
use Rattle.pol_access.specs.contracts.rows.MemberRow as member
use Rattle.pol_access.specs.contracts.rows.PrincipalRoleRow as principal_role
use Rattle.pol_access.specs.contracts.rows.PrincipalRow as principal
use Rattle.pol_table_rows.specs.Tables.{table_id}
use Rattle.pol_table_rows.specs.contracts.row.TableRow as table
use Rattle.pol_view_rows.specs.Views.{view_id}
use Rattle.pol_view_rows.specs.contracts.row.ViewRow as view
use Rattle.pol_tables.specs.Rising.{KeysBelow}
use Rattle.pol_tables.proofs.ChangesLemmas.{new_rows-itself, table_changes-itself}
use Rattle.pol_tables.proofs.FactChangesLemmas.{fact_changes-itself}
use Rattle.pol_tables.proofs.ListLemmas.{each-all, each-weaken, filter-alike}
use Rattle.pol_content.specs.Content.{catalog_id, namespace_id}
use Rattle.pol_content.specs.contracts.rows.CatalogRow as catalog
use Rattle.pol_content.specs.contracts.rows.NamespaceRow as namespace
use Rattle.pol_content.specs.declared.change.Change.{Change}
use Rattle.pol_content.specs.declared.change.Change.TheVariants.{NextId, NextSerial, PutPrincipal, DropPrincipal, PutPrincipalRole, DropPrincipalRole, PutCatalog, DropCatalog, PutCatalogRole, DropCatalogRole, PutNamespace, DropNamespace, PutTable, DropTable, PutView, DropView, PutMember, DropMember, PutJoin, DropJoin, PutGrant, DropGrant, PutSession, PutToken}
use Rattle.pol_tokens.specs.Tokens.{serial_of, token_serial}
use Rattle.pol_tokens.specs.contracts.session.SessionRow.{the_row}
use Rattle.pol_tokens.specs.contracts.token.TokenRow as token
use Rattle.pol_state.specs.Changes.{changes_between, headed, id_change, in_turn, row_changes, serial_change, RowChanges}
use Rattle.pol_state.specs.Rows.{Rows}
use Rattle.pol_state.specs.Sound.{IsSound, IsSessionOf, IsTokenOf}

-- what isn't not so is so
pub filter-twice : {X : Type 0} (test : X → Bool) (xs : List X) → filter (λ x. not (not (test x))) xs ≡ filter test xs
filter-twice test xs = filter-alike (λ x. not (not (test x))) test xs (each-all (λ x. not (not (test x)) ≡ test x) xs (λ x. twice (test x)))
  where
    twice : (b : Bool) → not (not b) ≡ b
    twice true = refl
    twice false = refl

-- the rows with a time and charges of their own
abbrev pub timed : Rows → ℕ → ℕ → Rows
timed s time charged = record s { time = time; charged = charged }

-- no changes of any kind
abbrev pub none : RowChanges
none = record { principals = []; principal_roles = []; catalogs = []; catalog_roles = []; namespaces = []; tables = []; views = []; members = []; joins = []; grants = []; sessions = []; tokens = [] }

-- the changes of each kind of rows, and the counters', make the changes between two states
pub made-of : (s t : Rows) (ids serials : List Change) (rows : RowChanges) → id_change s t ≡ ids → serial_change s t ≡ serials → row_changes s t ≡ rows → changes_between s t ≡ headed t.time (ids ++ serials) (in_turn rows)
unfolding changes_between
made-of s t ids serials rows id serial made = λ i. headed t.time (id i ++ serial i) (in_turn (made i))

-- rows that stay have no changes
pub still : (s : Rows) → row_changes s s ≡ none
still s = λ i. record {
  principals = table_changes-itself principal.the_row.coded principal_id PutPrincipal DropPrincipal s.access.principals i;
  principal_roles = table_changes-itself principal_role.the_row.coded principal_role_id PutPrincipalRole DropPrincipalRole s.access.principal_roles i;
  catalogs = table_changes-itself catalog.the_row.coded catalog_id PutCatalog DropCatalog s.content.catalogs i;
  catalog_roles = table_changes-itself catalog_role.the_row.coded catalog_role_id PutCatalogRole DropCatalogRole s.access.catalog_roles i;
  namespaces = table_changes-itself namespace.the_row.coded namespace_id PutNamespace DropNamespace s.content.namespaces i;
  tables = table_changes-itself table.the_row.coded table_id PutTable DropTable s.content.tables i;
  views = table_changes-itself view.the_row.coded view_id PutView DropView s.content.views i;
  members = fact_changes-itself member.the_row.coded member_cmp PutMember DropMember s.access.members i;
  joins = fact_changes-itself join.the_row.coded join_cmp PutJoin DropJoin s.access.joins i;
  grants = fact_changes-itself grant.the_row.coded grant_cmp PutGrant DropGrant s.access.grants i;
  sessions = ap (map PutSession) (new_rows-itself the_row.coded s.tokens.sessions) i;
  tokens = ap (map PutToken) (new_rows-itself token.the_row.coded s.tokens.tokens) i;
}

pub sessions-kept : (s : Rows) → (row_changes s s).sessions ≡ []
sessions-kept s = ap (λ (made : RowChanges). made.sessions) (still s)

pub tokens-kept : (s : Rows) → (row_changes s s).tokens ≡ []
tokens-kept s = ap (λ (made : RowChanges). made.tokens) (still s)

-- a counter that stays has no change, and one that rises has one
pub counter-kept : (counter : ℕ) (change : Change) → cond (counter == counter) [] (change ∷ []) ≡ []
counter-kept counter change = ap (λ same. cond same [] (change ∷ [])) (eq-eqb counter counter refl)

pub counter-raised : (counter step : ℕ) (change : Change) → 0 < step → cond (counter == counter + step) [] (change ∷ []) ≡ change ∷ []
counter-raised counter step change some =
    ap (λ same. cond same [] (change ∷ [])) (ne_eqb counter (counter + step) (λ is. omega (arith, some, is)))

-- where the counters stay, and where ids are given out
pub made-in_place : (s t : Rows) (rows : RowChanges) → t.next_id ≡ s.next_id → t.next_serial ≡ s.next_serial → row_changes s t ≡ rows → changes_between s t ≡ headed t.time [] (in_turn rows)
made-in_place s t rows id serial made =
    made-of s t [] [] rows (ap (λ next. cond (s.next_id == next) [] (NextId next ∷ [])) id ∙ counter-kept s.next_id (NextId s.next_id)) (ap (λ next. cond (s.next_serial == next) [] (NextSerial next ∷ [])) serial ∙ counter-kept s.next_serial (NextSerial s.next_serial)) made

pub made-with_ids : (s t : Rows) (step : ℕ) (rows : RowChanges) → 0 < step → t.next_id ≡ s.next_id + step → t.next_serial ≡ s.next_serial → row_changes s t ≡ rows → changes_between s t ≡ headed t.time (NextId (s.next_id + step) ∷ []) (in_turn rows)
made-with_ids s t step rows some id serial made =
    made-of s t (NextId (s.next_id + step) ∷ []) [] rows (ap (λ next. cond (s.next_id == next) [] (NextId next ∷ [])) id ∙ counter-raised s.next_id step (NextId (s.next_id + step)) some) (ap (λ next. cond (s.next_serial == next) [] (NextSerial next ∷ [])) serial ∙ counter-kept s.next_serial (NextSerial s.next_serial)) made

-- where serials are given out, and where ids are too
pub made-with_serials : (s t : Rows) (step : ℕ) (rows : RowChanges) → 0 < step → t.next_id ≡ s.next_id → t.next_serial ≡ s.next_serial + step → row_changes s t ≡ rows → changes_between s t ≡ headed t.time (NextSerial (s.next_serial + step) ∷ []) (in_turn rows)
made-with_serials s t step rows some id serial made =
    made-of s t [] (NextSerial (s.next_serial + step) ∷ []) rows (ap (λ next. cond (s.next_id == next) [] (NextId next ∷ [])) id ∙ counter-kept s.next_id (NextId s.next_id)) (ap (λ next. cond (s.next_serial == next) [] (NextSerial next ∷ [])) serial ∙ counter-raised s.next_serial step (NextSerial (s.next_serial + step)) some) made

pub made-with_both : (s t : Rows) (ids serials : ℕ) (rows : RowChanges) → 0 < ids → 0 < serials → t.next_id ≡ s.next_id + ids → t.next_serial ≡ s.next_serial + serials → row_changes s t ≡ rows
    → changes_between s t ≡ headed t.time (NextId (s.next_id + ids) ∷ NextSerial (s.next_serial + serials) ∷ []) (in_turn rows)
made-with_both s t ids serials rows some more id serial made =
    made-of s t (NextId (s.next_id + ids) ∷ []) (NextSerial (s.next_serial + serials) ∷ []) rows (ap (λ next. cond (s.next_id == next) [] (NextId next ∷ [])) id ∙ counter-raised s.next_id ids (NextId (s.next_id + ids)) some) (ap (λ next. cond (s.next_serial == next) [] (NextSerial next ∷ [])) serial ∙ counter-raised s.next_serial serials (NextSerial (s.next_serial + serials)) more) made

-- time and charges alone are no change
pub changes-timed : (s : Rows) (time charged : ℕ) → changes_between s (timed s time charged) ≡ []
changes-timed s time charged = made-in_place s (timed s time charged) none refl refl (still s)

-- each serial is below the next one
pub serials-below : (s : Rows) → IsSound s → KeysBelow serial_of s.next_serial s.tokens.sessions
serials-below s sound =
    each-weaken (IsSessionOf s.next_id s.next_serial) (λ row. serial_of row < s.next_serial) s.tokens.sessions (λ row known. known.below) sound.orderly.tokens.sessions

pub token_serials-below : (s : Rows) → IsSound s → KeysBelow token_serial s.next_serial s.tokens.tokens
token_serials-below s sound =
    each-weaken (IsTokenOf s.next_id s.next_serial) (λ row. token_serial row < s.next_serial) s.tokens.tokens (λ row known. known.below) sound.orderly.tokens.tokens
