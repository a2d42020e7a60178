-- The changes between two states.
use Rattle.std.specs.Prelude.{ℕ, ◌==◌, List, [], ◌∷◌, ◌++◌, map, if◌then◌else◌}
use Rattle.pol_access.specs.Access.{catalog_role_id, principal_id, principal_role_id}
use Rattle.pol_access.specs.Order.{grant_cmp, join_cmp, member_cmp}
use Rattle.pol_access.specs.contracts.rows.CatalogRoleRow as catalog_role
use Rattle.pol_access.specs.contracts.rows.GrantRow as grant
use Rattle.pol_access.specs.contracts.rows.JoinRow as join
use Rattle.pol_access.specs.contracts.rows.MemberRow as member
use Rattle.pol_access.specs.contracts.rows.PrincipalRoleRow as principal_role
use Rattle.pol_access.specs.contracts.rows.PrincipalRow as principal
use Rattle.pol_table_rows.specs.Tables.{table_id}
use Rattle.pol_table_rows.specs.contracts.row.TableRow as table
use Rattle.pol_view_rows.specs.Views.{view_id}
use Rattle.pol_view_rows.specs.contracts.row.ViewRow as view
use Rattle.pol_tables.specs.Changes.{fact_changes, new_rows, table_changes}
use Rattle.pol_content.specs.Content.{catalog_id, namespace_id}
use Rattle.pol_content.specs.contracts.rows.CatalogRow as catalog
use Rattle.pol_content.specs.contracts.rows.NamespaceRow as namespace
use Rattle.pol_content.specs.declared.change.Change.{Change}
use Rattle.pol_content.specs.declared.change.Change.TheVariants.{Time, NextId, NextSerial, PutPrincipal, DropPrincipal, PutPrincipalRole, DropPrincipalRole, PutCatalog, DropCatalog, PutCatalogRole, DropCatalogRole, PutNamespace, DropNamespace, PutTable, DropTable, PutView, DropView, PutMember, DropMember, PutJoin, DropJoin, PutGrant, DropGrant, PutSession, PutToken}
use Rattle.pol_tokens.specs.contracts.session.SessionRow as session
use Rattle.pol_tokens.specs.contracts.token.TokenRow as token
use Rattle.pol_state.specs.Rows.{Rows}

-- the changes of the rows of each kind
pub record RowChanges : Type 0 where
  pub principals : List Change
  pub principal_roles : List Change
  pub catalogs : List Change
  pub catalog_roles : List Change
  pub namespaces : List Change
  pub tables : List Change
  pub views : List Change
  pub members : List Change
  pub joins : List Change
  pub grants : List Change
  pub sessions : List Change
  pub tokens : List Change

-- all of them, in the order of the variants
abbrev pub in_turn : RowChanges → List Change
in_turn made =
    made.principals ++ (made.principal_roles ++ (made.catalogs ++ (made.catalog_roles ++ (made.namespaces
    ++ (made.tables ++ (made.views ++ (made.members ++ (made.joins ++ (made.grants ++ (made.sessions ++ made.tokens))))))))))

-- the changes of the rows of each kind between two states; no session goes, and no storage token
abbrev pub row_changes : Rows → Rows → RowChanges
row_changes s t = record {
  principals = table_changes principal.the_row.coded principal_id PutPrincipal DropPrincipal s.access.principals t.access.principals;
  principal_roles = table_changes principal_role.the_row.coded principal_role_id PutPrincipalRole DropPrincipalRole s.access.principal_roles t.access.principal_roles;
  catalogs = table_changes catalog.the_row.coded catalog_id PutCatalog DropCatalog s.content.catalogs t.content.catalogs;
  catalog_roles = table_changes catalog_role.the_row.coded catalog_role_id PutCatalogRole DropCatalogRole s.access.catalog_roles t.access.catalog_roles;
  namespaces = table_changes namespace.the_row.coded namespace_id PutNamespace DropNamespace s.content.namespaces t.content.namespaces;
  tables = table_changes table.the_row.coded table_id PutTable DropTable s.content.tables t.content.tables;
  views = table_changes view.the_row.coded view_id PutView DropView s.content.views t.content.views;
  members = fact_changes member.the_row.coded member_cmp PutMember DropMember s.access.members t.access.members;
  joins = fact_changes join.the_row.coded join_cmp PutJoin DropJoin s.access.joins t.access.joins;
  grants = fact_changes grant.the_row.coded grant_cmp PutGrant DropGrant s.access.grants t.access.grants;
  sessions = map PutSession (new_rows session.the_row.coded s.tokens.sessions t.tokens.sessions);
  tokens = map PutToken (new_rows token.the_row.coded s.tokens.tokens t.tokens.tokens);
}

-- the counters that differ
abbrev pub id_change : Rows → Rows → List Change
id_change s t = if s.next_id == t.next_id then [] else NextId t.next_id ∷ []

abbrev pub serial_change : Rows → Rows → List Change
serial_change s t = if s.next_serial == t.next_serial then [] else NextSerial t.next_serial ∷ []

-- nothing where no row differs, else the time, the counters, and then the rows
abbrev pub headed : ℕ → List Change → List Change → List Change
headed time counters [] = []
headed time counters (change ∷ changes) = Time time ∷ counters ++ change ∷ changes

-- the changes that lead from a state to another
unfoldable pub changes_between : Rows → Rows → List Change
changes_between s t = headed t.time (id_change s t ++ serial_change s t) (in_turn (row_changes s t))
