-- Changes applied to a state, and the room that they need.
use Rattle.std.specs.Prelude.{ℕ, ◌+◌, ◌≤◌, List, [], ◌∷◌, count_by}
use Rattle.std.specs.List.{fold}
use Rattle.pol_access.specs.Access.{IsWithin, catalog_role_id, principal_id, principal_role_id}
use Rattle.pol_access.specs.contracts.rows.GrantRow as grant
use Rattle.pol_access.specs.contracts.rows.JoinRow as join
use Rattle.pol_access.specs.contracts.rows.MemberRow as member
use Rattle.pol_table_rows.specs.Tables.{table_id}
use Rattle.pol_view_rows.specs.Views.{view_id}
use Rattle.pol_tables.specs.Facts.{facts_with, facts_without}
use Rattle.pol_tables.specs.Table.{rows_with, rows_without}
use Rattle.pol_content.specs.Change.{puts}
use Rattle.pol_content.specs.Content.{catalog_id, namespace_id}
use Rattle.pol_content.specs.declared.change.Change.{Change}
use Rattle.pol_content.specs.declared.change.Change.TheVariants.{Time, NextId, NextSerial, PutPrincipal, DropPrincipal, PutPrincipalRole, DropPrincipalRole, PutCatalog, DropCatalog, PutCatalogRole, DropCatalogRole, PutNamespace, DropNamespace, PutTable, DropTable, PutView, DropView, PutMember, DropMember, PutJoin, DropJoin, PutGrant, DropGrant, PutSession, PutToken}
use Rattle.pol_content.specs.declared.change.RowKind.TheVariants as kind
use Rattle.pol_tokens.specs.HeldTable.{rows_once}
use Rattle.pol_tokens.specs.Tokens.{serial_of, token_serial}
use Rattle.pol_state.specs.Rows.{Rows, Room}

-- the rows once one change is made
abbrev pub changed : Rows → Change → Rows
changed s (Time time) = record s { time = time }
changed s (NextId id) = record s { next_id = id }
changed s (NextSerial serial) = record s { next_serial = serial }
changed s (PutPrincipal row) = record s { access = record s.access { principals = rows_with principal_id row s.access.principals } }
changed s (DropPrincipal id) = record s { access = record s.access { principals = rows_without principal_id id s.access.principals } }
changed s (PutPrincipalRole row) = record s { access = record s.access { principal_roles = rows_with principal_role_id row s.access.principal_roles } }
changed s (DropPrincipalRole id) = record s { access = record s.access { principal_roles = rows_without principal_role_id id s.access.principal_roles } }
changed s (PutCatalog row) = record s { content = record s.content { catalogs = rows_with catalog_id row s.content.catalogs } }
changed s (DropCatalog id) = record s { content = record s.content { catalogs = rows_without catalog_id id s.content.catalogs } }
changed s (PutCatalogRole row) = record s { access = record s.access { catalog_roles = rows_with catalog_role_id row s.access.catalog_roles } }
changed s (DropCatalogRole id) = record s { access = record s.access { catalog_roles = rows_without catalog_role_id id s.access.catalog_roles } }
changed s (PutNamespace row) = record s { content = record s.content { namespaces = rows_with namespace_id row s.content.namespaces } }
changed s (DropNamespace id) = record s { content = record s.content { namespaces = rows_without namespace_id id s.content.namespaces } }
changed s (PutTable row) = record s { content = record s.content { tables = rows_with table_id row s.content.tables } }
changed s (DropTable id) = record s { content = record s.content { tables = rows_without table_id id s.content.tables } }
changed s (PutView row) = record s { content = record s.content { views = rows_with view_id row s.content.views } }
changed s (DropView id) = record s { content = record s.content { views = rows_without view_id id s.content.views } }
changed s (PutMember row) = record s { access = record s.access { members = facts_with member.the_row.coded row s.access.members } }
changed s (DropMember row) = record s { access = record s.access { members = facts_without member.the_row.coded row s.access.members } }
changed s (PutJoin row) = record s { access = record s.access { joins = facts_with join.the_row.coded row s.access.joins } }
changed s (DropJoin row) = record s { access = record s.access { joins = facts_without join.the_row.coded row s.access.joins } }
changed s (PutGrant row) = record s { access = record s.access { grants = facts_with grant.the_row.coded row s.access.grants } }
changed s (DropGrant row) = record s { access = record s.access { grants = facts_without grant.the_row.coded row s.access.grants } }
changed s (PutSession row) = record s { tokens = record s.tokens { sessions = rows_once serial_of row s.tokens.sessions } }
changed s (PutToken row) = record s { tokens = record s.tokens { tokens = rows_once token_serial row s.tokens.tokens } }

-- the rows once all changes are made in their order, with this time, and this charge added
abbrev pub applied : List Change → ℕ → ℕ → Rows → Rows
applied changes time charge s =
    let after : Rows = fold changed s changes in
    record after { time = time; charged = after.charged + charge }

-- there is room for each row that the changes put
pub record HasRoom (changes : List Change) (room : Room) : Type 0 where
  pub principals : count_by (puts kind.Principal) changes ≤ room.access.principals
  pub principal_roles : count_by (puts kind.PrincipalRole) changes ≤ room.access.principal_roles
  pub catalogs : count_by (puts kind.Catalog) changes ≤ room.content.catalogs
  pub catalog_roles : count_by (puts kind.CatalogRole) changes ≤ room.access.catalog_roles
  pub namespaces : count_by (puts kind.Namespace) changes ≤ room.content.namespaces
  pub tables : count_by (puts kind.Table) changes ≤ room.content.tables
  pub views : count_by (puts kind.View) changes ≤ room.content.views
  pub members : count_by (puts kind.Member) changes ≤ room.access.members
  pub joins : count_by (puts kind.Join) changes ≤ room.access.joins
  pub grants : count_by (puts kind.Grant) changes ≤ room.access.grants
  pub sessions : count_by (puts kind.Session) changes ≤ room.tokens.sessions
  pub tokens : count_by (puts kind.Token) changes ≤ room.tokens.tokens

-- no room is lost
pub record KeepsRoom (old new : Room) : Type 0 where
  pub access : IsWithin old.access new.access
  pub catalogs : old.content.catalogs ≤ new.content.catalogs
  pub namespaces : old.content.namespaces ≤ new.content.namespaces
  pub tables : old.content.tables ≤ new.content.tables
  pub views : old.content.views ≤ new.content.views
  pub sessions : old.tokens.sessions ≤ new.tokens.sessions
  pub tokens : old.tokens.tokens ≤ new.tokens.tokens

-- a change takes room for the row that it puts, and no more
pub record TakesRoom (change : Change) (old new : Room) : Type 0 where
  pub principals : old.access.principals ≤ new.access.principals + count_by (puts kind.Principal) (change ∷ [])
  pub principal_roles : old.access.principal_roles ≤ new.access.principal_roles + count_by (puts kind.PrincipalRole) (change ∷ [])
  pub catalogs : old.content.catalogs ≤ new.content.catalogs + count_by (puts kind.Catalog) (change ∷ [])
  pub catalog_roles : old.access.catalog_roles ≤ new.access.catalog_roles + count_by (puts kind.CatalogRole) (change ∷ [])
  pub namespaces : old.content.namespaces ≤ new.content.namespaces + count_by (puts kind.Namespace) (change ∷ [])
  pub tables : old.content.tables ≤ new.content.tables + count_by (puts kind.Table) (change ∷ [])
  pub views : old.content.views ≤ new.content.views + count_by (puts kind.View) (change ∷ [])
  pub members : old.access.members ≤ new.access.members + count_by (puts kind.Member) (change ∷ [])
  pub joins : old.access.joins ≤ new.access.joins + count_by (puts kind.Join) (change ∷ [])
  pub grants : old.access.grants ≤ new.access.grants + count_by (puts kind.Grant) (change ∷ [])
  pub sessions : old.tokens.sessions ≤ new.tokens.sessions + count_by (puts kind.Session) (change ∷ [])
  pub tokens : old.tokens.tokens ≤ new.tokens.tokens + count_by (puts kind.Token) (change ∷ [])
