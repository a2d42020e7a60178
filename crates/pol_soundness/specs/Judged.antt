-- The conditions of a sound state as tests, each of which is passed exactly where its condition holds.
use Rattle.std.specs.Prelude.{◌^◌, ◌==◌, ℕ, Bool, true, false, not, ◌&&◌, ◌||◌, nat_eq, nat_le, nat_lt, List, codes, Option, Some, None}
use Rattle.std.specs.Cmp.Lexicographic.{pointwise}
use Rattle.std.specs.List.{list_all}
use Rattle.pol_access.specs.Access.{AccessRows, catalog_role_id, is_joined}
use Rattle.pol_access.specs.Names.{catalog_role_named, principal_role_named}
use Rattle.pol_access.specs.declared.privilege.Privilege.TheVariants.{CatalogManageAccess, CatalogManageContent}
use Rattle.pol_access.specs.declared.rows.CatalogRoleRow.{CatalogRoleRow}
use Rattle.pol_access.specs.declared.rows.GrantRow.{GrantRow}
use Rattle.pol_access.specs.declared.rows.PrincipalRoleRow.{PrincipalRoleRow}
use Rattle.pol_content.specs.Content.{ContentRows, catalog_id}
use Rattle.pol_content.specs.Ties.{catalog_of, is_access_id, manages}
use Rattle.pol_names.specs.declared.scope.Scope.{Scope}
use Rattle.pol_names.specs.declared.scope.Scope.TheVariants as scope
use Rattle.pol_state.specs.Rows.{Rows}
use Rattle.pol_table_rows.specs.Tables.{table_id}
use Rattle.pol_table_rows.specs.declared.row.TableRow.{TableRow}
use Rattle.pol_tables.specs.Table.{knows, row_of}
use Rattle.pol_tokens.specs.Tokens.{TokenRows, serial_of, token_serial}
use Rattle.pol_tokens.specs.declared.session.SessionRow.{SessionRow}
use Rattle.pol_tokens.specs.declared.token.TokenRow.{TokenRow}
use Rattle.pol_sound_access.specs.Judged.{is_given, is_sound_access, rises}
use Rattle.pol_sound_content.specs.Judged.{is_sound_content}
use Rattle.pol_sound_bounds.specs.Judged.{bounds_fit}

-- what ties principals and roles to catalogues and what is in them
abbrev pub lies_in : Option CatalogRoleRow → Option ℕ → Bool
lies_in None catalog = false
lies_in (Some role) None = false
lies_in (Some role) (Some catalog) = catalog == role.catalog

abbrev pub is_within : AccessRows → ContentRows → GrantRow → Bool
is_within access content row = lies_in (row_of catalog_role_id row.catalog_role access.catalog_roles) (catalog_of row.securable content)

abbrev pub is_admin : AccessRows → ℕ → Option CatalogRoleRow → Option PrincipalRoleRow → Bool
is_admin access catalog None service = false
is_admin access catalog (Some role) None = false
is_admin access catalog (Some role) (Some service) =
    is_joined service.id role.id access && (manages CatalogManageAccess role.id catalog access && manages CatalogManageContent role.id catalog access)

abbrev pub has_admin : AccessRows → ℕ → Bool
has_admin access catalog = is_admin access catalog (catalog_role_named catalog (codes "catalog_admin") access) (principal_role_named (codes "service_admin") access)

abbrev pub are_apart : AccessRows → ContentRows → Bool
are_apart access content =
    list_all (λ row. not (is_access_id row.id access)) content.catalogs
    && (list_all (λ row. not (is_access_id row.id access)) content.namespaces
    && (list_all (λ row. not (is_access_id row.id access)) content.tables && list_all (λ row. not (is_access_id row.id access)) content.views))

unfoldable pub are_tied : AccessRows → ContentRows → Bool
are_tied access content =
    list_all (λ row. knows catalog_id row.catalog content.catalogs) access.catalog_roles
    && (list_all (is_within access content) access.grants && (list_all (λ row. has_admin access row.id) content.catalogs && are_apart access content))

-- sessions and storage tokens
abbrev pub are_given : ℕ → Scope → Bool
are_given next_id scope.All = true
are_given next_id (scope.Roles roles) = list_all (is_given next_id) roles

abbrev pub is_session : ℕ → SessionRow → Bool
is_session next_id row = is_given next_id row.principal && are_given next_id row.scope

abbrev pub is_token : ℕ → TokenRow → Bool
is_token next_id row = is_given next_id row.principal && is_given next_id row.table

abbrev pub has_own_serial : List SessionRow → TokenRow → Bool
has_own_serial sessions row = not (knows serial_of row.serial sessions)

abbrev pub are_sessions : ℕ → ℕ → List SessionRow → Bool
are_sessions next_id next_serial rows = rises serial_of 0 next_serial rows && list_all (is_session next_id) rows

abbrev pub are_tokens : ℕ → ℕ → List TokenRow → Bool
are_tokens next_id next_serial rows = rises token_serial 0 next_serial rows && list_all (is_token next_id) rows

unfoldable pub are_sound_tokens : ℕ → ℕ → TokenRows → Bool
are_sound_tokens next_id next_serial rows =
    are_sessions next_id next_serial rows.sessions
    && (are_tokens next_id next_serial rows.tokens && list_all (has_own_serial rows.sessions) rows.tokens)

-- storage tokens and the tables that are there: a token has seen fewer moves than its table, or it has seen as many and
-- has its location
abbrev pub same_place : List (List ℕ) → List (List ℕ) → Bool
same_place left right = pointwise (pointwise nat_eq) left right

abbrev pub is_fit : TokenRow → TableRow → Bool
is_fit token table = nat_lt token.moves table.moves || (nat_eq token.moves table.moves && same_place token.location table.location)

abbrev pub fits_found : TokenRow → Option TableRow → Bool
fits_found token None = true
fits_found token (Some table) = is_fit token table

abbrev pub fits_table : List TableRow → TokenRow → Bool
fits_table tables token = fits_found token (row_of table_id token.table tables)

unfoldable pub are_fit : List TableRow → List TokenRow → Bool
are_fit tables tokens = list_all (fits_table tables) tokens

-- no quantity is above its bound, and neither are the time and the charges
abbrev pub is_within_bounds : Rows → Bool
is_within_bounds s =
    nat_le s.time (2 ^ 62) && (nat_le s.charged (2 ^ 30) && bounds_fit s.access s.content s.next_id s.next_serial)

-- what is tested without memory: the bounds, the sessions and storage tokens, and what ties the parts
unfoldable pub is_whole : Rows → Bool
is_whole s =
    is_within_bounds s
    && (are_sound_tokens s.next_id s.next_serial s.tokens && (are_tied s.access s.content && are_fit s.content.tables s.tokens.tokens))

-- whether a state whose metadata are valid is sound
unfoldable pub is_sound : Rows → Bool
is_sound s = is_whole s && (is_sound_access s.next_id s.access && is_sound_content s.next_id s.content)
