-- What requests ask for, by their paths, queries and bodies (Iceberg REST OpenAPI; Apache Polaris Management Service).
use Rattle.std.specs.Prelude.{ℕ, List, if◌then◌else◌, Option, Some, None, Result, Ok, Err, codes}
use Rattle.std.specs.Str.{bytes_eq}
use Rattle.form_urlencoded.specs.Form.{is_nonempty, parse}
use Rattle.pol_commands.specs.declared.command.Action.{Action}
use Rattle.pol_commands.specs.declared.command.Action.TheVariants as action
use Rattle.pol_readers.specs.Shape.{body}
use Rattle.pol_requests.specs.Refused.{◌>>=◌}
use Rattle.pol_requests.specs.declared.endpoint.CatalogRequest.TheVariants.{ListCatalogs, CreateCatalog, GetCatalog, DropCatalog}
use Rattle.pol_requests.specs.declared.endpoint.CatalogRoleRequest.{CatalogRoleRequest}
use Rattle.pol_requests.specs.declared.endpoint.CatalogRoleRequest.TheVariants.{ListCatalogRoles, CreateCatalogRole, GetCatalogRole, DropCatalogRole, ListGrants, AddGrant, Revoke}
use Rattle.pol_requests.specs.declared.endpoint.ContentRequest.TheVariants.{GetConfig, ListNamespaces, CreateNamespace, RenameTable, CommitTransaction, RenameView}
use Rattle.pol_requests.specs.declared.endpoint.Endpoint.{Endpoint}
use Rattle.pol_requests.specs.declared.endpoint.Endpoint.TheVariants.{OpenSession, Content, Namespace, Table, View, Catalog, Principal, PrincipalRole, CatalogRole, Object}
use Rattle.pol_requests.specs.declared.endpoint.NamespaceRequest.{NamespaceRequest}
use Rattle.pol_requests.specs.declared.endpoint.NamespaceRequest.TheVariants.{LoadNamespace, HeadNamespace, DropNamespace, UpdateProperties, ListTables, CreateTable, ListViews, CreateView}
use Rattle.pol_requests.specs.declared.endpoint.TableRequest.{TableRequest}
use Rattle.pol_requests.specs.declared.endpoint.TableRequest.TheVariants.{LoadTable, HeadTable, CommitTable, DropTable, ReportMetrics, LoadCredentials}
use Rattle.pol_requests.specs.declared.endpoint.ViewRequest.{ViewRequest}
use Rattle.pol_requests.specs.declared.endpoint.ViewRequest.TheVariants.{LoadView, HeadView, ReplaceView, DropView}
use Rattle.pol_requests.specs.declared.endpoint.PrincipalRequest.TheVariants.{ListPrincipals, CreatePrincipal, GetPrincipal, DropPrincipal, Rotate, ListMembers, AddMember, EndMember}
use Rattle.pol_requests.specs.declared.endpoint.PrincipalRoleRequest.TheVariants.{ListPrincipalRoles, CreatePrincipalRole, GetPrincipalRole, DropPrincipalRole, ListJoins, AddJoin, EndJoin}
use Rattle.pol_requests.specs.declared.refused.RouteRefused.{RouteRefused}
use Rattle.pol_requests.specs.declared.refused.RouteRefused.TheVariants.{GrantType, InvalidRequest, Unreadable}
use Rattle.pol_bodies.specs.declared.bodies.NewCatalog.{NewCatalog}
use Rattle.pol_bodies.specs.Bodies.{catalog_body, new_namespace, property_updates}
use Rattle.pol_bodies.specs.Body.{body_of}
use Rattle.pol_bodies.specs.CommitBodies.{commit_of, commits_of}
use Rattle.pol_bodies.specs.Renaming.{renaming}
use Rattle.pol_bodies.specs.TableBody.{create_table_of}
use Rattle.pol_bodies.specs.ViewBodies.{create_view_of, view_commit_of}
use Rattle.pol_names.specs.declared.identifier.Identifier.{Identifier}
use Rattle.pol_bodies.specs.ManagementBodies.{catalog_role_body, grant_body, principal_body, principal_role_body}
use Rattle.pol_routes.specs.Objects.{access}
use Rattle.pol_routes.specs.Query.{query_value}
use Rattle.pol_routes.specs.Request.{Request, plain, namespace, part}
use Rattle.pol_routes.specs.Segment.{plain_of, namespace_of}
use Rattle.pol_routes.specs.Tables.{drop_table, load_table}
use Rattle.pol_routes.specs.Target.{query_of}
use Rattle.pol_routes.specs.TokenForm.{token_form}
use Rattle.pol_routes.specs.declared.routed.TheConstants.{PREFIX, CATALOG, PRINCIPAL, ROLE, CATALOG_ROLE, TABLE, VIEW}
use Rattle.pol_routes.specs.declared.token_form.TokenForm.{TokenForm}

-- the catalogue of a warehouse, which must be there
unfoldable pub warehouse_of : Option (List ℕ) → Result (List ℕ) RouteRefused
warehouse_of None = Err (Unreadable (codes "warehouse"))
warehouse_of (Some name) = plain_of (codes "warehouse") name

-- the parent, where one is named; an empty one is an absent one
unfoldable pub parent_of : Option (List ℕ) → Result (Option (List (List ℕ))) RouteRefused
parent_of None = Ok None
parent_of (Some levels) =
    if is_nonempty levels then (namespace_of (codes "parent") levels >>= λ parent. Ok (Some parent)) else Ok None

-- what a query names: the catalogue by the key `warehouse`, and the parent by the key `parent`
unfoldable pub warehouse : List ℕ → Result (List ℕ) RouteRefused
warehouse target = query_value (codes "warehouse") (query_of target) >>= warehouse_of

unfoldable pub parent : List ℕ → Result (Option (List (List ℕ))) RouteRefused
parent target = query_value (codes "parent") (query_of target) >>= parent_of

-- the session that a token request asks for, of a client that stands for itself (RFC 6749, section 4.4)
abbrev pub session_of : TokenForm → Result Action RouteRefused
session_of form =
    if bytes_eq form.grant_type (codes "client_credentials")
    then Ok (action.OpenSession form.client_id form.client_secret form.scopes)
    else Err GrantType

-- the same of a token request whose fields may not stand as they must
abbrev pub session_asked : Option TokenForm → Result Action RouteRefused
session_asked None = Err InvalidRequest
session_asked (Some form) = session_of form

unfoldable pub open_session : List ℕ → Result Action RouteRefused
open_session bytes = session_asked (token_form (parse bytes))

abbrev pub creation_of : NewCatalog → Action
creation_of new = action.CreateCatalog new.name new.base new.allowed new.properties new.external

-- the action of a request on a namespace of a catalogue
abbrev pub on_namespace : Request → List ℕ → List (List ℕ) → NamespaceRequest → Result Action RouteRefused
on_namespace request catalog levels LoadNamespace = Ok (action.LoadNamespace catalog levels)
on_namespace request catalog levels HeadNamespace = Ok (action.HeadNamespace catalog levels)
on_namespace request catalog levels DropNamespace = Ok (action.DropNamespace catalog levels)
on_namespace request catalog levels UpdateProperties = body_of (body property_updates request.body) >>= λ new. Ok (action.UpdateProperties catalog levels new.removals new.updates)
on_namespace request catalog levels ListTables = Ok (action.ListTables catalog levels)
on_namespace request catalog levels CreateTable = create_table_of request.body >>= λ new. Ok (action.CreateTable catalog levels new request.delegated)
on_namespace request catalog levels ListViews = Ok (action.ListViews catalog levels)
on_namespace request catalog levels CreateView = create_view_of request.body >>= λ new. Ok (action.CreateView catalog levels new)

-- the action of a request on a table of a catalogue
abbrev pub on_table : Request → List ℕ → Identifier → TableRequest → Result Action RouteRefused
on_table request catalog identifier LoadTable = load_table request.target catalog identifier request.delegated
on_table request catalog identifier LoadCredentials = Ok (action.LoadCredentials catalog identifier)
on_table request catalog identifier HeadTable = Ok (action.HeadTable catalog identifier)
on_table request catalog identifier CommitTable = commit_of identifier request.body >>= λ commit. Ok (action.CommitTable catalog commit)
on_table request catalog identifier DropTable = drop_table request.target catalog identifier
on_table request catalog identifier ReportMetrics = Ok (action.ReportMetrics catalog identifier)

-- the action of a request on a view of a catalogue
abbrev pub on_view : Request → List ℕ → Identifier → ViewRequest → Result Action RouteRefused
on_view request catalog identifier LoadView = Ok (action.LoadView catalog identifier)
on_view request catalog identifier HeadView = Ok (action.HeadView catalog identifier)
on_view request catalog identifier ReplaceView = view_commit_of identifier request.body >>= λ commit. Ok (action.ReplaceView catalog commit)
on_view request catalog identifier DropView = Ok (action.DropView catalog identifier)

-- the action of a request on the roles of a catalogue
abbrev pub on_catalog_roles : Request → List ℕ → CatalogRoleRequest → Result Action RouteRefused
on_catalog_roles request catalog ListCatalogRoles = Ok (action.ListCatalogRoles catalog)
on_catalog_roles request catalog CreateCatalogRole = body_of (body catalog_role_body request.body) >>= λ new. Ok (action.CreateCatalogRole catalog new.name)
on_catalog_roles request catalog GetCatalogRole = plain CATALOG_ROLE.now request >>= λ role. Ok (action.GetCatalogRole catalog role)
on_catalog_roles request catalog DropCatalogRole = plain CATALOG_ROLE.now request >>= λ role. Ok (action.DropCatalogRole catalog role)
on_catalog_roles request catalog ListGrants = plain CATALOG_ROLE.now request >>= λ role. Ok (action.ListGrants catalog role)
on_catalog_roles request catalog AddGrant = plain CATALOG_ROLE.now request >>= λ role. body_of (body grant_body request.body) >>= λ read. Ok (action.AddGrant catalog role read.grant)
on_catalog_roles request catalog Revoke = plain CATALOG_ROLE.now request >>= λ role. body_of (body grant_body request.body) >>= λ read. Ok (action.Revoke catalog role read.grant)

-- the action that a request asks for: its path is read first, then its query, then its body
abbrev pub action_of : Request → Endpoint → Result Action RouteRefused
action_of request OpenSession = open_session request.body
action_of request (Content GetConfig) = warehouse request.target >>= λ catalog. Ok (action.GetConfig catalog)
action_of request (Content ListNamespaces) = plain PREFIX.now request >>= λ catalog. parent request.target >>= λ within. Ok (action.ListNamespaces catalog within)
action_of request (Content CreateNamespace) = plain PREFIX.now request >>= λ catalog. body_of (body new_namespace request.body) >>= λ new. Ok (action.CreateNamespace catalog new.namespace new.properties)
action_of request (Content RenameTable) = plain PREFIX.now request >>= λ catalog. body_of (body renaming request.body) >>= λ names. Ok (action.RenameTable catalog names.source names.destination)
action_of request (Content CommitTransaction) = plain PREFIX.now request >>= λ catalog. commits_of request.body >>= λ commits. Ok (action.CommitTransaction catalog commits)
action_of request (Content RenameView) = plain PREFIX.now request >>= λ catalog. body_of (body renaming request.body) >>= λ names. Ok (action.RenameView catalog names.source names.destination)
action_of request (Namespace asked) = plain PREFIX.now request >>= λ catalog. namespace request >>= λ levels. on_namespace request catalog levels asked
action_of request (Table asked) = plain PREFIX.now request >>= λ catalog. namespace request >>= λ levels. part TABLE.now request >>= λ name. on_table request catalog (record { namespace = levels; name = name }) asked
action_of request (View asked) = plain PREFIX.now request >>= λ catalog. namespace request >>= λ levels. part VIEW.now request >>= λ name. on_view request catalog (record { namespace = levels; name = name }) asked
action_of request (Catalog ListCatalogs) = Ok action.ListCatalogs
action_of request (Catalog CreateCatalog) = body_of (body catalog_body request.body) >>= λ read. Ok (creation_of read.catalog)
action_of request (Catalog GetCatalog) = plain CATALOG.now request >>= λ catalog. Ok (action.GetCatalog catalog)
action_of request (Catalog DropCatalog) = plain CATALOG.now request >>= λ catalog. Ok (action.DropCatalog catalog)
action_of request (Principal ListPrincipals) = Ok action.ListPrincipals
action_of request (Principal CreatePrincipal) = body_of (body principal_body request.body) >>= λ new. Ok (action.CreatePrincipal new.name None None)
action_of request (Principal GetPrincipal) = plain PRINCIPAL.now request >>= λ name. Ok (action.GetPrincipal name)
action_of request (Principal DropPrincipal) = plain PRINCIPAL.now request >>= λ name. Ok (action.DropPrincipal name)
action_of request (Principal Rotate) = plain PRINCIPAL.now request >>= λ name. Ok (action.Rotate name None)
action_of request (Principal ListMembers) = plain PRINCIPAL.now request >>= λ principal. Ok (action.ListMembers principal)
action_of request (Principal AddMember) = plain PRINCIPAL.now request >>= λ principal. body_of (body principal_role_body request.body) >>= λ role. Ok (action.AddMember principal role.name)
action_of request (Principal EndMember) = plain PRINCIPAL.now request >>= λ principal. plain ROLE.now request >>= λ role. Ok (action.EndMember principal role)
action_of request (PrincipalRole ListPrincipalRoles) = Ok action.ListPrincipalRoles
action_of request (PrincipalRole CreatePrincipalRole) = body_of (body principal_role_body request.body) >>= λ new. Ok (action.CreatePrincipalRole new.name)
action_of request (PrincipalRole GetPrincipalRole) = plain ROLE.now request >>= λ name. Ok (action.GetPrincipalRole name)
action_of request (PrincipalRole DropPrincipalRole) = plain ROLE.now request >>= λ name. Ok (action.DropPrincipalRole name)
action_of request (PrincipalRole ListJoins) = plain ROLE.now request >>= λ role. plain CATALOG.now request >>= λ catalog. Ok (action.ListJoins catalog role)
action_of request (PrincipalRole AddJoin) = plain ROLE.now request >>= λ role. plain CATALOG.now request >>= λ catalog. body_of (body catalog_role_body request.body) >>= λ joined. Ok (action.AddJoin catalog role joined.name)
action_of request (PrincipalRole EndJoin) = plain ROLE.now request >>= λ role. plain CATALOG.now request >>= λ catalog. plain CATALOG_ROLE.now request >>= λ joined. Ok (action.EndJoin catalog role joined)
action_of request (CatalogRole asked) = plain CATALOG.now request >>= λ catalog. on_catalog_roles request catalog asked
action_of request (Object asked) = access request.target asked
