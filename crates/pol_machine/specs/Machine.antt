-- The machine: the reply to a command in a state, and the state after it.
use Rattle.std.specs.Prelude.{ℕ, Bool, true, false, List, [], ◌∷◌, ◌++◌, Option, Some, None}
use Rattle.pol_state.specs.Rows.{Rows}
use Rattle.pol_state.specs.Bounds.{first_refusal, over_limit}
use Rattle.pol_rules.specs.Rules.{run_full}
use Rattle.pol_rules.specs.Acting.{rows_by, stamped, Acting}
use Rattle.pol_grant_actions.specs.CatalogRoles.{create_catalog_role, drop_catalog_role, get_catalog_role, list_catalog_roles}
use Rattle.pol_content_actions.specs.Catalogs.{create_catalog, drop_catalog, get_catalog, get_config, list_catalogs}
use Rattle.pol_grant_actions.specs.Grants.{add_grant, list_grants, revoke}
use Rattle.pol_grant_actions.specs.Joins.{add_join, end_join, list_joins}
use Rattle.pol_principal_actions.specs.Members.{add_member, end_member, list_members}
use Rattle.pol_content_actions.specs.Namespaces.{create_namespace, drop_namespace, head_namespace, list_namespaces, load_namespace, update_properties}
use Rattle.pol_principal_actions.specs.PrincipalRoles.{create_principal_role, drop_principal_role, get_principal_role, list_principal_roles}
use Rattle.pol_principal_actions.specs.Principals.{create_principal, drop_principal, get_principal, list_principals, rotate}
use Rattle.pol_content_actions.specs.Sessions.{open_session}
use Rattle.pol_commit_actions.specs.Commits.{commit_table, commit_transaction}
use Rattle.pol_commit_actions.specs.Renaming.{rename_table}
use Rattle.pol_table_actions.specs.Creation.{create_table}
use Rattle.pol_table_actions.specs.Loading.{load_table}
use Rattle.pol_table_actions.specs.Tables.{drop_table, head_table, list_tables, report_metrics}
use Rattle.pol_view_actions.specs.Creation.{create_view}
use Rattle.pol_view_actions.specs.Renaming.{rename_view}
use Rattle.pol_view_actions.specs.Replacing.{replace_view}
use Rattle.pol_view_actions.specs.Views.{drop_view, head_view, list_views, load_view}
use Rattle.pol_commands.specs.declared.command.Action.{Action}
use Rattle.pol_commands.specs.declared.command.Action.TheVariants.{OpenSession, GetConfig, ListCatalogs, CreateCatalog, GetCatalog, DropCatalog, ListNamespaces, CreateNamespace, LoadNamespace, HeadNamespace, DropNamespace, UpdateProperties, ListTables, CreateTable, LoadTable, HeadTable, DropTable, ReportMetrics, CommitTable, CommitTransaction, RenameTable, ListViews, CreateView, LoadView, HeadView, ReplaceView, DropView, RenameView, ListPrincipals, CreatePrincipal, GetPrincipal, DropPrincipal, Rotate, ListMembers, AddMember, EndMember, ListPrincipalRoles, CreatePrincipalRole, GetPrincipalRole, DropPrincipalRole, ListJoins, AddJoin, EndJoin, ListCatalogRoles, CreateCatalogRole, GetCatalogRole, DropCatalogRole, ListGrants, AddGrant, Revoke, LoadCredentials, Access}
use Rattle.pol_token_actions.specs.Access.{access}
use Rattle.pol_token_actions.specs.Vending.{create_delegated, load_credentials, load_delegated}
use Rattle.pol_names.specs.declared.identifier.Identifier.{Identifier}
use Rattle.pol_commands.specs.declared.create_table.CreateTable.{CreateTable as NewTable}
use Rattle.pol_commands.specs.declared.command.Command.{Command}
use Rattle.pol_commands.specs.declared.reply.Answer.{Answer}
use Rattle.pol_commands.specs.declared.reply.Answer.TheVariants.{NamespaceThere}
use Rattle.pol_commands.specs.declared.reply.Refusal.{Refusal}
use Rattle.pol_commands.specs.declared.reply.Reply.{Reply}
use Rattle.pol_commands.specs.declared.reply.Reply.TheVariants.{Answered, Refused}

-- creating and loading a table, with a storage token where it is delegated
abbrev pub creating : Bool → Rows → Command → List ℕ → List (List ℕ) → NewTable → Acting
creating false s command name levels request = create_table s command name levels request
creating true s command name levels request = create_delegated s command name levels request

abbrev pub loading : Bool → Rows → Command → List ℕ → Identifier → Bool → Acting
loading false s command name identifier refs_only = load_table s command name identifier refs_only
loading true s command name identifier refs_only = load_delegated s command name identifier refs_only

-- the rules, the rows after and the answer of each action
abbrev pub acting : Rows → Command → Action → Acting
acting s command (OpenSession client_id secret scopes) = open_session s command client_id secret scopes
acting s command (GetConfig name) = get_config s command name
acting s command ListCatalogs = list_catalogs s command
acting s command (CreateCatalog name base allowed properties external) = create_catalog s command name base allowed properties external
acting s command (GetCatalog name) = get_catalog s command name
acting s command (DropCatalog name) = drop_catalog s command name
acting s command (ListNamespaces name parent) = list_namespaces s command name parent
acting s command (CreateNamespace name levels properties) = create_namespace s command name levels properties
acting s command (LoadNamespace name levels) = load_namespace s command name levels
acting s command (HeadNamespace name levels) = head_namespace s command name levels
acting s command (DropNamespace name levels) = drop_namespace s command name levels
acting s command (UpdateProperties name levels removals updates) = update_properties s command name levels removals updates
acting s command (ListTables name levels) = list_tables s command name levels
acting s command (CreateTable name levels request delegated) = creating delegated s command name levels request
acting s command (LoadTable name identifier refs_only delegated) = loading delegated s command name identifier refs_only
acting s command (LoadCredentials name identifier) = load_credentials s command name identifier
acting s command (HeadTable name identifier) = head_table s command name identifier
acting s command (DropTable name identifier) = drop_table s command name identifier
acting s command (ReportMetrics name identifier) = report_metrics s command name identifier
acting s command (CommitTable name commit) = commit_table s command name commit
acting s command (CommitTransaction name commits) = commit_transaction s command name commits
acting s command (RenameTable name source destination) = rename_table s command name source destination
acting s command (ListViews name levels) = list_views s command name levels
acting s command (CreateView name levels request) = create_view s command name levels request
acting s command (LoadView name identifier) = load_view s command name identifier
acting s command (HeadView name identifier) = head_view s command name identifier
acting s command (ReplaceView name commit) = replace_view s command name commit
acting s command (DropView name identifier) = drop_view s command name identifier
acting s command (RenameView name source destination) = rename_view s command name source destination
acting s command ListPrincipals = list_principals s command
acting s command (CreatePrincipal name client_id secret) = create_principal s command name client_id secret
acting s command (GetPrincipal name) = get_principal s command name
acting s command (DropPrincipal name) = drop_principal s command name
acting s command (Rotate name secret) = rotate s command name secret
acting s command (ListMembers principal) = list_members s command principal
acting s command (AddMember principal role) = add_member s command principal role
acting s command (EndMember principal role) = end_member s command principal role
acting s command ListPrincipalRoles = list_principal_roles s command
acting s command (CreatePrincipalRole name) = create_principal_role s command name
acting s command (GetPrincipalRole name) = get_principal_role s command name
acting s command (DropPrincipalRole name) = drop_principal_role s command name
acting s command (ListJoins catalog role) = list_joins s command catalog role
acting s command (AddJoin catalog role catalog_role) = add_join s command catalog role catalog_role
acting s command (EndJoin catalog role catalog_role) = end_join s command catalog role catalog_role
acting s command (ListCatalogRoles catalog) = list_catalog_roles s command catalog
acting s command (CreateCatalogRole catalog name) = create_catalog_role s command catalog name
acting s command (GetCatalogRole catalog name) = get_catalog_role s command catalog name
acting s command (DropCatalogRole catalog name) = drop_catalog_role s command catalog name
acting s command (ListGrants catalog role) = list_grants s command catalog role
acting s command (AddGrant catalog role grant) = add_grant s command catalog role grant
acting s command (Revoke catalog role grant) = revoke s command catalog role grant
acting s command (Access path act) = access s command path act

-- the rules of an action, and last that no quantity is above its bound in the rows after it
abbrev pub rules_within : Acting → List (Option Refusal)
rules_within action = action.rules ++ over_limit action.after ∷ []

-- the rules of a command, in their order
abbrev pub rules_of : Rows → Command → List (Option Refusal)
rules_of s command = run_full s command.charge ∷ rules_within (acting s command command.action)

-- the answer as a reply. An action that found nothing to answer on has none, and one of its rules has refused: so says
-- the clause `given` of `decide`
abbrev pub reply_with : Option Answer → Reply
reply_with (Some answer) = Answered answer
reply_with None = Answered NamespaceThere

-- the first rule that fails, else the answer
abbrev pub reply_by : Option Refusal → Option Answer → Reply
reply_by (Some why) answer = Refused why
reply_by None answer = reply_with answer

-- the reply to a command
unfoldable pub reply_of : Rows → Command → Reply
reply_of s command = reply_by (first_refusal (rules_of s command)) (acting s command command.action).answer

-- nothing changes where the run is full; else the time and the charge are taken, whatever the reply
abbrev pub next_by : Option Refusal → Rows → Rows → Rows
next_by (Some why) s next = s
next_by None s next = next

-- the state after a command
unfoldable pub next_state : Rows → Command → Rows
next_state s command =
    let action = acting s command command.action in
    next_by (run_full s command.charge) s (stamped s command (rows_by (first_refusal (rules_within action)) s action.after))
