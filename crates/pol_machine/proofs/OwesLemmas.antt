-- What each action of the machine owes.
use Rattle.std.specs.Prelude.{ℕ, Bool, true, false, List}
use Rattle.pol_commands.specs.declared.command.Action.{Action}
use Rattle.pol_commands.specs.declared.command.Action.TheVariants.{OpenSession, GetConfig, ListCatalogs, CreateCatalog, GetCatalog, DropCatalog, ListNamespaces, CreateNamespace, LoadNamespace, HeadNamespace, DropNamespace, UpdateProperties, ListTables, CreateTable, LoadTable, HeadTable, DropTable, ReportMetrics, CommitTable, CommitTransaction, RenameTable, ListViews, CreateView, LoadView, HeadView, ReplaceView, DropView, RenameView, ListPrincipals, CreatePrincipal, GetPrincipal, DropPrincipal, Rotate, ListMembers, AddMember, EndMember, ListPrincipalRoles, CreatePrincipalRole, GetPrincipalRole, DropPrincipalRole, ListJoins, AddJoin, EndJoin, ListCatalogRoles, CreateCatalogRole, GetCatalogRole, DropCatalogRole, ListGrants, AddGrant, Revoke, LoadCredentials, Access}
use Rattle.pol_commands.specs.declared.command.Command.{Command}
use Rattle.pol_state.specs.Rows.{Rows}
use Rattle.pol_rules.specs.Live.{live_part}
use Rattle.pol_rules.proofs.OwesLemmas.{Owes}
use Rattle.pol_commit_actions.proofs.OwesLemmas.{owes-commit_table, owes-commit_transaction, owes-rename_table}
use Rattle.pol_table_actions.proofs.OwesLemmas.{owes-create_table, owes-drop_table, owes-head_table, owes-list_tables, owes-load_table, owes-report_metrics}
use Rattle.pol_view_actions.proofs.OwesLemmas.{owes-create_view, owes-drop_view, owes-head_view, owes-list_views, owes-load_view, owes-rename_view, owes-replace_view}
use Rattle.pol_content_actions.proofs.OwesLemmas.{owes-create_catalog, owes-create_namespace, owes-drop_catalog, owes-drop_namespace, owes-get_catalog, owes-get_config, owes-head_namespace, owes-list_catalogs, owes-list_namespaces, owes-load_namespace, owes-open_session, owes-update_properties}
use Rattle.pol_principal_actions.proofs.OwesLemmas.{owes-add_member, owes-create_principal, owes-create_principal_role, owes-drop_principal, owes-drop_principal_role, owes-end_member, owes-get_principal, owes-get_principal_role, owes-list_members, owes-list_principal_roles, owes-list_principals, owes-rotate}
use Rattle.pol_grant_actions.proofs.OwesLemmas.{owes-add_grant, owes-add_join, owes-create_catalog_role, owes-drop_catalog_role, owes-end_join, owes-get_catalog_role, owes-list_catalog_roles, owes-list_grants, owes-list_joins, owes-revoke}
use Rattle.pol_token_actions.proofs.OwesLemmas.{owes-access, owes-create_delegated, owes-load_credentials, owes-load_delegated}
use Rattle.pol_names.specs.declared.identifier.Identifier.{Identifier}
use Rattle.pol_commands.specs.declared.create_table.CreateTable.{CreateTable as NewTable}
use Rattle.pol_machine.specs.Machine.{acting, creating, loading}

module _ (s : Rows) (command : Command) where
  -- creating and loading a table, with or without a storage token
  owes-creating : (delegated : Bool) (name : List ℕ) (levels : List (List ℕ)) (request : NewTable) → Owes s command (creating delegated s command name levels request) (creating delegated (live_part s) command name levels request)
  owes-creating false name levels request = owes-create_table s command name levels request
  owes-creating true name levels request = owes-create_delegated s command name levels request

  owes-loading : (delegated : Bool) (name : List ℕ) (identifier : Identifier) (refs_only : Bool) → Owes s command (loading delegated s command name identifier refs_only) (loading delegated (live_part s) command name identifier refs_only)
  owes-loading false name identifier refs_only = owes-load_table s command name identifier refs_only
  owes-loading true name identifier refs_only = owes-load_delegated s command name identifier refs_only

  pub owes : (action : Action) → Owes s command (acting s command action) (acting (live_part s) command action)
  owes (OpenSession client_id secret scopes) = owes-open_session s command client_id secret scopes
  owes (GetConfig name) = owes-get_config s command name
  owes ListCatalogs = owes-list_catalogs s command
  owes (CreateCatalog name base allowed properties external) = owes-create_catalog s command name base allowed properties external
  owes (GetCatalog name) = owes-get_catalog s command name
  owes (DropCatalog name) = owes-drop_catalog s command name
  owes (ListNamespaces name parent) = owes-list_namespaces s command name parent
  owes (CreateNamespace name levels properties) = owes-create_namespace s command name levels properties
  owes (LoadNamespace name levels) = owes-load_namespace s command name levels
  owes (HeadNamespace name levels) = owes-head_namespace s command name levels
  owes (DropNamespace name levels) = owes-drop_namespace s command name levels
  owes (UpdateProperties name levels removals updates) = owes-update_properties s command name levels removals updates
  owes (ListTables name levels) = owes-list_tables s command name levels
  owes (CreateTable name levels request delegated) = owes-creating delegated name levels request
  owes (LoadTable name identifier refs_only delegated) = owes-loading delegated name identifier refs_only
  owes (LoadCredentials name identifier) = owes-load_credentials s command name identifier
  owes (HeadTable name identifier) = owes-head_table s command name identifier
  owes (DropTable name identifier) = owes-drop_table s command name identifier
  owes (ReportMetrics name identifier) = owes-report_metrics s command name identifier
  owes (CommitTable name commit) = owes-commit_table s command name commit
  owes (CommitTransaction name commits) = owes-commit_transaction s command name commits
  owes (RenameTable name source destination) = owes-rename_table s command name source destination
  owes (ListViews name levels) = owes-list_views s command name levels
  owes (CreateView name levels request) = owes-create_view s command name levels request
  owes (LoadView name identifier) = owes-load_view s command name identifier
  owes (HeadView name identifier) = owes-head_view s command name identifier
  owes (ReplaceView name commit) = owes-replace_view s command name commit
  owes (DropView name identifier) = owes-drop_view s command name identifier
  owes (RenameView name source destination) = owes-rename_view s command name source destination
  owes ListPrincipals = owes-list_principals s command
  owes (CreatePrincipal name client_id secret) = owes-create_principal s command name client_id secret
  owes (GetPrincipal name) = owes-get_principal s command name
  owes (DropPrincipal name) = owes-drop_principal s command name
  owes (Rotate name secret) = owes-rotate s command name secret
  owes (ListMembers principal) = owes-list_members s command principal
  owes (AddMember principal role) = owes-add_member s command principal role
  owes (EndMember principal role) = owes-end_member s command principal role
  owes ListPrincipalRoles = owes-list_principal_roles s command
  owes (CreatePrincipalRole name) = owes-create_principal_role s command name
  owes (GetPrincipalRole name) = owes-get_principal_role s command name
  owes (DropPrincipalRole name) = owes-drop_principal_role s command name
  owes (ListJoins catalog role) = owes-list_joins s command catalog role
  owes (AddJoin catalog role catalog_role) = owes-add_join s command catalog role catalog_role
  owes (EndJoin catalog role catalog_role) = owes-end_join s command catalog role catalog_role
  owes (ListCatalogRoles catalog) = owes-list_catalog_roles s command catalog
  owes (CreateCatalogRole catalog name) = owes-create_catalog_role s command catalog name
  owes (GetCatalogRole catalog name) = owes-get_catalog_role s command catalog name
  owes (DropCatalogRole catalog name) = owes-drop_catalog_role s command catalog name
  owes (ListGrants catalog role) = owes-list_grants s command catalog role
  owes (AddGrant catalog role grant) = owes-add_grant s command catalog role grant
  owes (Revoke catalog role grant) = owes-revoke s command catalog role grant
  owes (Access path act) = owes-access s command path act
