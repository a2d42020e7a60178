-- What the JSON of answers to management requests holds (Apache Polaris Management Service).
use Rattle.std.specs.Prelude.{ℕ, List, codes}
use Rattle.serde_json.specs.Data.{Data, string, object, member, no_members}
use Rattle.pol_access.specs.Privilege.{text_of}
use Rattle.pol_access.specs.declared.rows.PrincipalRow.{PrincipalRow}
use Rattle.pol_commands.specs.declared.grants.Grant.{Grant}
use Rattle.pol_commands.specs.declared.grants.GrantedOn.{GrantedOn}
use Rattle.pol_commands.specs.declared.grants.GrantedOn.TheVariants as on
use Rattle.pol_answers.specs.Json.{list_json, texts_json}

-- a principal of that client id and name (Principal)
abbrev pub principal_object : List ℕ → List ℕ → Data
principal_object client_id name =
    object (member (codes "clientId") (string client_id) (member (codes "name") (string name) no_members))

abbrev pub principal_json : PrincipalRow → Data
principal_json row = principal_object row.client_id row.name

-- a list of principals (Principals)
abbrev pub principals_json : List PrincipalRow → Data
principals_json rows = object (member (codes "principals") (list_json principal_json rows) no_members)

-- the client id and the secret with which a principal opens sessions, and the principal (PrincipalWithCredentials)
abbrev pub credentials_json : List ℕ → List ℕ → List ℕ → Data
credentials_json client_id secret name =
    object (member (codes "credentials") (object (member (codes "clientId") (string client_id)
    (member (codes "clientSecret") (string secret) no_members)))
    (member (codes "principal") (principal_object client_id name) no_members))

-- a role of that name (PrincipalRole, CatalogRole)
abbrev pub role_json : List ℕ → Data
role_json name = object (member (codes "name") (string name) no_members)

-- a list of roles (PrincipalRoles, CatalogRoles)
abbrev pub roles_json : List (List ℕ) → Data
roles_json names = object (member (codes "roles") (list_json role_json names) no_members)

-- a grant of that privilege on a catalogue, a namespace, a table or a view (GrantResource)
abbrev pub granted_json : List ℕ → GrantedOn → Data
granted_json privilege on.Catalog =
    object (member (codes "privilege") (string privilege) (member (codes "type") (string (codes "catalog")) no_members))
granted_json privilege (on.Namespace levels) =
    object (member (codes "namespace") (texts_json levels)
    (member (codes "privilege") (string privilege)
    (member (codes "type") (string (codes "namespace")) no_members)))
granted_json privilege (on.Table table) =
    object (member (codes "namespace") (texts_json table.namespace)
    (member (codes "privilege") (string privilege)
    (member (codes "tableName") (string table.name)
    (member (codes "type") (string (codes "table")) no_members))))
granted_json privilege (on.View view) =
    object (member (codes "namespace") (texts_json view.namespace)
    (member (codes "privilege") (string privilege)
    (member (codes "type") (string (codes "view"))
    (member (codes "viewName") (string view.name) no_members))))

abbrev pub grant_json : Grant → Data
grant_json grant = granted_json (text_of grant.privilege) grant.on

-- a list of grants (GrantResources)
abbrev pub grants_json : List Grant → Data
grants_json grants = object (member (codes "grants") (list_json grant_json grants) no_members)
