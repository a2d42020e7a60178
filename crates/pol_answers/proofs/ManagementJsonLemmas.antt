-- No JSON of an answer to a management request has a float.
use Rattle.std.proofs.Common.{◌≡◌, ℕ, false, List, refl}
use Rattle.serde_json.specs.Written.{has_float}
use Rattle.pol_access.specs.declared.rows.PrincipalRow.{PrincipalRow}
use Rattle.pol_commands.specs.declared.grants.Grant.{Grant}
use Rattle.pol_commands.specs.declared.grants.GrantedOn.{GrantedOn}
use Rattle.pol_commands.specs.declared.grants.GrantedOn.TheVariants as on
use Rattle.pol_answers.proofs.JsonLemmas.{list_whole, texts_whole}
use Rattle.pol_answers.specs.ManagementJson.{credentials_json, grant_json, granted_json, grants_json, principal_json, principals_json, role_json, roles_json}

pub principal_whole : (row : PrincipalRow) → has_float (principal_json row) ≡ false
principal_whole row = refl

pub principals_whole : (rows : List PrincipalRow) → has_float (principals_json rows) ≡ false
principals_whole rows = rw (list_whole principal_json principal_whole rows) refl

pub credentials_whole : (client_id word name : List ℕ) → has_float (credentials_json client_id word name) ≡ false
credentials_whole client_id word name = refl

pub role_whole : (name : List ℕ) → has_float (role_json name) ≡ false
role_whole name = refl

pub roles_whole : (names : List (List ℕ)) → has_float (roles_json names) ≡ false
roles_whole names = rw (list_whole role_json role_whole names) refl

granted_whole : (privilege : List ℕ) (granted : GrantedOn) → has_float (granted_json privilege granted) ≡ false
granted_whole privilege on.Catalog = refl
granted_whole privilege (on.Namespace levels) = rw (texts_whole levels) refl
granted_whole privilege (on.Table table) = rw (texts_whole table.namespace) refl
granted_whole privilege (on.View view) = rw (texts_whole view.namespace) refl

pub grants_whole : (grants : List Grant) → has_float (grants_json grants) ≡ false
grants_whole grants = rw (list_whole grant_json (λ grant. granted_whole _ grant.on) grants) refl

-- the answers of the management API
pub ruleset answers_whole = (principal_whole, principals_whole, role_whole, roles_whole, grants_whole)
