-- The fresh state.
use Rattle.std.proofs.Common.{◌≡◌, ℕ, false, ◌||◌, List, [], ◌∷◌, refl, ap, ◌∙◌, lit≤, lit<}
use Rattle.std.specs.List.{IsDistinct}
use Rattle.pol_access.specs.Access.{AccessRows, principal_id, principal_role_id}
use Rattle.pol_access.specs.contracts.rows.MemberRow.{the_row}
use Rattle.pol_access.specs.declared.rows.MemberRow.{MemberRow}
use Rattle.pol_access.specs.declared.rows.PrincipalRoleRow.{PrincipalRoleRow}
use Rattle.pol_access.specs.declared.rows.PrincipalRow.{PrincipalRow}
use Rattle.pol_tables.specs.Facts.{facts_with}
use Rattle.pol_tables.specs.Rising.{KeysRise}
use Rattle.pol_tables.specs.Table.{rows_with}
use Rattle.pol_tables.proofs.SameLemmas.{same-refl}
use Rattle.pol_tables.proofs.TableLemmas.{rows_with-new}
use Rattle.pol_content.specs.Content.{ContentRows}
use Rattle.pol_tokens.specs.Tokens.{TokenRows}
use Rattle.pol_state.specs.Bounds.{over_limit}
use Rattle.pol_state.specs.Rows.{fresh_state, root_row, service_admin_row}
use Rattle.pol_state.specs.Sound.{IsOrderly, IsSound}

abbrev membership : MemberRow
membership = record { principal = 1; role = 2 }

fact-first : (fact : MemberRow) → facts_with the_row.coded fact [] ≡ fact ∷ []
unfolding facts_with
fact-first fact = refl

-- rows of these principals, principal roles and members alone
abbrev rows_of : List PrincipalRow → List PrincipalRoleRow → List MemberRow → AccessRows
rows_of principals roles members = record { principals = principals; principal_roles = roles; catalog_roles = []; members = members; joins = []; grants = [] }

-- the three rows, put one after the other
module _ (secret : List ℕ) (before one two three : AccessRows) where
  root-put : before ≡ rows_of [] [] [] → (row : PrincipalRow) → row ≡ root_row secret
      → one ≡ record before { principals = rows_with principal_id row before.principals }
      → one ≡ rows_of (root_row secret ∷ []) [] []
  root-put empty row row_is put =
      put
      ∙ ap (λ (access : AccessRows). record access { principals = rows_with principal_id row access.principals }) empty
      ∙ ap (λ (rows : List PrincipalRow). rows_of rows [] []) (rows_with-new principal_id row [] refl ∙ ap (λ row. row ∷ []) row_is)

  role-put : one ≡ rows_of (root_row secret ∷ []) [] [] → (row : PrincipalRoleRow) → row ≡ service_admin_row
      → two ≡ record one { principal_roles = rows_with principal_role_id row one.principal_roles }
      → two ≡ rows_of (root_row secret ∷ []) (service_admin_row ∷ []) []
  role-put rooted row row_is put =
      put
      ∙ ap (λ (access : AccessRows). record access { principal_roles = rows_with principal_role_id row access.principal_roles }) rooted
      ∙ ap (λ (rows : List PrincipalRoleRow). rows_of (root_row secret ∷ []) rows []) (rows_with-new principal_role_id row [] refl ∙ ap (λ row. row ∷ []) row_is)

  member-put : two ≡ rows_of (root_row secret ∷ []) (service_admin_row ∷ []) []
      → three ≡ record two { members = facts_with the_row.coded membership two.members }
      → three ≡ rows_of (root_row secret ∷ []) (service_admin_row ∷ []) (membership ∷ [])
  member-put manned put =
      put
      ∙ ap (λ (access : AccessRows). record access { members = facts_with the_row.coded membership access.members }) manned
      ∙ ap (λ (rows : List MemberRow). rows_of (root_row secret ∷ []) (service_admin_row ∷ []) rows) (fact-first membership)

fresh-is : (secret : List ℕ) → rows_of (root_row secret ∷ []) (service_admin_row ∷ []) (membership ∷ []) ≡ (fresh_state secret).access
unfolding fresh_state
fresh-is secret = refl

pub fresh-access : (secret : List ℕ) (root : PrincipalRow) (role : PrincipalRoleRow) (before one two three : AccessRows)
    → root ≡ root_row secret → role ≡ service_admin_row
    → before ≡ record { principals = []; principal_roles = []; catalog_roles = []; members = []; joins = []; grants = [] }
    → one ≡ record before { principals = rows_with principal_id root before.principals }
    → two ≡ record one { principal_roles = rows_with principal_role_id role one.principal_roles }
    → three ≡ record two { members = facts_with the_row.coded membership two.members }
    → three ≡ (fresh_state secret).access
fresh-access secret root role before one two three root_is role_is empty first second third =
    member-put secret before one two three (role-put secret before one two three (root-put secret before one two three empty root root_is first) role role_is second) third ∙ fresh-is secret

-- the state that the code makes
pub fresh-made : (secret : List ℕ) (access : AccessRows) (content : ContentRows) (tokens : TokenRows) → access ≡ (fresh_state secret).access → content ≡ record { catalogs = []; namespaces = []; tables = []; views = [] } → tokens ≡ record { sessions = []; tokens = [] }
    → record { access = access; content = content; tokens = tokens; time = 0; next_id = 3; next_serial = 0; charged = 0 } ≡ fresh_state secret
unfolding fresh_state
fresh-made secret access content tokens access_is content_is empty =
    λ i. record { access = access_is i; content = content_is i; tokens = empty i; time = 0; next_id = 3; next_serial = 0; charged = 0 }

-- it is sound
fresh-orderly : (secret : List ℕ) → IsOrderly (fresh_state secret)
unfolding fresh_state KeysRise IsDistinct
fresh-orderly secret = record {
  access = record {
    principals = record { rise = (tt, tt); given = ((lit≤ tt, lit< tt), tt) };
    principal_roles = record { rise = (tt, tt); given = ((lit≤ tt, lit< tt), tt) };
    catalog_roles = record { rise = tt; given = tt };
    ids_differ = (refl, tt);
    names_differ = (tt, tt);
    client_ids_differ = (tt, tt);
    role_names_differ = (tt, tt);
    catalog_roles_known = tt;
    catalog_role_names_differ = tt;
    members = record { differ = (tt, tt); each = (record { principal = refl; role = refl }, tt) };
    joins = record { differ = tt; each = tt };
    grants = record { differ = tt; each = tt };
    root_chain = record {
      root = root_row secret;
      admin = service_admin_row;
      root_there = refl;
      admin_there = refl;
      member = ap (λ held. held || false) (same-refl the_row.coded membership);
    };
  };
  content = record {
    catalogs = record { rise = tt; given = tt };
    namespaces = record { rise = tt; given = tt };
    ids_differ = tt;
    catalog_names_differ = tt;
    namespace_names_differ = tt;
    namespace_catalogs = tt;
    namespace_parents = tt;
    tables = record { numbered = record { rise = tt; given = tt }; ids_differ = tt; names_differ = tt; namespaces = tt; apart = tt; each = tt };
    views = record { numbered = record { rise = tt; given = tt }; ids_differ = tt; names_differ = tt; names_apart = tt; namespaces = tt; each = tt };
  };
  ties = record { role_catalogs = tt; grants_within = tt; catalog_admins = tt; ids_apart = record { catalogs = tt; namespaces = tt; tables = tt; views = tt } };
  tokens = record { sessions_rise = tt; sessions = tt; tokens_rise = tt; tokens = tt; serials_differ = tt };
  tokens_fit = tt;
  time_bound = lit≤ tt;
  charged_bound = lit≤ tt;
}

pub fresh-sound : (secret : List ℕ) → IsSound (fresh_state secret)
unfolding fresh_state over_limit
fresh-sound secret = record { orderly = fresh-orderly secret; within = refl }
