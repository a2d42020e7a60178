-- What catalogues, principals, roles, memberships, joins and grants were found by.
use Rattle.std.proofs.Common.{◌≡◌, Bool, cond, List, [], ◌∷◌, None, Some, sym, ap, subst, ◌∙◌, inl, inr, ℕ, true, Option, is_some, refl, option_and_then}
use Rattle.std.specs.List.{find, AllByRecursion}
use Rattle.std.proofs.lemmas.Bool.{cases_Bool}
use Rattle.std.specs.Str.{bytes_eq}
use Rattle.std.proofs.lemmas.Slice.Eq.{bytes_eq-Decides}
use Rattle.pol_access.specs.Access.{catalog_role_id, principal_id, principal_role_id}
use Rattle.pol_access.specs.Names.{catalog_role_named, has_catalog_role_name, has_name, has_role_name, principal_named, principal_role_named}
use Rattle.pol_access.specs.declared.rows.CatalogRoleRow.{CatalogRoleRow}
use Rattle.pol_access.specs.declared.rows.GrantRow.{GrantRow}
use Rattle.pol_access.specs.declared.rows.JoinRow.{JoinRow}
use Rattle.pol_access.specs.declared.rows.MemberRow.{MemberRow}
use Rattle.pol_access.specs.declared.rows.PrincipalRoleRow.{PrincipalRoleRow}
use Rattle.pol_access.specs.declared.rows.PrincipalRow.{PrincipalRow}
use Rattle.pol_access.specs.declared.securable.Securable.{Securable}
use Rattle.pol_tables.proofs.TableLemmas.{some_is, is_some-row_of}
use Rattle.pol_tables.specs.Table.{knows, row_of, IdsDiffer}
use Rattle.pol_tables.proofs.RisingLemmas.{IdsDiffer-rising}
use Rattle.pol_tables.proofs.NamedLemmas.{each-own}
use Rattle.pol_content.specs.Content.{catalog_named, catalog_id, is_catalog_named}
use Rattle.pol_content.specs.declared.rows.CatalogRow.{CatalogRow}
use Rattle.pol_access.proofs.KeptLemmas.{found-passes}
use Rattle.pol_content.proofs.TiesLemmas.{found-own, role-name}
use Rattle.pol_commands.specs.declared.grants.Grant.{Grant}
use Rattle.pol_commands.specs.declared.grants.GrantedOn.{GrantedOn}
use Rattle.pol_commands.specs.declared.command.Command.{Command}
use Rattle.pol_state.specs.Rows.{Rows}
use Rattle.pol_state.specs.Sound.{IsSound}
use Rattle.pol_rules.specs.AccessRules.{catalog_role_at, grant_of, join_of, member_of, of_both, securable_at, securable_in}

-- what holds of each row holds of the one that is found
pub found-holds : {R : Type 0} (P : R → Type 0) (test : R → Bool) (rows : List R) (row : R) → AllByRecursion P rows → find test rows ≡ Some row → P row
found-holds P test [] row all found = let contrary : None ≡ Some row = found in cc
found-holds P test (first ∷ rows) row all found = elim (cases_Bool (test first)) [
  | inl here ↦ subst P (some_is first row (sym (ap (λ b. cond b (Some first) (find test rows)) here) ∙ found)) all.0
  | inr other ↦ found-holds P test rows row all.1 (sym (ap (λ b. cond b (Some first) (find test rows)) other) ∙ found)
]

-- texts that compare as equal are equal, and a text compares as equal to itself
pub text-is : (left right : List ℕ) → bytes_eq left right ≡ true → left ≡ right
text-is left right same = (bytes_eq-Decides left right).0 same

pub text-same : (left right : List ℕ) → left ≡ right → bytes_eq left right ≡ true
text-same left right is = (bytes_eq-Decides left right).1 is

-- the id of a row that is there is known
pub known : {R : Type 0} (key : R → ℕ) (id : ℕ) (row : R) (rows : List R) → row_of key id rows ≡ Some row → knows key id rows ≡ true
known key id row rows own = sym (is_some-row_of key id rows) ∙ ap is_some own

module _ (s : Rows) where
  -- a catalogue and its role that were found by their names
  pub record IsRoleAt (catalog name : List ℕ) (row : CatalogRoleRow) : Type 0 where
    pub owner : CatalogRow
    pub owner_there : catalog_named catalog s.content ≡ Some owner
    pub there : catalog_role_named owner.id name s.access ≡ Some row

  pub role-at : (catalog name : List ℕ) (row : CatalogRoleRow) → catalog_role_at s catalog name ≡ Some row → IsRoleAt catalog name row
  role-at catalog name row found = by (catalog_named catalog s.content) refl found
    where
      by : (owner : Option CatalogRow) → catalog_named catalog s.content ≡ owner → option_and_then (λ (one : CatalogRow). catalog_role_named one.id name s.access) owner ≡ Some row → IsRoleAt catalog name row
      by None owner_there is = let contrary : None ≡ Some row = is in cc
      by (Some owner) owner_there is = record { owner = owner; owner_there = owner_there; there = is }

  pub at-named : (catalog name : List ℕ) (row : CatalogRoleRow) (at : IsRoleAt catalog name row) → (row.catalog ≡ at.owner.id) × (row.name ≡ name)
  at-named catalog name row at =
      role-name at.owner.id name row (found-passes (has_catalog_role_name at.owner.id name) s.access.catalog_roles row at.there)

  -- what a membership was found by
  pub record IsMemberOf (principal role : List ℕ) (row : MemberRow) : Type 0 where
    pub one : PrincipalRow
    pub one_there : principal_named principal s.access ≡ Some one
    pub of : PrincipalRoleRow
    pub of_there : principal_role_named role s.access ≡ Some of
    pub is : record { principal = one.id; role = of.id } ≡ row

  pub member-found : (principal role : List ℕ) (row : MemberRow) → member_of s principal role ≡ Some row → IsMemberOf principal role row
  unfolding member_of
  member-found principal role row found = by (principal_named principal s.access) (principal_role_named role s.access) refl refl found
    where
      by : (one : Option PrincipalRow) (of : Option PrincipalRoleRow) → principal_named principal s.access ≡ one → principal_role_named role s.access ≡ of → of_both (λ (one : PrincipalRow) (of : PrincipalRoleRow). let made : MemberRow = record { principal = one.id; role = of.id } in made) one of ≡ Some row → IsMemberOf principal role row
      by None of one_there of_there is = let contrary : None ≡ Some row = is in cc
      by (Some one) None one_there of_there is = let contrary : None ≡ Some row = is in cc
      by (Some one) (Some of) one_there of_there is = record { one = one; one_there = one_there; of = of; of_there = of_there; is = some_is (record { principal = one.id; role = of.id }) row is }

  -- what a join was found by
  pub record IsJoinOf (catalog role catalog_role : List ℕ) (row : JoinRow) : Type 0 where
    pub one : PrincipalRoleRow
    pub one_there : principal_role_named role s.access ≡ Some one
    pub to : CatalogRoleRow
    pub to_there : IsRoleAt catalog catalog_role to
    pub is : record { principal_role = one.id; catalog_role = to.id } ≡ row

  pub join-found : (catalog role catalog_role : List ℕ) (row : JoinRow) → join_of s catalog role catalog_role ≡ Some row → IsJoinOf catalog role catalog_role row
  unfolding join_of
  join-found catalog role catalog_role row found = by (principal_role_named role s.access) (catalog_role_at s catalog catalog_role) refl refl found
    where
      by : (one : Option PrincipalRoleRow) (to : Option CatalogRoleRow) → principal_role_named role s.access ≡ one → catalog_role_at s catalog catalog_role ≡ to → of_both (λ (one : PrincipalRoleRow) (to : CatalogRoleRow). let made : JoinRow = record { principal_role = one.id; catalog_role = to.id } in made) one to ≡ Some row → IsJoinOf catalog role catalog_role row
      by None to one_there to_there is = let contrary : None ≡ Some row = is in cc
      by (Some one) None one_there to_there is = let contrary : None ≡ Some row = is in cc
      by (Some one) (Some to) one_there to_there is = record { one = one; one_there = one_there; to = to; to_there = role-at catalog catalog_role to to_there; is = some_is (record { principal_role = one.id; catalog_role = to.id }) row is }

  -- what a grant was found by
  pub record IsGrantAt (catalog role : List ℕ) (grant : Grant) (row : GrantRow) : Type 0 where
    pub to : CatalogRoleRow
    pub to_there : IsRoleAt catalog role to
    pub one : Securable
    pub one_there : securable_in s grant.on to_there.owner ≡ Some one
    pub is : record { catalog_role = to.id; privilege = grant.privilege; securable = one } ≡ row

  securable-found : (catalog : List ℕ) (owner : CatalogRow) (named : GrantedOn) (one : Securable) → catalog_named catalog s.content ≡ Some owner → securable_at s catalog named ≡ Some one → securable_in s named owner ≡ Some one
  securable-found catalog owner named one owner_there found = sym (ap (option_and_then (securable_in s named)) owner_there) ∙ found

  pub grant-found : (catalog role : List ℕ) (grant : Grant) (row : GrantRow) → grant_of s catalog role grant ≡ Some row → IsGrantAt catalog role grant row
  unfolding grant_of
  grant-found catalog role grant row found = by (catalog_role_at s catalog role) (securable_at s catalog grant.on) refl refl found
    where
      by : (to : Option CatalogRoleRow) (one : Option Securable) → catalog_role_at s catalog role ≡ to → securable_at s catalog grant.on ≡ one → of_both (λ (to : CatalogRoleRow) (one : Securable). let made : GrantRow = record { catalog_role = to.id; privilege = grant.privilege; securable = one } in made) to one ≡ Some row → IsGrantAt catalog role grant row
      by None one to_there one_there is = let contrary : None ≡ Some row = is in cc
      by (Some to) None to_there one_there is = let contrary : None ≡ Some row = is in cc
      by (Some to) (Some one) to_there one_there is =
          let at = role-at catalog role to to_there in
          record { to = to; to_there = at; one = one; one_there = securable-found catalog at.owner grant.on one at.owner_there one_there; is = some_is (record { catalog_role = to.id; privilege = grant.privilege; securable = one }) row is }

  module _ (sound : IsSound s) where
    -- what is found by its name has it, and is the row of its id
    pub principal-own : (name : List ℕ) (row : PrincipalRow) → principal_named name s.access ≡ Some row → row_of principal_id row.id s.access.principals ≡ Some row
    principal-own name row found =
        found-own principal_id (has_name name) row s.access.principals (IdsDiffer-rising principal_id s.access.principals sound.orderly.access.principals.rise) found

    pub role-own : (name : List ℕ) (row : PrincipalRoleRow) → principal_role_named name s.access ≡ Some row → row_of principal_role_id row.id s.access.principal_roles ≡ Some row
    role-own name row found =
        found-own principal_role_id (has_role_name name) row s.access.principal_roles (IdsDiffer-rising principal_role_id s.access.principal_roles sound.orderly.access.principal_roles.rise) found

    pub principal-is : (name : List ℕ) (row : PrincipalRow) → principal_named name s.access ≡ Some row → name ≡ row.name
    principal-is name row found = text-is name row.name (found-passes (has_name name) s.access.principals row found)

    pub role-is : (name : List ℕ) (row : PrincipalRoleRow) → principal_role_named name s.access ≡ Some row → name ≡ row.name
    role-is name row found = text-is name row.name (found-passes (has_role_name name) s.access.principal_roles row found)

    pub at-own : (catalog name : List ℕ) (row : CatalogRoleRow) → IsRoleAt catalog name row → row_of catalog_role_id row.id s.access.catalog_roles ≡ Some row
    at-own catalog name row at =
        found-own catalog_role_id (has_catalog_role_name at.owner.id name) row s.access.catalog_roles (IdsDiffer-rising catalog_role_id s.access.catalog_roles sound.orderly.access.catalog_roles.rise) at.there

module _ (s : Rows) (command : Command) (sound : IsSound s) where
  catalogs-differ : IdsDiffer catalog_id s.content.catalogs
  catalogs-differ = IdsDiffer-rising catalog_id s.content.catalogs sound.orderly.content.catalogs.rise

  -- what is found by its name is the row of its id
  pub catalog-own : (name : List ℕ) (row : CatalogRow) → catalog_named name s.content ≡ Some row → row_of catalog_id row.id s.content.catalogs ≡ Some row
  catalog-own name row found =
      found-holds (λ one. row_of catalog_id (catalog_id one) s.content.catalogs ≡ Some one) (is_catalog_named name) s.content.catalogs row (each-own catalog_id s.content.catalogs catalogs-differ) found
