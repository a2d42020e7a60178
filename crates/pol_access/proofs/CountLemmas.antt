-- How many members, joins and grants name a referent: no more than have its id.
use Rattle.std.proofs.Common.{◌≡◌, ℕ, ◌+◌, ◌≤◌, Bool, false, ◌==◌, cond, nat_eq, List, [], ◌∷◌, Option, Some, None, refl, ap, ◌∙◌, inl, inr, arith}
use Rattle.std.specs.Cmp.{nat_eq_equiv}
use Rattle.std.specs.List.{count_by}
use Rattle.std.specs.Option.{option_to_list}
use Rattle.std.proofs.lemmas.Bool.{cases_Bool}
use Rattle.std.proofs.lemmas.List.Sums.{count_by-le-length, sum_by-cons, sum_by-le-sum_by}
use Rattle.pol_access.specs.Access.{AccessRows, names_in}
use Rattle.pol_access.specs.Groups.{grant_groups, grants_at_most, grants_with, join_groups, joins_at_most, member_groups, members_at_most}
use Rattle.pol_access.specs.Referent.{grant_names, join_names, member_names}
use Rattle.pol_access.specs.Securable.{id_of}
use Rattle.pol_access.specs.contracts.securable.Securable.{the_row}
use Rattle.pol_access.specs.declared.referent.Referent.{Referent}
use Rattle.pol_access.specs.declared.referent.Referent.TheVariants.{Principal, PrincipalRole, CatalogRole, RoleOfCatalog}
use Rattle.pol_access.specs.declared.referent.Referent.TheVariants as referent
use Rattle.pol_access.specs.declared.rows.CatalogRoleRow.{CatalogRoleRow}
use Rattle.pol_access.specs.declared.rows.GrantRow.{GrantRow}
use Rattle.pol_access.specs.declared.rows.JoinRow.{JoinRow}
use Rattle.pol_access.specs.declared.rows.MemberRow.{MemberRow}
use Rattle.pol_access.specs.declared.securable.Securable.{Securable}
use Rattle.pol_tables.specs.Same.{same}
use Rattle.pol_tables.proofs.SameLemmas.{same-true}
use Rattle.pol_tallies.specs.Grouped.{times, times_in}

-- one where it passes the test
abbrev one_where : Bool → ℕ
one_where test = cond test 1 0

-- a number that stands first or second is counted there
at_first : (group first : ℕ) (rest : List ℕ) → one_where (first == group) ≤ times group (first ∷ rest)
at_first group first rest =
    let here : one_where (nat_eq group first) ≡ one_where (first == group) = ap one_where (nat_eq_equiv.symm group first) in
    let whole = sum_by-cons (λ one. one_where (nat_eq group one)) first rest in
    omega (arith, here, whole)

at_second : (group first second : ℕ) (rest : List ℕ) → one_where (second == group) ≤ times group (first ∷ second ∷ rest)
at_second group first second rest =
    let here = at_first group second rest in
    let whole = sum_by-cons (λ one. one_where (nat_eq group one)) first (second ∷ rest) in
    omega (arith, here, whole)

-- of a test that always fails, none is counted
none_passes : {T : Type 0} (rows : List T) → count_by (λ row. false) rows ≤ 0
none_passes [] = omega arith
none_passes (row ∷ rows) =
    let whole = sum_by-cons (λ one. one_where false) row rows in
    omega (arith, whole, none_passes rows)

-- where each row that passes has the group, no more pass than have it
within : {T : Type 0} (test : T → Bool) (groups : T → List ℕ) (group : ℕ) → ((row : T) → one_where (test row) ≤ times group (groups row)) → (rows : List T) → count_by test rows ≤ times_in groups group rows
within test groups group each rows = sum_by-le-sum_by (λ row. one_where (test row)) (λ row. times group (groups row)) rows each

-- no more members name a referent than can
few_members : (one : Referent) (rows : List MemberRow) → count_by (member_names one) rows ≤ members_at_most one rows
few_members (Principal id) rows = within (member_names (Principal id)) member_groups id (λ row. at_first id row.principal (row.role ∷ [])) rows
few_members (PrincipalRole id) rows = within (member_names (PrincipalRole id)) member_groups id (λ row. at_second id row.principal row.role []) rows
few_members (CatalogRole id) rows = none_passes rows
few_members (RoleOfCatalog id) rows = none_passes rows
few_members (referent.Securable one) rows = none_passes rows

module _ (roles : List CatalogRoleRow) where
  few_joins : (one : Referent) (rows : List JoinRow) → count_by (join_names roles one) rows ≤ joins_at_most one rows
  few_joins (Principal id) rows = none_passes rows
  few_joins (PrincipalRole id) rows = within (join_names roles (PrincipalRole id)) join_groups id (λ row. at_first id row.principal_role (row.catalog_role ∷ [])) rows
  few_joins (CatalogRole id) rows = within (join_names roles (CatalogRole id)) join_groups id (λ row. at_second id row.principal_role row.catalog_role []) rows
  few_joins (RoleOfCatalog id) rows = count_by-le-length (join_names roles (RoleOfCatalog id)) rows
  few_joins (referent.Securable one) rows = none_passes rows

  on_securable : (one : Securable) (id : ℕ) → id_of one ≡ Some id → (row : GrantRow) → one_where (same the_row.coded row.securable one) ≤ times id (grant_groups row)
  on_securable one id known row = elim (cases_Bool (same the_row.coded row.securable one)) [
    | inl yes_ ↦
        let ids : option_to_list (id_of row.securable) ≡ id ∷ [] = ap (λ other. option_to_list (id_of other)) (same-true the_row.coded row.securable one yes_) ∙ ap option_to_list known in
        let here = at_second id row.catalog_role id [] in
        let itself : one_where (id == id) ≡ 1 = ap one_where (nat_eq_equiv.refl id) in
        rw (yes_, ids) (omega (arith, here, itself))
    | inr no_ ↦ rw no_ (omega arith)
  ]

  few_grants_on : (one : Securable) (known : Option ℕ) → id_of one ≡ known → (rows : List GrantRow) → count_by (grant_names roles (referent.Securable one)) rows ≤ grants_with known rows
  few_grants_on one None is rows = count_by-le-length (grant_names roles (referent.Securable one)) rows
  few_grants_on one (Some id) is rows = within (grant_names roles (referent.Securable one)) grant_groups id (on_securable one id is) rows

  few_grants : (one : Referent) (rows : List GrantRow) → count_by (grant_names roles one) rows ≤ grants_at_most one rows
  few_grants (Principal id) rows = none_passes rows
  few_grants (PrincipalRole id) rows = none_passes rows
  few_grants (CatalogRole id) rows = within (grant_names roles (CatalogRole id)) grant_groups id (λ row. at_first id row.catalog_role (option_to_list (id_of row.securable))) rows
  few_grants (RoleOfCatalog id) rows = count_by-le-length (grant_names roles (RoleOfCatalog id)) rows
  few_grants (referent.Securable one) rows = few_grants_on one (id_of one) refl rows

-- no more of them name it than can
pub few_named : (one : Referent) (access : AccessRows) → names_in one access ≤ members_at_most one access.members + (joins_at_most one access.joins + grants_at_most one access.grants)
few_named one access =
    let members = few_members one access.members in
    let joins = few_joins access.catalog_roles one access.joins in
    let grants = few_grants access.catalog_roles one access.grants in
    omega (arith, members, joins, grants)
