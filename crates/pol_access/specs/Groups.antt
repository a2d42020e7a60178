-- The groups of members, joins and grants, which are the ids that they have, and bounds on how many name a referent.
use Rattle.std.specs.Prelude.{ℕ, List, [], ◌∷◌, length, Option, None, Some}
use Rattle.std.specs.Option.{option_to_list}
use Rattle.pol_access.specs.Securable.{id_of}
use Rattle.pol_access.specs.declared.referent.Referent.{Referent}
use Rattle.pol_access.specs.declared.referent.Referent.TheVariants.{Principal, PrincipalRole, CatalogRole, RoleOfCatalog, Securable}
use Rattle.pol_access.specs.declared.rows.GrantRow.{GrantRow}
use Rattle.pol_access.specs.declared.rows.JoinRow.{JoinRow}
use Rattle.pol_access.specs.declared.rows.MemberRow.{MemberRow}
use Rattle.pol_tallies.specs.Grouped.{times_in}

abbrev pub member_groups : MemberRow → List ℕ
member_groups row = row.principal ∷ row.role ∷ []

abbrev pub join_groups : JoinRow → List ℕ
join_groups row = row.principal_role ∷ row.catalog_role ∷ []

-- a grant on the realm belongs to its role alone
abbrev pub grant_groups : GrantRow → List ℕ
grant_groups row = row.catalog_role ∷ option_to_list (id_of row.securable)

-- no fewer than the members that name the referent: those that have its id
abbrev pub members_at_most : Referent → List MemberRow → ℕ
members_at_most (Principal id) rows = times_in member_groups id rows
members_at_most (PrincipalRole id) rows = times_in member_groups id rows
members_at_most (CatalogRole id) rows = 0
members_at_most (RoleOfCatalog id) rows = 0
members_at_most (Securable one) rows = 0

-- no fewer than the joins that name it: all of them where it is many roles
abbrev pub joins_at_most : Referent → List JoinRow → ℕ
joins_at_most (Principal id) rows = 0
joins_at_most (PrincipalRole id) rows = times_in join_groups id rows
joins_at_most (CatalogRole id) rows = times_in join_groups id rows
joins_at_most (RoleOfCatalog id) rows = length rows
joins_at_most (Securable one) rows = 0

-- those that have an id, or all where there is none
abbrev pub grants_with : Option ℕ → List GrantRow → ℕ
grants_with None rows = length rows
grants_with (Some id) rows = times_in grant_groups id rows

-- no fewer than the grants that name it: all of them where it is many roles or the realm
abbrev pub grants_at_most : Referent → List GrantRow → ℕ
grants_at_most (Principal id) rows = 0
grants_at_most (PrincipalRole id) rows = 0
grants_at_most (CatalogRole id) rows = times_in grant_groups id rows
grants_at_most (RoleOfCatalog id) rows = length rows
grants_at_most (Securable one) rows = grants_with (id_of one) rows
