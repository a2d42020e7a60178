-- Lists in order.
use Rattle.std.specs.Prelude.{ℕ, List, [], ◌∷◌}
use Rattle.std.specs.Cmp.Lexicographic.{slice_cmp}
use Rattle.std.specs.Ordering.{nat_cmp}
use Rattle.std.specs.declared.cmp.Ordering.{Ordering}
use Rattle.pol_access.specs.Privilege.{privilege_number}
use Rattle.pol_access.specs.declared.rows.GrantRow.{GrantRow}
use Rattle.pol_access.specs.declared.rows.JoinRow.{JoinRow}
use Rattle.pol_access.specs.declared.rows.MemberRow.{MemberRow}
use Rattle.pol_access.specs.declared.securable.Securable.{Securable}
use Rattle.pol_access.specs.declared.securable.Securable.TheVariants.{Realm, Catalog, Namespace, Table, View}
use Rattle.pol_tables.specs.Order.{in_order}

-- the numbers of a securable: that of its kind, and its id where it has one
abbrev pub securable_numbers : Securable → List ℕ
securable_numbers Realm = 0 ∷ []
securable_numbers (Catalog id) = 1 ∷ id ∷ []
securable_numbers (Namespace id) = 2 ∷ id ∷ []
securable_numbers (Table id) = 3 ∷ id ∷ []
securable_numbers (View id) = 4 ∷ id ∷ []

-- the numbers of a member, a join and a grant, field by field
abbrev pub member_numbers : MemberRow → List ℕ
member_numbers row = row.principal ∷ row.role ∷ []

abbrev pub join_numbers : JoinRow → List ℕ
join_numbers row = row.principal_role ∷ row.catalog_role ∷ []

abbrev pub grant_numbers : GrantRow → List ℕ
grant_numbers row = row.catalog_role ∷ privilege_number row.privilege ∷ securable_numbers row.securable

-- which of two comes first: the first number in which they differ decides
abbrev pub by_numbers : {T : Type 0} → (T → List ℕ) → T → T → Ordering
by_numbers numbers left right = slice_cmp nat_cmp (numbers left) (numbers right)

abbrev pub member_cmp : MemberRow → MemberRow → Ordering
member_cmp = by_numbers member_numbers

abbrev pub join_cmp : JoinRow → JoinRow → Ordering
join_cmp = by_numbers join_numbers

abbrev pub grant_cmp : GrantRow → GrantRow → Ordering
grant_cmp = by_numbers grant_numbers

-- the rows in byte order of their names
abbrev pub by_name : {R : Type 0} → (R → List ℕ) → List R → List R
by_name name rows = in_order (by_numbers name) rows

-- members, joins and grants in rising order
abbrev pub members_in_order : List MemberRow → List MemberRow
members_in_order rows = in_order member_cmp rows

abbrev pub joins_in_order : List JoinRow → List JoinRow
joins_in_order rows = in_order join_cmp rows

abbrev pub grants_in_order : List GrantRow → List GrantRow
grants_in_order rows = in_order grant_cmp rows
