-- Members, joins and grants in rising order: what the sort does.
use Rattle.std.proofs.Common.{◌≡◌, Bool, List, refl, ap, nat_cmp}
use Rattle.std.specs.Cmp.Lexicographic.{slice_cmp}
use Rattle.std.specs.List.{list_all}
use Rattle.std.specs.Ordering.{ordering_then}
use Rattle.std.specs.contracts.cmp.Ordering as ordering
use Rattle.std.specs.declared.cmp.Ordering.{Ordering}
use Rattle.std.specs.declared.cmp.Ordering.TheVariants.{Less, Equal, Greater}
use Rattle.pol_tables.specs.Order.{in_order}
use Rattle.pol_tables.specs.Same.{same, same_code}
use Rattle.pol_tables.proofs.SameLemmas.{same-true}
use Rattle.pol_access.specs.Order.{grant_cmp, grants_in_order, join_cmp, joins_in_order, member_cmp, members_in_order, securable_numbers}
use Rattle.pol_access.specs.Privilege.{privilege_number, privileges}
use Rattle.pol_access.specs.contracts.privilege.PrivilegeOrd.TheImpl as privilege_order
use Rattle.pol_access.specs.contracts.rows.GrantRowOrd.TheImpl as grant_order
use Rattle.pol_access.specs.contracts.rows.JoinRowOrd.TheImpl as join_order
use Rattle.pol_access.specs.contracts.rows.MemberRowOrd.TheImpl as member_order
use Rattle.pol_access.specs.contracts.securable.SecurableOrd.TheImpl as securable_order
use Rattle.pol_access.specs.declared.privilege.Privilege.{Privilege}
use Rattle.pol_access.specs.declared.rows.GrantRow.{GrantRow}
use Rattle.pol_access.specs.declared.rows.JoinRow.{JoinRow}
use Rattle.pol_access.specs.declared.rows.MemberRow.{MemberRow}
use Rattle.pol_access.specs.declared.securable.Securable.{Securable}
use Rattle.pol_access.specs.declared.securable.Securable.TheVariants.{Realm, Catalog, Namespace, Table, View}
use Rattle.pol_access.proofs.PrivilegeLemmas.{each-privilege}

-- the comparisons of rows go by their numbers
then_equal : (o : Ordering) → o ≡ ordering_then o Equal
then_equal Less = refl
then_equal Equal = refl
then_equal Greater = refl

privilege-compared : (left right : Privilege) → privilege_order.ghosts.cmp left right ≡ nat_cmp (privilege_number left) (privilege_number right)
unfolding same same_code
privilege-compared left right =
    same-true ordering.the_row.coded (privilege_order.ghosts.cmp left right) (nat_cmp (privilege_number left) (privilege_number right)) (each-privilege (agree left) (each-privilege (λ one. list_all (agree one) privileges) refl left) right)
  where
    agree : Privilege → Privilege → Bool
    agree one other = same ordering.the_row.coded (privilege_order.ghosts.cmp one other) (nat_cmp (privilege_number one) (privilege_number other))

securable-compared : (left right : Securable) → securable_order.ghosts.cmp left right ≡ slice_cmp nat_cmp (securable_numbers left) (securable_numbers right)
securable-compared Realm Realm = refl
securable-compared Realm (Catalog other) = refl
securable-compared Realm (Namespace other) = refl
securable-compared Realm (Table other) = refl
securable-compared Realm (View other) = refl
securable-compared (Catalog one) Realm = refl
securable-compared (Catalog one) (Catalog other) = then_equal (nat_cmp one other)
securable-compared (Catalog one) (Namespace other) = refl
securable-compared (Catalog one) (Table other) = refl
securable-compared (Catalog one) (View other) = refl
securable-compared (Namespace one) Realm = refl
securable-compared (Namespace one) (Catalog other) = refl
securable-compared (Namespace one) (Namespace other) = then_equal (nat_cmp one other)
securable-compared (Namespace one) (Table other) = refl
securable-compared (Namespace one) (View other) = refl
securable-compared (Table one) Realm = refl
securable-compared (Table one) (Catalog other) = refl
securable-compared (Table one) (Namespace other) = refl
securable-compared (Table one) (Table other) = then_equal (nat_cmp one other)
securable-compared (Table one) (View other) = refl
securable-compared (View one) Realm = refl
securable-compared (View one) (Catalog other) = refl
securable-compared (View one) (Namespace other) = refl
securable-compared (View one) (Table other) = refl
securable-compared (View one) (View other) = then_equal (nat_cmp one other)

member-compared : member_order.ghosts.cmp ≡ member_cmp
member-compared = λ i left right. ordering_then (nat_cmp left.principal right.principal) (then_equal (nat_cmp left.role right.role) i)

join-compared : join_order.ghosts.cmp ≡ join_cmp
join-compared = λ i left right. ordering_then (nat_cmp left.principal_role right.principal_role) (then_equal (nat_cmp left.catalog_role right.catalog_role) i)

grant-compared : grant_order.ghosts.cmp ≡ grant_cmp
grant-compared = λ i left right. ordering_then (nat_cmp left.catalog_role right.catalog_role) (ordering_then (privilege-compared left.privilege right.privilege i) (securable-compared left.securable right.securable i))

pub members_sorted : (rows : List MemberRow) → in_order member_order.ghosts.cmp rows ≡ members_in_order rows
members_sorted rows = ap (λ cmp. in_order cmp rows) member-compared

pub joins_sorted : (rows : List JoinRow) → in_order join_order.ghosts.cmp rows ≡ joins_in_order rows
joins_sorted rows = ap (λ cmp. in_order cmp rows) join-compared

pub grants_sorted : (rows : List GrantRow) → in_order grant_order.ghosts.cmp rows ≡ grants_in_order rows
grants_sorted rows = ap (λ cmp. in_order cmp rows) grant-compared
