-- Members, joins and grants in rising order: what the sort does, and that the numbers of rows tell them apart.
use Rattle.std.proofs.Common.{◌≡◌, ℕ, Bool, List, [], ◌∷◌, refl, sym, ap, ◌∙◌, slice_index_or, nat_cmp}
use Rattle.std.specs.Cmp.{IsTotalOrder, on_total}
use Rattle.std.specs.Cmp.Lexicographic.{same_text, slice_cmp}
use Rattle.std.specs.Coded.{Coded}
use Rattle.std.specs.List.{list_all}
use Rattle.std.specs.Ordering.{is_eq, ordering_then}
use Rattle.std.specs.contracts.cmp.Ordering as ordering
use Rattle.std.specs.declared.cmp.Ordering.{Ordering}
use Rattle.std.specs.declared.cmp.Ordering.TheVariants.{Less, Equal, Greater}
use Rattle.std.proofs.lemmas.Cmp.{nat_list_cmp_total}
use Rattle.std.proofs.lemmas.Map.Text.{is_eq-slice_cmp}
use Rattle.pol_tables.specs.Order.{in_order}
use Rattle.pol_tables.specs.Same.{same, same_code}
use Rattle.pol_tables.proofs.OrderLemmas.{moved-in_order, rises-in_order}
use Rattle.pol_tables.proofs.SameLemmas.{same-true}
use Rattle.pol_access.specs.Laws.{AreListedInOrder, FactsAreInOrder}
use Rattle.pol_access.specs.Order.{by_numbers, grant_cmp, grant_numbers, grants_in_order, join_cmp, join_numbers, joins_in_order, member_cmp, member_numbers, members_in_order, securable_numbers}
use Rattle.pol_access.specs.Privilege.{privilege_is, privilege_number, privileges, same_privilege}
use Rattle.pol_access.specs.contracts.privilege.PrivilegeOrd.TheImpl as privilege_order
use Rattle.pol_access.specs.contracts.rows.GrantRow as grant
use Rattle.pol_access.specs.contracts.rows.GrantRowOrd.TheImpl as grant_order
use Rattle.pol_access.specs.contracts.rows.JoinRow as join
use Rattle.pol_access.specs.contracts.rows.JoinRowOrd.TheImpl as join_order
use Rattle.pol_access.specs.contracts.rows.MemberRow as member
use Rattle.pol_access.specs.contracts.rows.MemberRowOrd.TheImpl as member_order
use Rattle.pol_access.specs.contracts.securable.SecurableOrd.TheImpl as securable_order
use Rattle.pol_access.specs.declared.privilege.Privilege.{Privilege}
use Rattle.pol_access.specs.declared.privilege.Privilege.TheVariants.{NamespaceCreate}
use Rattle.pol_access.specs.declared.rows.GrantRow.{GrantRow}
use Rattle.pol_access.specs.declared.rows.JoinRow.{JoinRow}
use Rattle.pol_access.specs.declared.rows.MemberRow.{MemberRow}
use Rattle.pol_access.specs.declared.securable.Securable.{Securable}
use Rattle.pol_access.specs.declared.securable.Securable.TheVariants.{Realm, Catalog, Namespace, Table, View}
use Rattle.pol_access.proofs.PrivilegeLemmas.{each-privilege}

-- rows that their numbers tell apart
module _ {T : Type 0} (code : Coded T) (numbers : T → List ℕ) (row_of : List ℕ → T) (told : (row : T) → row_of (numbers row) ≡ row) where
  total : IsTotalOrder (by_numbers numbers)
  total = on_total numbers nat_list_cmp_total

  tie : (left right : T) → by_numbers numbers left right ≡ Equal → left ≡ right
  tie left right equal =
      let alike : numbers left ≡ numbers right = same_text (numbers left) (numbers right) (sym (sym (is_eq-slice_cmp (numbers left) (numbers right)) ∙ ap is_eq equal)) in
      sym (told left) ∙ ap row_of alike ∙ told right

  listed-in_order : AreListedInOrder code (by_numbers numbers)
  listed-in_order rows = (moved-in_order (by_numbers numbers) rows, rises-in_order (by_numbers numbers) total code tie rows)

-- rows of their numbers
abbrev first_of : List ℕ → ℕ
first_of [] = 0
first_of (n ∷ ns) = n

abbrev rest_of : List ℕ → List ℕ
rest_of [] = []
rest_of (n ∷ ns) = ns

abbrev member_of : List ℕ → MemberRow
member_of ns = record { principal = first_of ns; role = first_of (rest_of ns) }

abbrev join_of : List ℕ → JoinRow
join_of ns = record { principal_role = first_of ns; catalog_role = first_of (rest_of ns) }

abbrev securable_of : List ℕ → Securable
securable_of ns =
    let id = first_of (rest_of ns) in
    slice_index_or (Realm ∷ Catalog id ∷ Namespace id ∷ Table id ∷ View id ∷ []) (first_of ns) Realm

abbrev grant_of : List ℕ → GrantRow
grant_of ns = record {
  catalog_role = first_of ns;
  privilege = slice_index_or privileges (first_of (rest_of ns)) NamespaceCreate;
  securable = securable_of (rest_of (rest_of ns));
}

securable-told : (one : Securable) → securable_of (securable_numbers one) ≡ one
securable-told Realm = refl
securable-told (Catalog id) = refl
securable-told (Namespace id) = refl
securable-told (Table id) = refl
securable-told (View id) = refl

privilege-told : (one : Privilege) → slice_index_or privileges (privilege_number one) NamespaceCreate ≡ one
privilege-told one =
    privilege_is (slice_index_or privileges (privilege_number one) NamespaceCreate) one (each-privilege (λ one. same_privilege (slice_index_or privileges (privilege_number one) NamespaceCreate) one) refl one)

grant-told : (row : GrantRow) → grant_of (grant_numbers row) ≡ row
grant-told row = λ i. record { catalog_role = row.catalog_role; privilege = privilege-told row.privilege i; securable = securable-told row.securable i }

pub facts_in_order : FactsAreInOrder
facts_in_order = (
  listed-in_order member.the_row.coded member_numbers member_of (λ row. refl),
  listed-in_order join.the_row.coded join_numbers join_of (λ row. refl),
  listed-in_order grant.the_row.coded grant_numbers grant_of grant-told,
)

-- the comparisons of rows go by their numbers
then_equal : (o : Ordering) → o ≡ ordering_then o Equal
then_equal Less = refl
then_equal Equal = refl
then_equal Greater = refl

privilege-compared : (left right : Privilege) → privilege_order.ghosts.cmp left right ≡ nat_cmp (privilege_number left) (privilege_number right)
unfolding same same_code
privilege-compared left right =
    same-true ordering.the_row.coded (privilege_order.ghosts.cmp left right) (nat_cmp (privilege_number left) (privilege_number right)) (each-privilege (agree left) (each-privilege (λ one. list_all (agree one) privileges) refl left) right)
  where
    agree : Privilege → Privilege → Bool
    agree one other = same ordering.the_row.coded (privilege_order.ghosts.cmp one other) (nat_cmp (privilege_number one) (privilege_number other))

securable-compared : (left right : Securable) → securable_order.ghosts.cmp left right ≡ slice_cmp nat_cmp (securable_numbers left) (securable_numbers right)
securable-compared Realm Realm = refl
securable-compared Realm (Catalog other) = refl
securable-compared Realm (Namespace other) = refl
securable-compared Realm (Table other) = refl
securable-compared Realm (View other) = refl
securable-compared (Catalog one) Realm = refl
securable-compared (Catalog one) (Catalog other) = then_equal (nat_cmp one other)
securable-compared (Catalog one) (Namespace other) = refl
securable-compared (Catalog one) (Table other) = refl
securable-compared (Catalog one) (View other) = refl
securable-compared (Namespace one) Realm = refl
securable-compared (Namespace one) (Catalog other) = refl
securable-compared (Namespace one) (Namespace other) = then_equal (nat_cmp one other)
securable-compared (Namespace one) (Table other) = refl
securable-compared (Namespace one) (View other) = refl
securable-compared (Table one) Realm = refl
securable-compared (Table one) (Catalog other) = refl
securable-compared (Table one) (Namespace other) = refl
securable-compared (Table one) (Table other) = then_equal (nat_cmp one other)
securable-compared (Table one) (View other) = refl
securable-compared (View one) Realm = refl
securable-compared (View one) (Catalog other) = refl
securable-compared (View one) (Namespace other) = refl
securable-compared (View one) (Table other) = refl
securable-compared (View one) (View other) = then_equal (nat_cmp one other)

member-compared : member_order.ghosts.cmp ≡ member_cmp
member-compared = λ i left right. ordering_then (nat_cmp left.principal right.principal) (then_equal (nat_cmp left.role right.role) i)

join-compared : join_order.ghosts.cmp ≡ join_cmp
join-compared = λ i left right. ordering_then (nat_cmp left.principal_role right.principal_role) (then_equal (nat_cmp left.catalog_role right.catalog_role) i)

grant-compared : grant_order.ghosts.cmp ≡ grant_cmp
grant-compared = λ i left right. ordering_then (nat_cmp left.catalog_role right.catalog_role) (ordering_then (privilege-compared left.privilege right.privilege i) (securable-compared left.securable right.securable i))

pub members_sorted : (rows : List MemberRow) → in_order member_order.ghosts.cmp rows ≡ members_in_order rows
members_sorted rows = ap (λ cmp. in_order cmp rows) member-compared

pub joins_sorted : (rows : List JoinRow) → in_order join_order.ghosts.cmp rows ≡ joins_in_order rows
joins_sorted rows = ap (λ cmp. in_order cmp rows) join-compared

pub grants_sorted : (rows : List GrantRow) → in_order grant_order.ghosts.cmp rows ≡ grants_in_order rows
grants_sorted rows = ap (λ cmp. in_order cmp rows) grant-compared
