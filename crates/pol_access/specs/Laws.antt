-- Laws of privileges, of what a caller may do, and of lists in order.
use Rattle.std.specs.Prelude.{◌≡◌, ◌↔◌, ℕ, true, List, Some, find}
use Rattle.std.specs.Coded.{Coded}
use Rattle.std.specs.List.{IsDistinct}
use Rattle.std.specs.List.Sorted.{IsPermutation, IsStrictlySortedBy}
use Rattle.std.specs.Str.{bytes_eq}
use Rattle.std.specs.declared.cmp.Ordering.{Ordering}
use Rattle.pol_access.specs.Access.{AccessRows}
use Rattle.pol_access.specs.Implication.{implies}
use Rattle.pol_access.specs.May.{May}
use Rattle.pol_access.specs.Order.{grant_cmp, join_cmp, member_cmp}
use Rattle.pol_access.specs.Privilege.{privileges, text_of}
use Rattle.pol_access.specs.Search.{may}
use Rattle.pol_access.specs.contracts.rows.GrantRow as grant
use Rattle.pol_access.specs.contracts.rows.JoinRow as join
use Rattle.pol_access.specs.contracts.rows.MemberRow as member
use Rattle.pol_access.specs.declared.privilege.Privilege.{Privilege}
use Rattle.pol_access.specs.declared.securable.Securable.{Securable}
use Rattle.pol_names.specs.declared.scope.Scope.{Scope}
use Rattle.pol_tables.specs.Order.{in_order}
use Rattle.pol_tables.specs.Same.{same}

-- each privilege is found by its text
abbrev pub TextsReadBack : Type 0
TextsReadBack = (privilege : Privilege) → find (λ kept. bytes_eq (text_of kept) (text_of privilege)) privileges ≡ Some privilege

-- each privilege implies itself
abbrev pub ImplicationIsReflexive : Type 0
ImplicationIsReflexive = (privilege : Privilege) → implies privilege privilege ≡ true

-- what an implied privilege implies is implied
abbrev pub ImplicationIsTransitive : Type 0
ImplicationIsTransitive =
    (held between wanted : Privilege) → implies held between ≡ true → implies between wanted ≡ true → implies held wanted ≡ true

-- the search through the rows tells exactly what a caller may do
abbrev pub SearchTellsMay : Type 0
SearchTellsMay =
    (access : AccessRows) (principal : ℕ) (session : Scope) (wanted : Privilege) (chain : List Securable)
    → (may access principal session wanted chain ≡ true) ↔ May access principal session wanted chain

-- rows in order are the rows, each as often; where they differ, each comes before all behind it
abbrev pub AreListedInOrder : {T : Type 0} → Coded T → (T → T → Ordering) → Type 0
AreListedInOrder {T} code cmp =
    (rows : List T) → IsPermutation rows (in_order cmp rows) × (IsDistinct (same code) rows → IsStrictlySortedBy cmp (in_order cmp rows))

-- members, joins and grants are in the order of their numbers
abbrev pub FactsAreInOrder : Type 0
FactsAreInOrder =
    AreListedInOrder member.the_row.coded member_cmp
    × AreListedInOrder join.the_row.coded join_cmp
    × AreListedInOrder grant.the_row.coded grant_cmp
