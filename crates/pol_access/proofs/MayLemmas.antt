-- The search for what a caller may do finds it exactly where it holds.
use Rattle.std.proofs.Common.{◌≡◌, ℕ, Bool, true, false, not, ◌&&◌, ◌||◌, List, [], ◌∷◌, Option, None, Some, nat_eq, refl, sym, ap, subst, ◌∙◌, inl, inr, true≢false, arith, codes}
use Rattle.std.specs.List.{Contains, list_any}
use Rattle.std.specs.Str.{bytes_eq}
use Rattle.std.specs.Cmp.Lexicographic.{same_text, nat_list_eq_equiv}
use Rattle.std.proofs.lemmas.Bool.{and_from, and_parts, cases_Bool, eq-eqb, eqb-true, or_cases}
use Rattle.std.proofs.lemmas.List.Elements.{Contains-append_right, Contains-get_or}
use Rattle.std.proofs.lemmas.List.Folds.{list_any_at}
use Rattle.pol_access.specs.Access.{AccessRows, principal_role_id}
use Rattle.pol_access.specs.May.{HasRole, IsGranted, ManagesService, May}
use Rattle.pol_access.specs.Privilege.{privilege_is, same_privilege}
use Rattle.pol_access.specs.Search.{allows, covers, has_covering_grant, has_role, is_admin, is_granted, is_in, manages_service, may}
use Rattle.pol_access.specs.Securable.{is_realm}
use Rattle.pol_access.specs.contracts.securable.Securable.{the_row}
use Rattle.pol_access.specs.declared.privilege.Privilege.{Privilege}
use Rattle.pol_access.specs.declared.privilege.Privilege.TheVariants.{ServiceManageAccess}
use Rattle.pol_access.specs.declared.rows.JoinRow.{JoinRow}
use Rattle.pol_access.specs.declared.rows.PrincipalRoleRow.{PrincipalRoleRow}
use Rattle.pol_access.specs.declared.securable.Securable.{Securable}
use Rattle.pol_access.specs.declared.securable.Securable.TheVariants.{Realm, Catalog, Namespace, Table, View}
use Rattle.pol_names.specs.declared.scope.Scope.{Scope}
use Rattle.pol_names.specs.declared.scope.Scope.TheVariants as scope
use Rattle.pol_tables.specs.Same.{same}
use Rattle.pol_tables.specs.Table.{row_of}
use Rattle.pol_tables.proofs.SameLemmas.{same-refl, same-true}

-- a list that has an item that passes has one to show
pub some-passing : {X : Type 0} (test : X → Bool) (xs : List X) → list_any test xs ≡ true → (x : X) × Contains xs x × (test x ≡ true)
some-passing test [] any = cc
some-passing test (x ∷ xs) any = elim (cases_Bool (test x)) [
  | inl passes ↦ (x, Contains-get_or (x ∷ xs) 0 x (omega arith), passes)
  | inr fails ↦
      let later = some-passing test xs (sym (ap (λ b. b || list_any test xs) fails) ∙ any) in
      (later.0, Contains-append_right (x ∷ []) xs later.0 later.1, later.2)
]

pub passes-where : {X : Type 0} (test : X → Bool) (xs : List X) (x : X) → Contains xs x → test x ≡ true → list_any test xs ≡ true
passes-where test xs x there passes =
    list_any_at test xs there.0 x there.1 (subst (λ y. test y ≡ true) (sym there.2) passes)

-- scopes
has_role-tells : (session : Scope) (role : ℕ) → has_role session role ≡ true → HasRole session role
has_role-tells scope.All role has = tt
has_role-tells (scope.Roles roles) role has =
    let found = some-passing (λ kept. nat_eq kept role) roles has in
    subst (Contains roles) (eqb-true found.0 role found.2) found.1

has_role-told : (session : Scope) (role : ℕ) → HasRole session role → has_role session role ≡ true
has_role-told scope.All role has = refl
has_role-told (scope.Roles roles) role has = passes-where (λ kept. nat_eq kept role) roles role has (eq-eqb role role refl)

-- securables
is_in-tells : (securable : Securable) (chain : List Securable) → is_in securable chain ≡ true → Contains chain securable
is_in-tells securable chain any =
    let found = some-passing (λ kept. same the_row.coded kept securable) chain any in
    subst (Contains chain) (same-true the_row.coded found.0 securable found.2) found.1

is_in-told : (securable : Securable) (chain : List Securable) → Contains chain securable → is_in securable chain ≡ true
is_in-told securable chain there =
    passes-where (λ kept. same the_row.coded kept securable) chain securable there (same-refl the_row.coded securable)

realm-is : (securable : Securable) → is_realm securable ≡ true → securable ≡ Realm
realm-is Realm so = refl
realm-is (Catalog id) so = cc
realm-is (Namespace id) so = cc
realm-is (Table id) so = cc
realm-is (View id) so = cc

below-tells : (securable : Securable) → not (is_realm securable) ≡ true → securable ≡ Realm → ⊥
below-tells securable below is = true≢false (sym (sym (ap (λ x. not (is_realm x)) is) ∙ below))

below-told : (securable : Securable) → (securable ≡ Realm → ⊥) → not (is_realm securable) ≡ true
below-told Realm below = absurd (below refl)
below-told (Catalog id) below = refl
below-told (Namespace id) below = refl
below-told (Table id) below = refl
below-told (View id) below = refl

-- the row of `service_admin`
admin-tells : (found : Option PrincipalRoleRow) → is_admin found ≡ true → (row : PrincipalRoleRow) × (found ≡ Some row) × (row.name ≡ codes "service_admin")
admin-tells None admin = cc
admin-tells (Some row) admin = (row, refl, same_text row.name (codes "service_admin") (sym admin))

admin-told : (found : Option PrincipalRoleRow) (row : PrincipalRoleRow) → found ≡ Some row → row.name ≡ codes "service_admin" → is_admin found ≡ true
admin-told found row is named =
    ap is_admin is ∙ ap (λ name. bytes_eq name (codes "service_admin")) named ∙ nat_list_eq_equiv.refl (codes "service_admin")

module _ (access : AccessRows) where
  service-tells : (role : ℕ) (wanted : Privilege) (chain : List Securable) → manages_service access role wanted chain ≡ true → ManagesService access role wanted chain
  unfolding manages_service
  service-tells role wanted chain so =
      let first = and_parts _ _ so in
      let rest = and_parts _ _ first.1 in
      let realm = some-passing is_realm chain rest.0 in
      let admin = admin-tells (row_of principal_role_id role access.principal_roles) rest.1 in
      record {
        service = privilege_is wanted ServiceManageAccess first.0;
        realm = subst (Contains chain) (realm-is realm.0 realm.2) realm.1;
        row = admin.0;
        there = admin.1;
        named = admin.2;
      }

  service-told : (role : ℕ) (wanted : Privilege) (chain : List Securable) → ManagesService access role wanted chain → manages_service access role wanted chain ≡ true
  unfolding manages_service
  service-told role wanted chain so =
      and_from _ _ (ap (λ p. same_privilege p ServiceManageAccess) so.service) (and_from _ _ (passes-where is_realm chain Realm so.realm refl) (admin-told _ so.row so.there so.named))

  granted-tells : (role : ℕ) (wanted : Privilege) (chain : List Securable) → is_granted access role wanted chain ≡ true → IsGranted access role wanted chain
  unfolding is_granted covers
  granted-tells role wanted chain so =
      let join = some-passing (λ (join : JoinRow). nat_eq join.principal_role role && has_covering_grant access join.catalog_role wanted chain) access.joins so in
      let joined = and_parts _ _ join.2 in
      let grant = some-passing (covers join.0.catalog_role wanted chain) access.grants joined.1 in
      let whose = and_parts _ _ grant.2 in
      let implied = and_parts _ _ whose.1 in
      let where_ = and_parts _ _ implied.1 in
      let join_is : join.0 ≡ record { principal_role = role; catalog_role = join.0.catalog_role } = λ i. record { principal_role = eqb-true join.0.principal_role role joined.0 i; catalog_role = join.0.catalog_role } in
      let grant_is : grant.0 ≡ record { catalog_role = join.0.catalog_role; privilege = grant.0.privilege; securable = grant.0.securable } = λ i. record { catalog_role = eqb-true grant.0.catalog_role join.0.catalog_role whose.0 i; privilege = grant.0.privilege; securable = grant.0.securable } in
      record {
        catalog_role = join.0.catalog_role;
        joined = subst (Contains access.joins) join_is join.1;
        held = grant.0.privilege;
        securable = grant.0.securable;
        granted = subst (Contains access.grants) grant_is grant.1;
        implied = implied.0;
        below_realm = below-tells grant.0.securable where_.0;
        contains = is_in-tells grant.0.securable chain where_.1;
      }

  granted-told : (role : ℕ) (wanted : Privilege) (chain : List Securable) → IsGranted access role wanted chain → is_granted access role wanted chain ≡ true
  unfolding is_granted covers
  granted-told role wanted chain so =
      passes-where (λ (join : JoinRow). nat_eq join.principal_role role && has_covering_grant access join.catalog_role wanted chain) access.joins (record { principal_role = role; catalog_role = so.catalog_role }) so.joined
      (and_from _ _ (eq-eqb role role refl) (passes-where (covers so.catalog_role wanted chain) access.grants (record { catalog_role = so.catalog_role; privilege = so.held; securable = so.securable }) so.granted
      (and_from _ _ (eq-eqb so.catalog_role so.catalog_role refl) (and_from _ _ so.implied (and_from _ _ (below-told so.securable so.below_realm) (is_in-told so.securable chain so.contains))))))

  pub may-tells : (principal : ℕ) (session : Scope) (wanted : Privilege) (chain : List Securable) → may access principal session wanted chain ≡ true → May access principal session wanted chain
  unfolding may allows
  may-tells principal session wanted chain so =
      let member = some-passing (allows access principal session wanted chain) access.members so in
      let whose = and_parts _ _ member.2 in
      let scoped = and_parts _ _ whose.1 in
      let member_is : member.0 ≡ record { principal = principal; role = member.0.role } = λ i. record { principal = eqb-true member.0.principal principal whose.0 i; role = member.0.role } in
      record {
        role = member.0.role;
        active = record { member = subst (Contains access.members) member_is member.1; scoped = has_role-tells session member.0.role scoped.0 };
        allows = elim (or_cases _ _ scoped.1) [
          | inl service ↦ inl (service-tells member.0.role wanted chain service)
          | inr granted ↦ inr (granted-tells member.0.role wanted chain granted)
        ];
      }

  pub may-told : (principal : ℕ) (session : Scope) (wanted : Privilege) (chain : List Securable) → May access principal session wanted chain → may access principal session wanted chain ≡ true
  unfolding may allows
  may-told principal session wanted chain so =
      passes-where (allows access principal session wanted chain) access.members (record { principal = principal; role = so.role }) so.active.member
      (and_from _ _ (eq-eqb principal principal refl) (and_from _ _ (has_role-told session so.role so.active.scoped) (elim so.allows [
        | inl service ↦ ap (λ b. b || is_granted access so.role wanted chain) (service-told so.role wanted chain service)
        | inr granted ↦ ap (λ b. manages_service access so.role wanted chain || b) (granted-told so.role wanted chain granted) ∙ either (manages_service access so.role wanted chain)
      ])))
    where
      either : (b : Bool) → (b || true) ≡ true
      either true = refl
      either false = refl
