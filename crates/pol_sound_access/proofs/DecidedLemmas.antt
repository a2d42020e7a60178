-- The tests of principals and roles tell whether they are sound.
use Rattle.std.proofs.Common.{◌≡◌, ℕ, ◌≤◌, Bool, true, false, not, ◌&&◌, nat_le, nat_lt, List, [], ◌∷◌, map, Option, None, Some, codes, refl, sym, ap, ◌∙◌, true≢false}
use Rattle.std.specs.Prelude.{Decides}
use Rattle.std.specs.List.{find, list_all, AllByRecursion, IsDistinct}
use Rattle.std.specs.Str.{bytes_eq}
use Rattle.std.proofs.lemmas.Bool.{le-leb, leb-true}
use Rattle.std.proofs.lemmas.Bool.Decides.{Decides-and, Decides-at, Decides-like, Decides-ltb}
use Rattle.pol_access.specs.Access.{AccessRows, catalog_role_id, client_id_of, is_member, principal_id, principal_name, principal_role_id, principal_role_name}
use Rattle.pol_access.specs.Names.{has_name, has_role_name, principal_named, principal_role_named, same_role_name}
use Rattle.pol_access.specs.Privilege.{grantable}
use Rattle.pol_access.specs.Securable.{kind_of}
use Rattle.pol_access.specs.Sound.{HasRootChain, IsCatalogRoleOf, IsGrantOf, IsJoinOf, IsMemberOf, IsSecurableGiven, IsSoundAccess}
use Rattle.pol_access.specs.contracts.rows.GrantRow as grant
use Rattle.pol_access.specs.contracts.rows.JoinRow as join
use Rattle.pol_access.specs.contracts.rows.MemberRow as member
use Rattle.pol_access.specs.declared.rows.CatalogRoleRow.{CatalogRoleRow}
use Rattle.pol_access.specs.declared.rows.GrantRow.{GrantRow}
use Rattle.pol_access.specs.declared.rows.JoinRow.{JoinRow}
use Rattle.pol_access.specs.declared.rows.MemberRow.{MemberRow}
use Rattle.pol_access.specs.declared.rows.PrincipalRoleRow.{PrincipalRoleRow}
use Rattle.pol_access.specs.declared.rows.PrincipalRow.{PrincipalRow}
use Rattle.pol_access.specs.declared.securable.Securable.{Securable}
use Rattle.pol_access.specs.declared.securable.Securable.TheVariants as securable
use Rattle.pol_tables.specs.Numbered.{AreNumbered, IsGiven}
use Rattle.pol_tables.specs.Same.{same}
use Rattle.pol_tables.specs.Table.{knows}
use Rattle.pol_tables.proofs.TableLemmas.{some_is}
use Rattle.pol_sound_access.specs.Judged.{access_known, access_named, access_numbered, all_differ, facts_differ, has_root_chain, is_catalog_role, is_chain, is_given, is_grant_there, is_join_there, is_member_there, is_no_role, is_securable_given, is_sound_access, rises, same_client, same_name, same_principal_role}
use Rattle.pol_sound_access.proofs.DifferLemmas.{apart-from, differ-decides, images-apart}
use Rattle.pol_sound_access.proofs.RisingLemmas.{rises-decides}

-- a test by itself, and one that is to fail
pub passes : (b : Bool) → Decides b (b ≡ true)
passes b = (λ is. is, λ is. is)

pub fails : (b : Bool) → Decides (not b) (b ≡ false)
fails true = (λ is. absurd (true≢false (sym is)), λ is. absurd (true≢false is))
fails false = (λ is. refl, λ is. refl)

pub never : {P : Type 0} → (P → ⊥) → Decides false P
never contrary = (λ is. absurd (true≢false (sym is)), λ so. absurd (contrary so))

pub at-most : (number bound : ℕ) → Decides (nat_le number bound) (number ≤ bound)
at-most number bound = (leb-true number bound, le-leb number bound)

pub given : (next_id id : ℕ) → Decides (is_given next_id id) (IsGiven next_id id)
given next_id id = Decides-and (nat_le 1 id) (nat_lt id next_id) (at-most 1 id) (Decides-ltb id next_id)

-- a test of each item
pub each : {X : Type 0} (test : X → Bool) (P : X → Type 0) → ((x : X) → Decides (test x) (P x)) → (xs : List X) → Decides (list_all test xs) (AllByRecursion P xs)
each test P every [] = (λ is. tt, λ all. refl)
each test P every (x ∷ xs) = Decides-and (test x) (list_all test xs) (every x) (each test P every xs)

pub numbered : {R : Type 0} (key : R → ℕ) (next_id : ℕ) (rows : List R) → Decides (rises key 1 next_id rows) (AreNumbered key next_id rows)
numbered key next_id rows =
    Decides-like (rises key 1 next_id rows) (λ both. record { rise = both.0; given = both.1 }) (λ are. (are.rise, are.given)) (rises-decides key next_id 1 rows)

-- names that differ
named : {R : Type 0} (name : R → List ℕ) (rows : List R) → Decides (all_differ (λ left right. bytes_eq (name left) (name right)) rows) (IsDistinct bytes_eq (map name rows))
named name rows =
    Decides-like (all_differ (λ left right. bytes_eq (name left) (name right)) rows) (images-apart bytes_eq name rows) (apart-from bytes_eq name rows) (differ-decides (λ left right. bytes_eq (name left) (name right)) rows)

securable-given : (next_id : ℕ) (one : Securable) → Decides (is_securable_given next_id one) (IsSecurableGiven next_id one)
securable-given next_id securable.Realm = (λ is. tt, λ all. refl)
securable-given next_id (securable.Catalog id) = given next_id id
securable-given next_id (securable.Namespace id) = given next_id id
securable-given next_id (securable.Table id) = given next_id id
securable-given next_id (securable.View id) = given next_id id

module _ (next_id : ℕ) (access : AccessRows) where
  catalog_role-known : (row : CatalogRoleRow) → Decides (is_catalog_role next_id access row) (IsCatalogRoleOf next_id access.principals access.principal_roles row)
  catalog_role-known row =
      Decides-like (is_catalog_role next_id access row) (λ all. record { no_principal = all.0; no_principal_role = all.1.0; catalog = all.1.1 }) (λ is. (is.no_principal, (is.no_principal_role, is.catalog)))
      (Decides-and (not (knows principal_id row.id access.principals)) (not (knows principal_role_id row.id access.principal_roles) && is_given next_id row.catalog) (fails (knows principal_id row.id access.principals))
      (Decides-and (not (knows principal_role_id row.id access.principal_roles)) (is_given next_id row.catalog) (fails (knows principal_role_id row.id access.principal_roles)) (given next_id row.catalog)))

  member-known : (row : MemberRow) → Decides (is_member_there access row) (IsMemberOf access.principals access.principal_roles row)
  member-known row =
      Decides-like (is_member_there access row) (λ all. record { principal = all.0; role = all.1 }) (λ is. (is.principal, is.role))
      (Decides-and (knows principal_id row.principal access.principals) (knows principal_role_id row.role access.principal_roles) (passes (knows principal_id row.principal access.principals)) (passes (knows principal_role_id row.role access.principal_roles)))

  join-known : (row : JoinRow) → Decides (is_join_there access row) (IsJoinOf access.principal_roles access.catalog_roles row)
  join-known row =
      Decides-like (is_join_there access row) (λ all. record { principal_role = all.0; catalog_role = all.1 }) (λ is. (is.principal_role, is.catalog_role))
      (Decides-and (knows principal_role_id row.principal_role access.principal_roles) (knows catalog_role_id row.catalog_role access.catalog_roles) (passes (knows principal_role_id row.principal_role access.principal_roles)) (passes (knows catalog_role_id row.catalog_role access.catalog_roles)))

  grant-known : (row : GrantRow) → Decides (is_grant_there next_id access row) (IsGrantOf next_id access.catalog_roles row)
  grant-known row =
      Decides-like (is_grant_there next_id access row) (λ all. record { role = all.0; securable = all.1.0; allowed = all.1.1 }) (λ is. (is.role, (is.securable, is.allowed)))
      (Decides-and (knows catalog_role_id row.catalog_role access.catalog_roles) (is_securable_given next_id row.securable && grantable row.privilege (kind_of row.securable)) (passes (knows catalog_role_id row.catalog_role access.catalog_roles))
      (Decides-and (is_securable_given next_id row.securable) (grantable row.privilege (kind_of row.securable)) (securable-given next_id row.securable) (passes (grantable row.privilege (kind_of row.securable)))))

  abbrev Chain : Type 0
  Chain = HasRootChain access.principals access.principal_roles access.members

  chain : (root : Option PrincipalRow) (admin : Option PrincipalRoleRow) → find (has_name (codes "root")) access.principals ≡ root → find (has_role_name (codes "service_admin")) access.principal_roles ≡ admin → Decides (is_chain access root admin) Chain
  chain None admin no_root service = never (λ (has : Chain). let contrary : None ≡ Some has.root = sym no_root ∙ has.root_there in cc)
  chain (Some root) None root_is no_admin = never (λ (has : Chain). let contrary : None ≡ Some has.admin = sym no_admin ∙ has.admin_there in cc)
  chain (Some root) (Some admin) root_is admin_is = (
    λ is. record { root = root; admin = admin; root_there = root_is; admin_there = admin_is; member = is },
    λ has.
        let first : has.root ≡ root = some_is has.root root (sym has.root_there ∙ root_is) in
        let second : has.admin ≡ admin = some_is has.admin admin (sym has.admin_there ∙ admin_is) in
        (λ i. is_member (sym (ap principal_id first) i) (sym (ap principal_role_id second) i) access) ∙ has.member,
  )

  chain-decides : Decides (has_root_chain access) Chain
  unfolding has_root_chain
  chain-decides = chain (principal_named (codes "root") access) (principal_role_named (codes "service_admin") access) refl refl

  numbers-decide : Decides (access_numbered next_id access) (AreNumbered principal_id next_id access.principals × (AreNumbered principal_role_id next_id access.principal_roles × AreNumbered catalog_role_id next_id access.catalog_roles))
  numbers-decide =
      Decides-and (rises principal_id 1 next_id access.principals) (rises principal_role_id 1 next_id access.principal_roles && rises catalog_role_id 1 next_id access.catalog_roles) (numbered principal_id next_id access.principals)
      (Decides-and (rises principal_role_id 1 next_id access.principal_roles) (rises catalog_role_id 1 next_id access.catalog_roles) (numbered principal_role_id next_id access.principal_roles) (numbered catalog_role_id next_id access.catalog_roles))

  abbrev Known : Type 0
  Known =
      AllByRecursion (λ row. knows principal_role_id row.id access.principal_roles ≡ false) access.principals
      × (AllByRecursion (IsCatalogRoleOf next_id access.principals access.principal_roles) access.catalog_roles
      × (AllByRecursion (IsMemberOf access.principals access.principal_roles) access.members
      × (AllByRecursion (IsJoinOf access.principal_roles access.catalog_roles) access.joins × AllByRecursion (IsGrantOf next_id access.catalog_roles) access.grants)))

  known-decides : Decides (access_known next_id access) Known
  known-decides =
      let members = list_all (is_member_there access) access.members in
      let joins = list_all (is_join_there access) access.joins in
      let grants = list_all (is_grant_there next_id access) access.grants in
      let roles = list_all (is_catalog_role next_id access) access.catalog_roles in
      Decides-and (list_all (is_no_role access) access.principals) (roles && (members && (joins && grants)))
      (each (is_no_role access) (λ row. knows principal_role_id row.id access.principal_roles ≡ false) (λ row. fails (knows principal_role_id row.id access.principal_roles)) access.principals)
      (Decides-and roles (members && (joins && grants)) (each (is_catalog_role next_id access) (IsCatalogRoleOf next_id access.principals access.principal_roles) catalog_role-known access.catalog_roles)
      (Decides-and members (joins && grants) (each (is_member_there access) (IsMemberOf access.principals access.principal_roles) member-known access.members)
      (Decides-and joins grants (each (is_join_there access) (IsJoinOf access.principal_roles access.catalog_roles) join-known access.joins) (each (is_grant_there next_id access) (IsGrantOf next_id access.catalog_roles) grant-known access.grants))))

  abbrev Named : Type 0
  Named =
      IsDistinct bytes_eq (map principal_name access.principals)
      × (IsDistinct bytes_eq (map client_id_of access.principals)
      × (IsDistinct bytes_eq (map principal_role_name access.principal_roles) × IsDistinct same_role_name access.catalog_roles))

  pub names-decide : Decides (access_named access) Named
  names-decide =
      let clients = all_differ same_client access.principals in
      let roles = all_differ same_principal_role access.principal_roles in
      let catalog_roles = all_differ same_role_name access.catalog_roles in
      Decides-and (all_differ same_name access.principals) (clients && (roles && catalog_roles)) (named principal_name access.principals)
      (Decides-and clients (roles && catalog_roles) (named client_id_of access.principals)
      (Decides-and roles catalog_roles (named principal_role_name access.principal_roles) (differ-decides same_role_name access.catalog_roles)))

  facts-decide : Decides (facts_differ access) (IsDistinct (same member.the_row.coded) access.members × (IsDistinct (same join.the_row.coded) access.joins × IsDistinct (same grant.the_row.coded) access.grants))
  facts-decide =
      let joins = all_differ (same join.the_row.coded) access.joins in
      let grants = all_differ (same grant.the_row.coded) access.grants in
      Decides-and (all_differ (same member.the_row.coded) access.members) (joins && grants) (differ-decides (same member.the_row.coded) access.members)
      (Decides-and joins grants (differ-decides (same join.the_row.coded) access.joins) (differ-decides (same grant.the_row.coded) access.grants))

  -- the test tells whether they are sound
  pub access-decides : Decides (is_sound_access next_id access) (IsSoundAccess next_id access)
  unfolding is_sound_access
  access-decides =
      let known = access_known next_id access in
      let rooted = has_root_chain access in
      let names = access_named access in
      let facts = facts_differ access in
      Decides-like (is_sound_access next_id access)
      (λ all. record {
        principals = all.0.0;
        principal_roles = all.0.1.0;
        catalog_roles = all.0.1.1;
        ids_differ = all.1.0.0;
        names_differ = all.1.1.1.0.0;
        client_ids_differ = all.1.1.1.0.1.0;
        role_names_differ = all.1.1.1.0.1.1.0;
        catalog_roles_known = all.1.0.1.0;
        catalog_role_names_differ = all.1.1.1.0.1.1.1;
        members = record { differ = all.1.1.1.1.0; each = all.1.0.1.1.0 };
        joins = record { differ = all.1.1.1.1.1.0; each = all.1.0.1.1.1.0 };
        grants = record { differ = all.1.1.1.1.1.1; each = all.1.0.1.1.1.1 };
        root_chain = all.1.1.0;
      })
      (λ sound. (
        (sound.principals, (sound.principal_roles, sound.catalog_roles)),
        (
          (sound.ids_differ, (sound.catalog_roles_known, (sound.members.each, (sound.joins.each, sound.grants.each)))),
          (
            sound.root_chain,
            (
              (sound.names_differ, (sound.client_ids_differ, (sound.role_names_differ, sound.catalog_role_names_differ))),
              (sound.members.differ, (sound.joins.differ, sound.grants.differ)),
            ),
          ),
        ),
      ))
      (Decides-and (access_numbered next_id access) (known && (rooted && (names && facts))) numbers-decide
      (Decides-and known (rooted && (names && facts)) known-decides (Decides-and rooted (names && facts) chain-decides (Decides-and names facts names-decide facts-decide))))

pub access_decided : (next_id : ℕ) (access : AccessRows) (sound : Bool) → sound ≡ is_sound_access next_id access → Decides sound (IsSoundAccess next_id access)
access_decided next_id access sound is =
    Decides-at sound (is_sound_access next_id access) is (access-decides next_id access)
