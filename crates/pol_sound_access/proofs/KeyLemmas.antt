-- Keys tell rows apart as their names and client ids do.
use Rattle.std.proofs.Common.{◌≡◌, ℕ, Bool, true, List, ◌==◌, refl, sym, ap, ◌∙◌}
use Rattle.std.specs.Coded.{Coded}
use Rattle.std.specs.Str.{bytes_eq}
use Rattle.std.proofs.lemmas.Bool.{and_from, and_parts, eq-eqb, eqb-true}
use Rattle.std.proofs.lemmas.Bool.Decides.{same_from_decides}
use Rattle.std.proofs.lemmas.Slice.Eq.{bytes_eq-Decides}
use Rattle.pol_access.specs.Names.{same_role_name}
use Rattle.pol_access.specs.declared.rows.CatalogRoleRow.{CatalogRoleRow}
use Rattle.pol_access.specs.declared.rows.PrincipalRoleRow.{PrincipalRoleRow}
use Rattle.pol_access.specs.declared.rows.PrincipalRow.{PrincipalRow}
use Rattle.pol_tables.specs.Same.{same}
use Rattle.pol_tables.proofs.SameLemmas.{same-refl, same-true}
use Rattle.pol_sound_access.specs.Judged.{all_differ, same_client, same_name, same_principal_role}
use Rattle.pol_sound_access.specs.Keys.{catalog_role_key, client_key, name_key, principal_key, principal_role_key}
use Rattle.pol_sound_access.specs.contracts.keys.ClientKey as client
use Rattle.pol_sound_access.specs.contracts.keys.NameKey as named
use Rattle.pol_sound_access.specs.declared.keys.ClientKey.{ClientKey}
use Rattle.pol_sound_access.specs.declared.keys.NameKey.{NameKey}

-- a test that passes exactly where two values are equal tells what their codes tell
pub told-by : {K : Type 0} (code : Coded K) (left right : K) (test : Bool) → (test ≡ true → left ≡ right) → (left ≡ right → test ≡ true) → same code left right ≡ test
told-by code left right test to from =
    same_from_decides (same code left right) test (same-true code left right, λ is. ap (same code left) (sym is) ∙ same-refl code left) (to, from)

pub texts-told : {K : Type 0} (code : Coded K) (left right : List ℕ) (key : List ℕ → K) (text : K → List ℕ) → ((one : List ℕ) → text (key one) ≡ one) → same code (key left) (key right) ≡ bytes_eq left right
texts-told code left right key text reads =
    told-by code (key left) (key right) (bytes_eq left right) (λ is. ap key ((bytes_eq-Decides left right).0 is)) (λ is. (bytes_eq-Decides left right).1 (sym (reads left) ∙ ap text is ∙ reads right))

-- lists of rows that are told apart alike
pub differ-alike : {R : Type 0} (one other : R → R → Bool) → ((left right : R) → one left right ≡ other left right) → (rows : List R) → all_differ one rows ≡ all_differ other rows
differ-alike one other alike rows = λ i. all_differ (λ left right. alike left right i) rows

pub principals_told : (rows : List PrincipalRow) → all_differ (λ left right. same named.the_row.coded (principal_key left) (principal_key right)) rows ≡ all_differ same_name rows
principals_told =
    differ-alike (λ left right. same named.the_row.coded (principal_key left) (principal_key right)) same_name (λ left right. texts-told named.the_row.coded left.name right.name (name_key 0) (λ (key : NameKey). key.name) (λ one. refl))

pub clients_told : (rows : List PrincipalRow) → all_differ (λ left right. same client.the_row.coded (client_key left) (client_key right)) rows ≡ all_differ same_client rows
clients_told =
    differ-alike (λ left right. same client.the_row.coded (client_key left) (client_key right)) same_client (λ left right. texts-told client.the_row.coded left.client_id right.client_id (λ one. record { client_id = one }) (λ (key : ClientKey). key.client_id) (λ one. refl))

pub principal_roles_told : (rows : List PrincipalRoleRow) → all_differ (λ left right. same named.the_row.coded (principal_role_key left) (principal_role_key right)) rows ≡ all_differ same_principal_role rows
principal_roles_told =
    differ-alike (λ left right. same named.the_row.coded (principal_role_key left) (principal_role_key right)) same_principal_role (λ left right. texts-told named.the_row.coded left.name right.name (name_key 0) (λ (key : NameKey). key.name) (λ one. refl))

role-told : (left right : CatalogRoleRow) → same named.the_row.coded (catalog_role_key left) (catalog_role_key right) ≡ same_role_name left right
role-told left right =
    told-by named.the_row.coded (catalog_role_key left) (catalog_role_key right) (same_role_name left right)
    (λ is. let both = and_parts (right.catalog == left.catalog) (bytes_eq left.name right.name) is in λ i. name_key (sym (eqb-true right.catalog left.catalog both.0) i) ((bytes_eq-Decides left.name right.name).0 both.1 i))
    (λ is. and_from (right.catalog == left.catalog) (bytes_eq left.name right.name) (eq-eqb right.catalog left.catalog (sym (ap (λ (key : NameKey). key.within) is))) ((bytes_eq-Decides left.name right.name).1 (ap (λ (key : NameKey). key.name) is)))

pub catalog_roles_told : (rows : List CatalogRoleRow) → all_differ (λ left right. same named.the_row.coded (catalog_role_key left) (catalog_role_key right)) rows ≡ all_differ same_role_name rows
catalog_roles_told =
    differ-alike (λ left right. same named.the_row.coded (catalog_role_key left) (catalog_role_key right)) same_role_name role-told
