-- A sound state with a principal or a role put is sound: a new one, or one in the place of its own row.
use Rattle.std.proofs.Common.{◌≡◌, ℕ, ◌+◌, ◌≤◌, Bool, true, false, ◌&&◌, nat_eq, nat_lt, List, [], ◌∷◌, ◌++◌, length, Option, None, Some, is_none, is_some, refl, sym, ap, subst, ◌∙◌, arith, true≢false}
use Rattle.std.specs.Str.{bytes_eq}
use Rattle.std.proofs.lemmas.Bool.{and_from, and_parts, eqb-true, ne_eqb}
use Rattle.std.proofs.lemmas.Slice.Eq.{bytes_eq-Decides}
use Rattle.pol_access.specs.Access.{AccessRows, catalog_role_id, principal_id, principal_role_id}
use Rattle.pol_access.specs.Names.{catalog_role_named, principal_named, principal_of_client, principal_role_named}
use Rattle.pol_access.specs.declared.rows.CatalogRoleRow.{CatalogRoleRow}
use Rattle.pol_access.specs.declared.rows.PrincipalRoleRow.{PrincipalRoleRow}
use Rattle.pol_access.specs.declared.rows.PrincipalRow.{PrincipalRow}
use Rattle.pol_access.proofs.KeptLemmas.{found-holds}
use Rattle.pol_access.proofs.SoundLemmas as access
use Rattle.pol_commands.specs.declared.reply.Quantity.TheVariants as quantity
use Rattle.pol_content.specs.Content.{catalog_id}
use Rattle.pol_content.specs.Ties.{is_content_id}
use Rattle.pol_content.specs.declared.change.Change.{Change}
use Rattle.pol_content.specs.declared.change.Change.TheVariants.{PutCatalogRole, PutPrincipal, PutPrincipalRole}
use Rattle.pol_content.specs.declared.rows.CatalogRow.{CatalogRow}
use Rattle.pol_content.proofs.TiedContentLemmas.{pushed_catalog_role}
use Rattle.pol_content.proofs.TiesLemmas as ties
use Rattle.pol_content.proofs.TiesLemmas.{admin-kept, admins-kept, apart-fewer, each-within, new_ids, unknown-put}
use Rattle.pol_rules.proofs.SoundLemmas.{next_id-some}
use Rattle.pol_sound_bounds.specs.Judged.{facts_fit, fits, holders_fit}
use Rattle.pol_access_steps.specs.Holders.{is_catalog_role_new, is_principal_new, is_role_new, keeps_names, may_be_catalog_role, may_be_principal, may_be_role, may_put_catalog_role, may_put_principal, may_put_role}
use Rattle.pol_access_steps.specs.Counters.{counted, is_new_id, may_follow}
use Rattle.pol_access_steps.specs.declared.counters.Counters.{Counters}
use Rattle.pol_access_steps.proofs.BoundsLemmas.{few-with, fits-of, same-length, within-of}
use Rattle.pol_access_steps.proofs.CountersLemmas.{counted-sound, new-id, unknown-later}
use Rattle.pol_access_steps.proofs.CountersLemmas.{none-told}
use Rattle.pol_state.specs.Applied.{changed}
use Rattle.pol_state.specs.Bounds.{bound_of}
use Rattle.pol_state.specs.Rows.{Rows}
use Rattle.pol_state.specs.Sound.{AreTied, IsGiven, IsSound, IsSoundAccess}
use Rattle.pol_tables.specs.Table.{has_id, knows, row_of, rows_with, IdsDiffer}
use Rattle.pol_tables.proofs.RisingLemmas.{IdsDiffer-rising}
use Rattle.pol_tables.proofs.TableLemmas.{is_some-row_of, key-row_of, rows_with-known, rows_with-new, rows_with-same}

same-text : (left right : List ℕ) → bytes_eq left right ≡ true → left ≡ right
same-text left right same = (bytes_eq-Decides left right).0 same

module _ {R : Type 0} (key : R → ℕ) (rows : List R) where
  -- an id is known where its row is found
  found-known : (id : ℕ) (row : R) → row_of key id rows ≡ Some row → knows key id rows ≡ true
  found-known id row found = sym (is_some-row_of key id rows) ∙ ap is_some found

  -- a row that is put once more changes nothing
  put-again : (row : R) → IdsDiffer key rows → row_of key (key row) rows ≡ Some row → rows_with key row rows ≡ rows
  put-again row differ found =
      rows_with-known key row rows (found-known (key row) row found) ∙ rows_with-same key row rows differ found

module _ (s : Rows) (sound : IsSound s) (counters : Counters) (follows : may_follow s counters ≡ true) where
  -- the state is sound with these counters once a change is made
  abbrev pub SoundWith : Change → Type 0
  SoundWith put = IsSound (changed (counted s counters) put)

  -- other principals and roles are sound with these counters
  holders-sound : (after : AccessRows) → IsSoundAccess counters.next_id after → AreTied after s.content
      → holders_fit after ≡ true → facts_fit after ≡ true → IsSound (record (counted s counters) { access = after })
  holders-sound after kept tied few facts =
      let base = counted-sound s sound counters follows in
      let f = fits-of (counted s counters) base in
      record {
        orderly = record {
          access = kept;
          content = base.orderly.content;
          ties = tied;
          tokens = base.orderly.tokens;
          tokens_fit = base.orderly.tokens_fit;
          time_bound = base.orderly.time_bound;
          charged_bound = base.orderly.charged_bound;
        };
        within = within-of (record (counted s counters) { access = after }) (record {
          parts = f.parts;
          holders = few;
          facts = facts;
          counters = f.counters;
          numbers = f.numbers;
        });
      }

  abbrev few_principals : Bool
  few_principals = fits quantity.Principals (length s.access.principals)

  abbrev few_roles : Bool
  few_roles = fits quantity.PrincipalRoles (length s.access.principal_roles)

  abbrev few_catalog_roles : Bool
  few_catalog_roles = fits quantity.CatalogRoles (length s.access.catalog_roles)

  -- what is told of a new id
  record IsNew (id : ℕ) : Type 0 where
    later : s.next_id ≤ id
    some : 1 ≤ id
    below : id + 1 ≤ counters.next_id
    kept : IsSoundAccess id s.access
    none : is_content_id id s.content ≡ false

  new-told : (id : ℕ) → is_new_id s counters id ≡ true → IsNew id
  new-told id new =
      let within = new-id s counters id new in
      let some = next_id-some s sound in
      record {
        later = within.0;
        some = omega (arith, some, within.0);
        below = omega (arith, within.1);
        kept = access.more_ids s.next_id id s.access within.0 sound.orderly.access;
        none = new_ids s.next_id id s.content sound.orderly.content within.0;
      }

  -- a new principal
  new-principal : (row : PrincipalRow) → is_principal_new s counters row ≡ true → SoundWith (PutPrincipal row)
  new-principal row may =
      let rows = s.access.principals in
      let after : List PrincipalRow = rows_with principal_id row rows in
      let named = principal_named row.name s.access in
      let client = principal_of_client row.client_id s.access in
      let few = nat_lt (length rows) (bound_of quantity.Principals) in
      let first = and_parts (is_new_id s counters row.id) (is_none named && (is_none client && few)) may in
      let second = and_parts (is_none named) (is_none client && few) first.1 in
      let third = and_parts (is_none client) few second.1 in
      let new = new-told row.id first.0 in
      let unknown = unknown-later s sound principal_id rows sound.orderly.access.principals row.id new.later in
      let pushed = access.pushed_principal row.id s.access row new.kept new.some refl (none-told named second.0) (none-told client third.0) in
      let later = access.more_ids (row.id + 1) counters.next_id (record s.access { principals = rows ++ row ∷ [] }) new.below pushed in
      let f = fits-of s sound in
      let roles = (and_parts few_principals (few_roles && few_catalog_roles) f.holders).1 in
      holders-sound (record s.access { principals = after })
      (subst (λ kept. IsSoundAccess counters.next_id (record s.access { principals = kept })) (sym (rows_with-new principal_id row rows unknown)) later)
      (ties.put_principal s.access s.content sound.orderly.ties row new.none)
      (and_from (fits quantity.Principals (length after)) (few_roles && few_catalog_roles)
      (few-with principal_id row rows (bound_of quantity.Principals) unknown third.1)
      roles)
      f.facts

  -- a principal in the place of its own row
  own-principal : (old row : PrincipalRow) → row_of principal_id row.id s.access.principals ≡ Some old → keeps_names old row ≡ true → SoundWith (PutPrincipal row)
  own-principal old row found keeps =
      let same = and_parts (bytes_eq row.name old.name) (bytes_eq row.client_id old.client_id) keeps in
      let names = same-text row.name old.name same.0 in
      let clients = same-text row.client_id old.client_id same.1 in
      let base = counted-sound s sound counters follows in
      let f = fits-of s sound in
      holders-sound after
      (access.replaced_principal counters.next_id s.access old row base.orderly.access found names clients)
      tied
      (ap (λ many. fits quantity.Principals many && (few_roles && few_catalog_roles)) (same-length principal_id row s.access.principals known) ∙ f.holders)
      f.facts
    where
      after : AccessRows
      after = record s.access { principals = rows_with principal_id row s.access.principals }

      known : knows principal_id row.id s.access.principals ≡ true
      known = found-known principal_id s.access.principals row.id old found

      apart : (id : ℕ) → knows principal_id id s.access.principals ≡ false → has_id principal_id id row ≡ false
      apart id unknown =
          ne_eqb id row.id (λ is. true≢false (sym known ∙ ap (λ one. knows principal_id one s.access.principals) (sym is) ∙ unknown))

      tied : AreTied after s.content
      tied =
          let before = sound.orderly.ties in
          record {
            role_catalogs = before.role_catalogs;
            grants_within = each-within s.access after s.content (λ one within. within.there) s.access.grants before.grants_within;
            catalog_admins = admins-kept s.access after s.content before
                (λ one has. admin-kept s.access after one.id has has.role_there has.service_there has.joined (λ privilege managed. managed));
            ids_apart = apart-fewer s.access after s.content before.ids_apart (λ id unknown. record {
              principals = unknown-put principal_id id row s.access.principals unknown.principals (apart id unknown.principals);
              principal_roles = unknown.principal_roles;
              catalog_roles = unknown.catalog_roles;
            });
          }

  pub principal-sound : (row : PrincipalRow) → may_put_principal s counters row ≡ true → SoundWith (PutPrincipal row)
  principal-sound row = by (row_of principal_id row.id s.access.principals) refl
    where
      by : (found : Option PrincipalRow) → row_of principal_id row.id s.access.principals ≡ found
          → may_be_principal s counters row found ≡ true → SoundWith (PutPrincipal row)
      by None none may = new-principal row may
      by (Some old) found may = own-principal old row found may

  -- a new principal role
  new-role : (row : PrincipalRoleRow) → is_role_new s counters row ≡ true → SoundWith (PutPrincipalRole row)
  new-role row may =
      let rows = s.access.principal_roles in
      let after : List PrincipalRoleRow = rows_with principal_role_id row rows in
      let named = principal_role_named row.name s.access in
      let few = nat_lt (length rows) (bound_of quantity.PrincipalRoles) in
      let few_after = fits quantity.PrincipalRoles (length after) in
      let first = and_parts (is_new_id s counters row.id) (is_none named && few) may in
      let second = and_parts (is_none named) few first.1 in
      let new = new-told row.id first.0 in
      let unknown = unknown-later s sound principal_role_id rows sound.orderly.access.principal_roles row.id new.later in
      let pushed = access.pushed_principal_role row.id s.access row new.kept new.some refl (none-told named second.0) in
      let later = access.more_ids (row.id + 1) counters.next_id (record s.access { principal_roles = rows ++ row ∷ [] }) new.below pushed in
      let f = fits-of s sound in
      let holders = and_parts few_principals (few_roles && few_catalog_roles) f.holders in
      let others = (and_parts few_roles few_catalog_roles holders.1).1 in
      let fit = few-with principal_role_id row rows (bound_of quantity.PrincipalRoles) unknown second.1 in
      holders-sound (record s.access { principal_roles = after })
      (subst (λ kept. IsSoundAccess counters.next_id (record s.access { principal_roles = kept })) (sym (rows_with-new principal_role_id row rows unknown)) later)
      (ties.pushed_principal_role s.access s.content sound.orderly.ties row unknown new.none)
      (and_from few_principals (few_after && few_catalog_roles) holders.0 (and_from few_after few_catalog_roles fit others))
      f.facts

  pub role-sound : (row : PrincipalRoleRow) → may_put_role s counters row ≡ true → SoundWith (PutPrincipalRole row)
  role-sound row = by (row_of principal_role_id row.id s.access.principal_roles) refl
    where
      by : (found : Option PrincipalRoleRow) → row_of principal_role_id row.id s.access.principal_roles ≡ found
          → may_be_role s counters row found ≡ true → SoundWith (PutPrincipalRole row)
      by None none may = new-role row may
      by (Some old) found may =
          let rows = s.access.principal_roles in
          let differ = IdsDiffer-rising principal_role_id rows sound.orderly.access.principal_roles.rise in
          let ids = key-row_of principal_role_id row.id old rows found in
          let is : old ≡ row = λ i. record { id = sym ids i; name = sym (same-text row.name old.name may) i } in
          subst (λ kept. IsSound (record (counted s counters) { access = record s.access { principal_roles = kept } }))
          (sym (put-again principal_role_id rows row differ (found ∙ ap Some is)))
          (counted-sound s sound counters follows)

  -- the id of a catalogue that is there was given out
  catalog-given : (id : ℕ) → knows catalog_id id s.content.catalogs ≡ true → IsGiven s.next_id id
  catalog-given id known = by (row_of catalog_id id s.content.catalogs) refl
    where
      rows : List CatalogRow
      rows = s.content.catalogs

      by : (found : Option CatalogRow) → row_of catalog_id id s.content.catalogs ≡ found → IsGiven s.next_id id
      by None none = absurd (true≢false (sym known ∙ sym (is_some-row_of catalog_id id s.content.catalogs) ∙ ap is_some none))
      by (Some row) found =
          let all = sound.orderly.content.catalogs.given in
          subst (IsGiven s.next_id) (sym (key-row_of catalog_id id row rows found))
          (found-holds (has_id catalog_id id) (λ one. IsGiven s.next_id (catalog_id one)) rows row all found)

  -- a new catalogue role
  new-catalog_role : (row : CatalogRoleRow) → is_catalog_role_new s counters row ≡ true → SoundWith (PutCatalogRole row)
  new-catalog_role row may =
      let rows = s.access.catalog_roles in
      let after : List CatalogRoleRow = rows_with catalog_role_id row rows in
      let there = knows catalog_id row.catalog s.content.catalogs in
      let named = catalog_role_named row.catalog row.name s.access in
      let few = nat_lt (length rows) (bound_of quantity.CatalogRoles) in
      let few_after = fits quantity.CatalogRoles (length after) in
      let first = and_parts (is_new_id s counters row.id) (there && (is_none named && few)) may in
      let second = and_parts there (is_none named && few) first.1 in
      let third = and_parts (is_none named) few second.1 in
      let new = new-told row.id first.0 in
      let unknown = unknown-later s sound catalog_role_id rows sound.orderly.access.catalog_roles row.id new.later in
      let given_id = access.given-later s.next_id row.id row.catalog new.later (catalog-given row.catalog second.0) in
      let pushed = access.pushed_catalog_role row.id s.access row new.kept new.some refl given_id (none-told named third.0) in
      let later = access.more_ids (row.id + 1) counters.next_id (record s.access { catalog_roles = rows ++ row ∷ [] }) new.below pushed in
      let f = fits-of s sound in
      let holders = and_parts few_principals (few_roles && few_catalog_roles) f.holders in
      let others = (and_parts few_roles few_catalog_roles holders.1).0 in
      let fit = few-with catalog_role_id row rows (bound_of quantity.CatalogRoles) unknown third.1 in
      holders-sound (record s.access { catalog_roles = after })
      (subst (λ kept. IsSoundAccess counters.next_id (record s.access { catalog_roles = kept })) (sym (rows_with-new catalog_role_id row rows unknown)) later)
      (pushed_catalog_role s.access s.content sound.orderly.ties row unknown new.none second.0)
      (and_from few_principals (few_roles && few_after) holders.0 (and_from few_roles few_after others fit))
      f.facts

  pub catalog_role-sound : (row : CatalogRoleRow) → may_put_catalog_role s counters row ≡ true → SoundWith (PutCatalogRole row)
  catalog_role-sound row = by (row_of catalog_role_id row.id s.access.catalog_roles) refl
    where
      by : (found : Option CatalogRoleRow) → row_of catalog_role_id row.id s.access.catalog_roles ≡ found
          → may_be_catalog_role s counters row found ≡ true → SoundWith (PutCatalogRole row)
      by None none may = new-catalog_role row may
      by (Some old) found may =
          let rows = s.access.catalog_roles in
          let differ = IdsDiffer-rising catalog_role_id rows sound.orderly.access.catalog_roles.rise in
          let ids = key-row_of catalog_role_id row.id old rows found in
          let same = and_parts (nat_eq row.catalog old.catalog) (bytes_eq row.name old.name) may in
          let catalogs = eqb-true row.catalog old.catalog same.0 in
          let names = same-text row.name old.name same.1 in
          let is : old ≡ row = λ i. record { id = sym ids i; catalog = sym catalogs i; name = sym names i } in
          subst (λ kept. IsSound (record (counted s counters) { access = record s.access { catalog_roles = kept } }))
          (sym (put-again catalog_role_id rows row differ (found ∙ ap Some is)))
          (counted-sound s sound counters follows)
