-- A sound state without a row, and without what names it, is sound.
use Rattle.std.proofs.Common.{◌≡◌, ◌≢◌, ℕ, Bool, true, false, not, ◌&&◌, nat_le, codes, nat_eq, cond, List, [], ◌∷◌, filter, length, Option, None, Some, option_map, refl, sym, ap, subst, ◌∙◌, true≢false}
use Rattle.std.specs.Prelude.{Decides}
use Rattle.std.specs.List.{fold, list_all, AllByRecursion}
use Rattle.std.specs.Str.{bytes_eq}
use Rattle.std.proofs.lemmas.Bool.{and_from, and_parts}
use Rattle.pol_access.specs.Access.{AccessRows, catalog_role_dropped, catalog_roles_dropped, catalog_role_id, catalog_role_name, grants_on_dropped, principal_dropped, principal_id, principal_name, principal_role_dropped, principal_role_id, principal_role_name}
use Rattle.pol_access.specs.declared.referent.Referent.{Referent}
use Rattle.pol_access.specs.declared.referent.Referent.TheVariants as referent
use Rattle.pol_access.specs.declared.rows.CatalogRoleRow.{CatalogRoleRow}
use Rattle.pol_access.specs.declared.rows.MemberRow.{MemberRow}
use Rattle.pol_access.specs.declared.rows.PrincipalRoleRow.{PrincipalRoleRow}
use Rattle.pol_access.specs.declared.rows.PrincipalRow.{PrincipalRow}
use Rattle.pol_access.specs.declared.securable.Securable.{Securable}
use Rattle.pol_access.specs.declared.securable.Securable.TheVariants as securable
use Rattle.pol_access.proofs.KeptLemmas.{not-true}
use Rattle.pol_access.proofs.SoundLemmas as access
use Rattle.pol_commands.specs.declared.reply.Quantity.TheVariants as quantity
use Rattle.pol_content.specs.Content.{catalog_id, catalog_is_empty, is_empty, namespace_id}
use Rattle.pol_content.specs.declared.change.Change.{Change}
use Rattle.pol_content.specs.declared.change.Change.TheVariants.{DropCatalog, DropCatalogRole, DropNamespace, DropPrincipal, DropPrincipalRole, DropTable, DropView}
use Rattle.pol_content.proofs.SoundLemmas as content
use Rattle.pol_content.proofs.SoundLemmas.{no-parts}
use Rattle.pol_content.proofs.SoundViewsLemmas as views
use Rattle.pol_content.proofs.TiedContentLemmas as tied
use Rattle.pol_content.proofs.TiedViewsLemmas as tied_views
use Rattle.pol_content.proofs.TiesLemmas as ties
use Rattle.pol_rules.proofs.FitLemmas.{fit-dropped}
use Rattle.pol_rules.proofs.FoundLemmas.{text-same}
use Rattle.pol_sound_access.proofs.DecidedLemmas.{each, passes}
use Rattle.pol_sound_bounds.specs.Judged.{catalog_fits, fits, namespace_fits, table_fits, view_fits}
use Rattle.pol_content_steps.specs.Drops.{has_other_name, is_alone, may_drop_catalog, may_drop_catalog_role, may_drop_namespace, may_drop_principal, may_drop_principal_role, may_drop_table, may_drop_view}
use Rattle.pol_content_steps.specs.Taken.{takes_along}
use Rattle.pol_content_steps.proofs.TakenLemmas.{all_unnamed, few-kept, taken-along, taken-among, unnamed-fit, whole}
use Rattle.pol_access_steps.specs.Counters.{counted, may_follow}
use Rattle.pol_access_steps.specs.declared.counters.Counters.{Counters}
use Rattle.pol_access_steps.proofs.BoundsLemmas.{fits-of, namespaces-fit, tables-fit, views-fit, within-of, Fits}
use Rattle.pol_access_steps.proofs.CountersLemmas.{counted-sound}
use Rattle.pol_state.specs.Applied.{changed}
use Rattle.pol_state.specs.Bounds.{bound_of}
use Rattle.pol_state.specs.Rows.{Rows}
use Rattle.pol_state.specs.Sound.{AreTied, IsOrderly, IsSound, IsSoundAccess}
use Rattle.pol_table_rows.specs.Tables.{table_id}
use Rattle.pol_tables.specs.Table.{has_id, row_of, rows_without}
use Rattle.pol_tables.proofs.ListLemmas.{each-filter}
use Rattle.pol_tables.proofs.RisingLemmas.{IdsDiffer-rising}
use Rattle.pol_tables.proofs.TableLemmas.{key-row_of}
use Rattle.pol_view_rows.specs.Views.{view_id}

-- rows without one are no more, and pass each test that all passed
module _ {R : Type 0} (key : R → ℕ) (id : ℕ) (rows : List R) where
  few-without : (bound : ℕ) → nat_le (length rows) bound ≡ true → nat_le (length (rows_without key id rows)) bound ≡ true
  unfolding rows_without
  few-without bound few = few-kept (λ row. not (has_id key id row)) bound rows few

  all-without : (test : R → Bool) → list_all test rows ≡ true → list_all test (rows_without key id rows) ≡ true
  unfolding rows_without
  all-without test all =
      let tested : (some : List R) → Decides (list_all test some) (AllByRecursion (λ row. test row ≡ true) some) = each test (λ row. test row ≡ true) (λ row. passes (test row)) in
      (tested (rows_without key id rows)).1 (each-filter (λ row. test row ≡ true) (λ row. not (has_id key id row)) rows ((tested rows).0 all))

-- the bounds with other views, principals, principal roles and catalogue roles
module _ (s : Rows) (f : Fits s) where
  abbrev few_principals : Bool
  few_principals = fits quantity.Principals (length s.access.principals)

  abbrev few_roles : Bool
  few_roles = fits quantity.PrincipalRoles (length s.access.principal_roles)

  abbrev few_catalog_roles : Bool
  few_catalog_roles = fits quantity.CatalogRoles (length s.access.catalog_roles)

  record FewHolders : Type 0 where
    pub principals : few_principals ≡ true
    pub roles : few_roles ≡ true
    pub catalog_roles : few_catalog_roles ≡ true

  few-holders : FewHolders
  few-holders =
      let first = and_parts few_principals (few_roles && few_catalog_roles) f.holders in
      let last = and_parts few_roles few_catalog_roles first.1 in
      record { principals = first.0; roles = last.0; catalog_roles = last.1 }

  principals-fit : (rows : List PrincipalRow) → fits quantity.Principals (length rows) ≡ true → Fits (record s { access = record s.access { principals = rows } })
  principals-fit rows few = record {
    parts = f.parts;
    holders = and_from (fits quantity.Principals (length rows)) (few_roles && few_catalog_roles) few (and_parts few_principals (few_roles && few_catalog_roles) f.holders).1;
    facts = f.facts;
    counters = f.counters;
    numbers = f.numbers;
  }

  principal_roles-fit : (rows : List PrincipalRoleRow) → fits quantity.PrincipalRoles (length rows) ≡ true → Fits (record s { access = record s.access { principal_roles = rows } })
  principal_roles-fit rows few =
      let few_after = fits quantity.PrincipalRoles (length rows) in
      record {
        parts = f.parts;
        holders = and_from few_principals (few_after && few_catalog_roles) few-holders.principals (and_from few_after few_catalog_roles few few-holders.catalog_roles);
        facts = f.facts;
        counters = f.counters;
        numbers = f.numbers;
      }

  catalog_roles-fit : (rows : List CatalogRoleRow) → fits quantity.CatalogRoles (length rows) ≡ true → Fits (record s { access = record s.access { catalog_roles = rows } })
  catalog_roles-fit rows few =
      let few_after = fits quantity.CatalogRoles (length rows) in
      record {
        parts = f.parts;
        holders = and_from few_principals (few_roles && few_after) few-holders.principals (and_from few_roles few_after few-holders.roles few);
        facts = f.facts;
        counters = f.counters;
        numbers = f.numbers;
      }

-- the row of an id that has another name than this one
record IsOther {R : Type 0} (key : R → ℕ) (name : R → List ℕ) (reserved : List ℕ) (id : ℕ) (rows : List R) : Type 0 where
  pub row : R
  pub id_is : key row ≡ id
  pub found : row_of key (key row) rows ≡ Some row
  pub other : name row ≢ reserved

other-named : (reserved name : List ℕ) → not (bytes_eq reserved name) ≡ true → name ≢ reserved
other-named reserved name apart is =
    true≢false (sym (text-same reserved name (sym is)) ∙ not-true (bytes_eq reserved name) apart)

module _ {R : Type 0} (key : R → ℕ) (name : R → List ℕ) (reserved : List ℕ) (id : ℕ) (rows : List R) where
  other-found : has_other_name reserved (option_map name (row_of key id rows)) ≡ true → IsOther key name reserved id rows
  other-found passed = by (row_of key id rows) refl passed
    where
      by : (found : Option R) → row_of key id rows ≡ found → has_other_name reserved (option_map name found) ≡ true → IsOther key name reserved id rows
      by None is none = absurd (true≢false (sym none))
      by (Some row) is apart =
          let own = key-row_of key id row rows is in
          record {
            row = row;
            id_is = sym own;
            found = ap (λ n. row_of key n rows) (sym own) ∙ is;
            other = other-named reserved (name row) apart;
          }

-- changes that take along what names a referent lead to a sound state where the state without that is orderly
closed : (one : Referent) (s : Rows) (rest : List Change) (after : AccessRows) → takes_along one s.access rest ≡ true → all_unnamed one s.access ≡ after
    → Fits s → IsOrderly (record s { access = after }) → IsSound (fold changed s rest)
closed one s rest after takes is f orderly =
    let with : AccessRows → Rows = λ rows. record s { access = rows } in
    subst IsSound (sym (taken-along one s rest takes ∙ ap with is)) (record {
      orderly = orderly;
      within = within-of (with after) (subst (λ rows. Fits (with rows)) is (unnamed-fit one s f));
    })

-- two tests that pass together are the same
same-test : (left right : Bool) → cond left right (not right) ≡ true → left ≡ right
same-test true true both = refl
same-test true false both = absurd (true≢false (sym both))
same-test false true both = absurd (true≢false (sym both))
same-test false false both = refl

-- roles without the only one of a catalogue are those that are not the catalogue's
only-left : (id only : ℕ) (roles : List CatalogRoleRow) → list_all (is_alone id only) roles ≡ true → rows_without catalog_role_id only roles ≡ filter (λ role. not (nat_eq role.catalog id)) roles
unfolding rows_without
only-left id only [] all = refl
only-left id only (role ∷ roles) all =
    let parts = and_parts (is_alone id only role) (list_all (is_alone id only) roles) all in
    let rest = only-left id only roles parts.1 in
    λ i. cond (not (same-test (nat_eq only role.id) (nat_eq role.catalog id) parts.0 i)) (role ∷ rest i) (rest i)

-- no member and no join names a securable
on-securable : (one : Securable) (rows : AccessRows) → all_unnamed (referent.Securable one) rows ≡ grants_on_dropped one rows
on-securable one rows =
    λ i. record (grants_on_dropped one rows) { members = whole rows.members i; joins = whole rows.joins i }

module _ (s : Rows) (sound : IsSound s) where
  f : Fits s
  f = fits-of s sound

  table-dropped : (id : ℕ) (rest : List Change) → may_drop_table s id rest ≡ true → IsSound (fold changed (changed s (DropTable id)) rest)
  table-dropped id rest may =
      let one : Securable = securable.Table id in
      let rows = s.content.tables in
      let few = few-without table_id id rows (bound_of quantity.Tables) f.parts.1.1.0 in
      closed (referent.Securable one) (changed s (DropTable id)) rest (grants_on_dropped one s.access) may (on-securable one s.access)
      (tables-fit s (rows_without table_id id rows) f few (all-without table_id id rows table_fits f.numbers.1.1.0)) (record {
        access = (access.dropped_grants s.next_id s.access sound.orderly.access).1 one;
        content = content.dropped_table s.next_id id s.content sound.orderly.content;
        ties = tied.dropped_table s.access s.content sound.orderly.ties id;
        tokens = sound.orderly.tokens;
        tokens_fit = fit-dropped s sound id;
        time_bound = sound.orderly.time_bound;
        charged_bound = sound.orderly.charged_bound;
      })

  view-dropped : (id : ℕ) (rest : List Change) → may_drop_view s id rest ≡ true → IsSound (fold changed (changed s (DropView id)) rest)
  view-dropped id rest may =
      let one : Securable = securable.View id in
      let rows = s.content.views in
      let few = few-without view_id id rows (bound_of quantity.Views) f.parts.1.1.1 in
      closed (referent.Securable one) (changed s (DropView id)) rest (grants_on_dropped one s.access) may (on-securable one s.access)
      (views-fit s (rows_without view_id id rows) f few (all-without view_id id rows view_fits f.numbers.1.1.1)) (record {
        access = (access.dropped_grants s.next_id s.access sound.orderly.access).1 one;
        content = views.dropped_view s.next_id s.content sound.orderly.content id;
        ties = tied_views.dropped_view s.access s.content sound.orderly.ties id;
        tokens = sound.orderly.tokens;
        tokens_fit = sound.orderly.tokens_fit;
        time_bound = sound.orderly.time_bound;
        charged_bound = sound.orderly.charged_bound;
      })

  namespace-dropped : (id : ℕ) (rest : List Change) → may_drop_namespace s id rest ≡ true → IsSound (fold changed (changed s (DropNamespace id)) rest)
  namespace-dropped id rest may =
      let one : Securable = securable.Namespace id in
      let rows = s.content.namespaces in
      let few = few-without namespace_id id rows (bound_of quantity.Namespaces) f.parts.1.0 in
      let both = and_parts (is_empty id s.content) (takes_along (referent.Securable one) s.access rest) may in
      let parts = no-parts id s.content both.0 in
      closed (referent.Securable one) (changed s (DropNamespace id)) rest (grants_on_dropped one s.access) both.1 (on-securable one s.access)
      (namespaces-fit s (rows_without namespace_id id rows) f few (all-without namespace_id id rows namespace_fits f.numbers.1.0)) (record {
        access = (access.dropped_grants s.next_id s.access sound.orderly.access).1 one;
        content = content.dropped_namespace s.next_id id s.content sound.orderly.content both.0;
        ties = tied.dropped_namespace s.access s.content sound.orderly.ties id parts.1 parts.2;
        tokens = sound.orderly.tokens;
        tokens_fit = sound.orderly.tokens_fit;
        time_bound = sound.orderly.time_bound;
        charged_bound = sound.orderly.charged_bound;
      })

  -- an orderly state with other principals and roles
  with-access : (after : AccessRows) → IsSoundAccess s.next_id after → AreTied after s.content → IsOrderly (record s { access = after })
  with-access after itself are = record {
    access = itself;
    content = sound.orderly.content;
    ties = are;
    tokens = sound.orderly.tokens;
    tokens_fit = sound.orderly.tokens_fit;
    time_bound = sound.orderly.time_bound;
    charged_bound = sound.orderly.charged_bound;
  }

  principal-dropped : (id : ℕ) (rest : List Change) → may_drop_principal s id rest ≡ true → IsSound (fold changed (changed s (DropPrincipal id)) rest)
  principal-dropped id rest may =
      let rows = s.access.principals in
      let parts = and_parts (has_other_name (codes "root") (option_map principal_name (row_of principal_id id rows))) (takes_along (referent.Principal id) s.access rest) may in
      let gone = other-found principal_id principal_name (codes "root") id rows parts.0 in
      let after : AccessRows = principal_dropped id s.access in
      let is : all_unnamed (referent.Principal id) (changed s (DropPrincipal id)).access ≡ after = λ i. record after { joins = whole s.access.joins i; grants = whole s.access.grants i } in
      let itself = access.dropped_principal s.next_id s.access gone.row sound.orderly.access gone.found gone.other in
      closed (referent.Principal id) (changed s (DropPrincipal id)) rest after parts.1 is
      (principals-fit s f (rows_without principal_id id rows) (few-without principal_id id rows (bound_of quantity.Principals) (few-holders s f).principals))
      (with-access after (subst (λ n. IsSoundAccess s.next_id (principal_dropped n s.access)) gone.id_is itself) (ties.dropped_principal s.access s.content sound.orderly.ties id))

  principal_role-dropped : (id : ℕ) (rest : List Change) → may_drop_principal_role s id rest ≡ true → IsSound (fold changed (changed s (DropPrincipalRole id)) rest)
  principal_role-dropped id rest may =
      let rows = s.access.principal_roles in
      let parts = and_parts (has_other_name (codes "service_admin") (option_map principal_role_name (row_of principal_role_id id rows))) (takes_along (referent.PrincipalRole id) s.access rest) may in
      let gone = other-found principal_role_id principal_role_name (codes "service_admin") id rows parts.0 in
      let after : AccessRows = principal_role_dropped id s.access in
      let is : all_unnamed (referent.PrincipalRole id) (changed s (DropPrincipalRole id)).access ≡ after = λ i. record after { grants = whole s.access.grants i } in
      let itself = access.dropped_principal_role s.next_id s.access gone.row sound.orderly.access gone.found gone.other in
      let are = ties.dropped_principal_role s.access s.content sound.orderly.ties gone.row (IdsDiffer-rising principal_role_id rows sound.orderly.access.principal_roles.rise) gone.found gone.other in
      closed (referent.PrincipalRole id) (changed s (DropPrincipalRole id)) rest after parts.1 is
      (principal_roles-fit s f (rows_without principal_role_id id rows) (few-without principal_role_id id rows (bound_of quantity.PrincipalRoles) (few-holders s f).roles))
      (with-access after (subst (λ n. IsSoundAccess s.next_id (principal_role_dropped n s.access)) gone.id_is itself) (subst (λ n. AreTied (principal_role_dropped n s.access) s.content) gone.id_is are))

  catalog_role-dropped : (id : ℕ) (rest : List Change) → may_drop_catalog_role s id rest ≡ true → IsSound (fold changed (changed s (DropCatalogRole id)) rest)
  catalog_role-dropped id rest may =
      let rows = s.access.catalog_roles in
      let parts = and_parts (has_other_name (codes "catalog_admin") (option_map catalog_role_name (row_of catalog_role_id id rows))) (takes_along (referent.CatalogRole id) s.access rest) may in
      let gone = other-found catalog_role_id catalog_role_name (codes "catalog_admin") id rows parts.0 in
      let after : AccessRows = catalog_role_dropped id s.access in
      let is : all_unnamed (referent.CatalogRole id) (changed s (DropCatalogRole id)).access ≡ after = λ i. record after { members = whole s.access.members i } in
      let itself = (access.dropped_catalog_roles s.next_id id s.access sound.orderly.access).0 in
      let are = tied.dropped_catalog_role s.access s.content sound.orderly.ties gone.row (IdsDiffer-rising catalog_role_id rows sound.orderly.access.catalog_roles.rise) gone.found gone.other in
      closed (referent.CatalogRole id) (changed s (DropCatalogRole id)) rest after parts.1 is
      (catalog_roles-fit s f (rows_without catalog_role_id id rows) (few-without catalog_role_id id rows (bound_of quantity.CatalogRoles) (few-holders s f).catalog_roles))
      (with-access after itself (subst (λ n. AreTied (catalog_role_dropped n s.access) s.content) gone.id_is are))

  -- the bounds without a catalogue, its roles, and what names these
  few-left : (id : ℕ) → Fits (record (changed s (DropCatalog id)) { access = catalog_roles_dropped id s.access })
  few-left id =
      let one : Referent = referent.RoleOfCatalog id in
      let roles = s.access.catalog_roles in
      let catalogs = s.content.catalogs in
      let kept = filter (λ role. not (nat_eq role.catalog id)) roles in
      let facts = unnamed-fit one s f in
      let facts_left : Rows = record s { access = all_unnamed one s.access } in
      let few = catalog_roles-fit facts_left facts kept (few-kept (λ role. not (nat_eq role.catalog id)) (bound_of quantity.CatalogRoles) roles (few-holders s f).catalog_roles) in
      let left : List MemberRow → Rows = λ members. record (changed s (DropCatalog id)) { access = record (catalog_roles_dropped id s.access) { members = members } } in
      subst (λ members. Fits (left members)) (whole s.access.members) (record {
        parts = (few-without catalog_id id catalogs (bound_of quantity.Catalogs) f.parts.0, f.parts.1);
        holders = few.holders;
        facts = few.facts;
        counters = f.counters;
        numbers = (all-without catalog_id id catalogs catalog_fits f.numbers.0, f.numbers.1);
      })

  catalog-dropped : (id only : ℕ) (rest : List Change) → may_drop_catalog s id only rest ≡ true → IsSound (fold changed (changed (changed s (DropCatalog id)) (DropCatalogRole only)) rest)
  catalog-dropped id only rest may =
      let roles = s.access.catalog_roles in
      let empty = catalog_is_empty id s.content in
      let alone = list_all (is_alone id only) roles in
      let takes = takes_along (referent.RoleOfCatalog id) s.access rest in
      let first = and_parts empty (alone && takes) may in
      let last = and_parts alone takes first.1 in
      let gone : Rows = changed (changed s (DropCatalog id)) (DropCatalogRole only) in
      let after : Rows = record (changed s (DropCatalog id)) { access = catalog_roles_dropped id s.access } in
      let is : fold changed gone rest ≡ after =
      taken-among (referent.RoleOfCatalog id) roles gone rest last.1
      ∙ (λ i. record after { access = record (catalog_roles_dropped id s.access) { catalog_roles = only-left id only roles last.0 i; members = whole s.access.members i } }) in
      subst IsSound (sym is) (record {
        orderly = record {
          access = (access.dropped_catalog_roles s.next_id id s.access sound.orderly.access).1;
          content = content.dropped_catalog s.next_id id s.content sound.orderly.content first.0;
          ties = tied.dropped_catalog s.access s.content sound.orderly.ties id (IdsDiffer-rising catalog_role_id roles sound.orderly.access.catalog_roles.rise);
          tokens = sound.orderly.tokens;
          tokens_fit = sound.orderly.tokens_fit;
          time_bound = sound.orderly.time_bound;
          charged_bound = sound.orderly.charged_bound;
        };
        within = within-of after (few-left id);
      })

-- the state is sound with these counters, and once a change is made and then the others
abbrev pub SoundWithout : Rows → Counters → List Change → Change → Type 0
SoundWithout s counters rest first = IsSound (fold changed (changed (counted s counters) first) rest)

-- and so it is with the counters that were set before
module _ (s : Rows) (sound : IsSound s) (counters : Counters) (follows : may_follow s counters ≡ true) (id : ℕ) (rest : List Change) where
  base : IsSound (counted s counters)
  base = counted-sound s sound counters follows

  pub dropped_table-sound : may_drop_table s id rest ≡ true → SoundWithout s counters rest (DropTable id)
  dropped_table-sound = table-dropped (counted s counters) base id rest

  pub dropped_view-sound : may_drop_view s id rest ≡ true → SoundWithout s counters rest (DropView id)
  dropped_view-sound = view-dropped (counted s counters) base id rest

  pub dropped_namespace-sound : may_drop_namespace s id rest ≡ true → SoundWithout s counters rest (DropNamespace id)
  dropped_namespace-sound = namespace-dropped (counted s counters) base id rest

  pub dropped_principal-sound : may_drop_principal s id rest ≡ true → SoundWithout s counters rest (DropPrincipal id)
  dropped_principal-sound = principal-dropped (counted s counters) base id rest

  pub dropped_principal_role-sound : may_drop_principal_role s id rest ≡ true → SoundWithout s counters rest (DropPrincipalRole id)
  dropped_principal_role-sound = principal_role-dropped (counted s counters) base id rest

  pub dropped_catalog_role-sound : may_drop_catalog_role s id rest ≡ true → SoundWithout s counters rest (DropCatalogRole id)
  dropped_catalog_role-sound = catalog_role-dropped (counted s counters) base id rest

  pub dropped_catalog-sound : (only : ℕ) → may_drop_catalog s id only rest ≡ true → SoundWithout s counters (DropCatalogRole only ∷ rest) (DropCatalog id)
  dropped_catalog-sound only = catalog-dropped (counted s counters) base id only rest
