-- The tests of the parts of a state tell whether they are sound.
use Rattle.std.proofs.Common.{◌≡◌, ℕ, true, false, not, ◌&&◌, nat_eq, nat_lt, List, Option, None, Some, codes, refl, sym, ap, ◌∙◌, inl, inr, arith}
use Rattle.std.specs.Prelude.{Decides}
use Rattle.std.specs.Cmp.Lexicographic.{bytes_decides, pointwise_decides}
use Rattle.std.specs.List.{list_all, AllByRecursion}
use Rattle.std.proofs.lemmas.Bool.{cases_Bool, eq-eqb, eqb-true, ltb-false, ltb-true}
use Rattle.std.proofs.lemmas.Bool.Decides.{Decides-and, Decides-eqb, Decides-like, Decides-ltb, Decides-or}
use Rattle.pol_access.specs.Access.{AccessRows, catalog_role_id, is_joined}
use Rattle.pol_access.specs.Names.{catalog_role_named, principal_role_named}
use Rattle.pol_access.specs.declared.privilege.Privilege.TheVariants.{CatalogManageAccess, CatalogManageContent}
use Rattle.pol_access.specs.declared.rows.CatalogRoleRow.{CatalogRoleRow}
use Rattle.pol_access.specs.declared.rows.GrantRow.{GrantRow}
use Rattle.pol_access.specs.declared.rows.PrincipalRoleRow.{PrincipalRoleRow}
use Rattle.pol_content.specs.Content.{ContentRows, catalog_id}
use Rattle.pol_content.specs.Ties.{AreTied, HasAdmin, IsGrantWithin, catalog_of, is_access_id, manages}
use Rattle.pol_names.specs.declared.scope.Scope.{Scope}
use Rattle.pol_names.specs.declared.scope.Scope.TheVariants as scope
use Rattle.pol_sound_access.specs.Judged.{is_given, rises}
use Rattle.pol_sound_access.proofs.DecidedLemmas.{each, fails, given, never, passes}
use Rattle.pol_sound_access.proofs.RisingLemmas.{rises-decides, Within as Between}
use Rattle.pol_soundness.specs.Judged.{are_apart, are_fit, are_given, are_sessions, are_sound_tokens, are_tied, are_tokens, fits_found, fits_table, has_admin, has_own_serial, is_admin, is_fit, is_session, is_token, is_within, lies_in, same_place}
use Rattle.pol_state.specs.Sound.{FitsFound, FitsTable, IsFit, IsSessionOf, IsSoundTokens, IsTokenOf, NamesGiven}
use Rattle.pol_table_rows.specs.Tables.{table_id}
use Rattle.pol_table_rows.specs.declared.row.TableRow.{TableRow}
use Rattle.pol_tables.specs.Numbered.{IsGiven}
use Rattle.pol_tables.specs.Rising.{KeysRise}
use Rattle.pol_tables.specs.Table.{knows, row_of}
use Rattle.pol_tables.proofs.ListLemmas.{each-join, each-weaken}
use Rattle.pol_tables.proofs.TableLemmas.{some_is}
use Rattle.pol_tokens.specs.Tokens.{TokenRows, serial_of, token_serial}
use Rattle.pol_tokens.specs.declared.session.SessionRow.{SessionRow}
use Rattle.pol_tokens.specs.declared.token.TokenRow.{TokenRow}

-- sessions and storage tokens
module _ (next_id next_serial : ℕ) where
  scope-given : (one : Scope) → Decides (are_given next_id one) (NamesGiven next_id one)
  scope-given scope.All = (λ is. tt, λ all. refl)
  scope-given (scope.Roles roles) = each (is_given next_id) (IsGiven next_id) (given next_id) roles

  abbrev Names : SessionRow → Type 0
  Names row = IsGiven next_id row.principal × NamesGiven next_id row.scope

  session-names : (row : SessionRow) → Decides (is_session next_id row) (Names row)
  session-names row =
      Decides-and (is_given next_id row.principal) (are_given next_id row.scope) (given next_id row.principal) (scope-given row.scope)

  abbrev TokenNames : TokenRow → Type 0
  TokenNames row = IsGiven next_id row.principal × IsGiven next_id row.table

  token-names : (row : TokenRow) → Decides (is_token next_id row) (TokenNames row)
  token-names row =
      Decides-and (is_given next_id row.principal) (is_given next_id row.table) (given next_id row.principal) (given next_id row.table)

  sessions-decide : (rows : List SessionRow) → Decides (are_sessions next_id next_serial rows) (KeysRise serial_of rows × AllByRecursion (IsSessionOf next_id next_serial) rows)
  sessions-decide rows =
      Decides-like (are_sessions next_id next_serial rows)
      (λ all. (all.0.0, each-join (Between serial_of 0 next_serial) Names (IsSessionOf next_id next_serial) rows (λ row within names. record { below = within.1; principal = names.0; scope = names.1 }) all.0.1 all.1))
      (λ are. (
        (are.0, each-weaken (IsSessionOf next_id next_serial) (Between serial_of 0 next_serial) rows (λ row is. (omega arith, is.below)) are.1),
        each-weaken (IsSessionOf next_id next_serial) Names rows (λ row is. (is.principal, is.scope)) are.1,
      ))
      (Decides-and (rises serial_of 0 next_serial rows) (list_all (is_session next_id) rows) (rises-decides serial_of next_serial 0 rows) (each (is_session next_id) Names session-names rows))

  tokens-decide : (rows : List TokenRow) → Decides (are_tokens next_id next_serial rows) (KeysRise token_serial rows × AllByRecursion (IsTokenOf next_id next_serial) rows)
  tokens-decide rows =
      Decides-like (are_tokens next_id next_serial rows)
      (λ all. (all.0.0, each-join (Between token_serial 0 next_serial) TokenNames (IsTokenOf next_id next_serial) rows (λ row within names. record { below = within.1; principal = names.0; table = names.1 }) all.0.1 all.1))
      (λ are. (
        (are.0, each-weaken (IsTokenOf next_id next_serial) (Between token_serial 0 next_serial) rows (λ row is. (omega arith, is.below)) are.1),
        each-weaken (IsTokenOf next_id next_serial) TokenNames rows (λ row is. (is.principal, is.table)) are.1,
      ))
      (Decides-and (rises token_serial 0 next_serial rows) (list_all (is_token next_id) rows) (rises-decides token_serial next_serial 0 rows) (each (is_token next_id) TokenNames token-names rows))

  pub sound_tokens-decide : (rows : TokenRows) → Decides (are_sound_tokens next_id next_serial rows) (IsSoundTokens next_id next_serial rows)
  unfolding are_sound_tokens
  sound_tokens-decide rows =
      let tokens = are_tokens next_id next_serial rows.tokens in
      let serials = list_all (has_own_serial rows.sessions) rows.tokens in
      Decides-like (are_sound_tokens next_id next_serial rows)
      (λ all. record { sessions_rise = all.0.0; sessions = all.0.1; tokens_rise = all.1.0.0; tokens = all.1.0.1; serials_differ = all.1.1 })
      (λ sound. ((sound.sessions_rise, sound.sessions), ((sound.tokens_rise, sound.tokens), sound.serials_differ)))
      (Decides-and (are_sessions next_id next_serial rows.sessions) (tokens && serials) (sessions-decide rows.sessions)
      (Decides-and tokens serials (tokens-decide rows.tokens) (each (has_own_serial rows.sessions) (λ row. knows serial_of row.serial rows.sessions ≡ false) (λ row. fails (knows serial_of row.serial rows.sessions)) rows.tokens)))

-- storage tokens and their tables
fit-decides : (token : TokenRow) (table : TableRow) → Decides (is_fit token table) (IsFit token table)
fit-decides token table =
    let fewer = nat_lt token.moves table.moves in
    let as_many = nat_eq token.moves table.moves in
    let there = same_place token.location table.location in
    Decides-like (is_fit token table)
    (λ either. elim either [
      | inl less ↦ record { moves = omega (arith, less); location = λ same. absurd (omega (arith, less, same)) }
      | inr both ↦ record { moves = omega (arith, both.0); location = λ same. both.1 }
    ])
    (λ fit. elim (cases_Bool fewer) [
      | inl less ↦ inl (ltb-true token.moves table.moves less)
      | inr over ↦
          let from = ltb-false token.moves table.moves over in
          let same : token.moves ≡ table.moves = omega (arith, from, fit.moves) in
          inr (same, fit.location same)
    ])
    (Decides-or fewer (as_many && there) (Decides-ltb token.moves table.moves) (Decides-and as_many there (Decides-eqb token.moves table.moves) (pointwise_decides bytes_decides token.location table.location)))

found-decides : (token : TokenRow) (table : Option TableRow) → Decides (fits_found token table) (FitsFound token table)
found-decides token None = (λ is. tt, λ all. refl)
found-decides token (Some table) = fit-decides token table

pub tokens-fit : (tables : List TableRow) (tokens : List TokenRow) → Decides (are_fit tables tokens) (AllByRecursion (FitsTable tables) tokens)
unfolding are_fit
tokens-fit tables tokens =
    each (fits_table tables) (FitsTable tables) (λ token. found-decides token (row_of table_id token.table tables)) tokens

-- ties
module _ (access : AccessRows) (content : ContentRows) where
  lies : (row : GrantRow) (role : Option CatalogRoleRow) (catalog : Option ℕ) → row_of catalog_role_id row.catalog_role access.catalog_roles ≡ role → catalog_of row.securable content ≡ catalog → Decides (lies_in role catalog) (IsGrantWithin access content row)
  lies row None catalog no_role in_catalog = never (λ (is : IsGrantWithin access content row). let contrary : None ≡ Some is.role = sym no_role ∙ is.there in cc)
  lies row (Some role) None there nowhere = never (λ (is : IsGrantWithin access content row). let contrary : None ≡ Some is.role.catalog = sym nowhere ∙ is.within in cc)
  lies row (Some role) (Some catalog) there within = (
    λ same. record { role = role; there = there; within = within ∙ ap Some (eqb-true catalog role.catalog same) },
    λ is.
        let one : is.role ≡ role = some_is is.role role (sym is.there ∙ there) in
        let at : catalog ≡ is.role.catalog = some_is catalog is.role.catalog (sym within ∙ is.within) in
        eq-eqb catalog role.catalog (at ∙ ap (λ (kept : CatalogRoleRow). kept.catalog) one),
  )

  admin : (id : ℕ) (role : Option CatalogRoleRow) (service : Option PrincipalRoleRow) → catalog_role_named id (codes "catalog_admin") access ≡ role → principal_role_named (codes "service_admin") access ≡ service → Decides (is_admin access id role service) (HasAdmin access id)
  admin id None service no_role served = never (λ (has : HasAdmin access id). let contrary : None ≡ Some has.role = sym no_role ∙ has.role_there in cc)
  admin id (Some role) None there unserved = never (λ (has : HasAdmin access id). let contrary : None ≡ Some has.service = sym unserved ∙ has.service_there in cc)
  admin id (Some role) (Some service) there served =
      let joined = is_joined service.id role.id access in
      let accesses = manages CatalogManageAccess role.id id access in
      let contents = manages CatalogManageContent role.id id access in
      Decides-like (joined && (accesses && contents))
      (λ all. record { role = role; role_there = there; service = service; service_there = served; joined = all.0; manages_access = all.1.0; manages_content = all.1.1 })
      (λ (has : HasAdmin access id).
      let one : role ≡ has.role = some_is role has.role (sym there ∙ has.role_there) in
      let other : service ≡ has.service = some_is service has.service (sym served ∙ has.service_there) in (
        (λ i. is_joined (other i).id (one i).id access) ∙ has.joined,
        ((λ i. manages CatalogManageAccess (one i).id id access) ∙ has.manages_access, (λ i. manages CatalogManageContent (one i).id id access) ∙ has.manages_content),
      ))
      (Decides-and joined (accesses && contents) (passes joined) (Decides-and accesses contents (passes accesses) (passes contents)))

  -- no row has an id of a principal or a role
  abbrev Apart : {R : Type 0} → (R → ℕ) → List R → Type 0
  Apart key rows = AllByRecursion (λ row. is_access_id (key row) access ≡ false) rows

  apart : {R : Type 0} (key : R → ℕ) (rows : List R) → Decides (list_all (λ row. not (is_access_id (key row) access)) rows) (Apart key rows)
  apart key rows = each (λ row. not (is_access_id (key row) access)) (λ row. is_access_id (key row) access ≡ false) (λ row. fails (is_access_id (key row) access)) rows

  abbrev AllApart : Type 0
  AllApart =
      Apart (λ row. row.id) content.catalogs × (Apart (λ row. row.id) content.namespaces × (Apart (λ row. row.id) content.tables × Apart (λ row. row.id) content.views))

  apart-decides : Decides (are_apart access content) AllApart
  apart-decides =
      let namespaces = list_all (λ row. not (is_access_id row.id access)) content.namespaces in
      let tables = list_all (λ row. not (is_access_id row.id access)) content.tables in
      let views = list_all (λ row. not (is_access_id row.id access)) content.views in
      Decides-and (list_all (λ row. not (is_access_id row.id access)) content.catalogs) (namespaces && (tables && views)) (apart (λ row. row.id) content.catalogs)
      (Decides-and namespaces (tables && views) (apart (λ row. row.id) content.namespaces) (Decides-and tables views (apart (λ row. row.id) content.tables) (apart (λ row. row.id) content.views)))

  pub ties-decide : Decides (are_tied access content) (AreTied access content)
  unfolding are_tied
  ties-decide =
      let roles = list_all (λ row. knows catalog_id row.catalog content.catalogs) access.catalog_roles in
      let grants = list_all (is_within access content) access.grants in
      let admins = list_all (λ row. has_admin access row.id) content.catalogs in
      let ids = are_apart access content in
      Decides-like (roles && (grants && (admins && ids)))
      (λ all. record {
        role_catalogs = all.0;
        grants_within = all.1.0;
        catalog_admins = all.1.1.0;
        ids_apart = record { catalogs = all.1.1.1.0; namespaces = all.1.1.1.1.0; tables = all.1.1.1.1.1.0; views = all.1.1.1.1.1.1 };
      })
      (λ tied. (tied.role_catalogs, (tied.grants_within, (tied.catalog_admins, (tied.ids_apart.catalogs, (tied.ids_apart.namespaces, (tied.ids_apart.tables, tied.ids_apart.views)))))))
      (Decides-and roles (grants && (admins && ids)) (each (λ row. knows catalog_id row.catalog content.catalogs) (λ row. knows catalog_id row.catalog content.catalogs ≡ true) (λ row. passes (knows catalog_id row.catalog content.catalogs)) access.catalog_roles)
      (Decides-and grants (admins && ids) (each (is_within access content) (IsGrantWithin access content) (λ row. lies row (row_of catalog_role_id row.catalog_role access.catalog_roles) (catalog_of row.securable content) refl refl) access.grants)
      (Decides-and admins ids (each (λ row. has_admin access row.id) (λ row. HasAdmin access row.id) (λ row. admin row.id (catalog_role_named row.id (codes "catalog_admin") access) (principal_role_named (codes "service_admin") access) refl refl) content.catalogs) apart-decides)))
