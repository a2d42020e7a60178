-- The changes of the actions on catalogues, namespaces and sessions.
use Rattle.std.proofs.Common.{◌≡◌, ℕ, ◌+◌, ◌≤◌, false, not, [], ◌∷◌, ◌++◌, filter, map, Some, refl, sym, subst, ap, ◌∙◌, arith, append-nil, append_assoc, ◌==◌}
use Rattle.std.specs.Cmp.{nat_cmp_is}
use Rattle.std.specs.Ordering.{nat_cmp}
use Rattle.std.specs.declared.cmp.Ordering.TheVariants.{Equal}
use Rattle.pol_access.specs.Access.{AccessRows, catalog_role_id, principal_id, principal_role_id}
use Rattle.pol_access.specs.Order.{grant_cmp, grants_in_order, join_cmp, joins_in_order}
use Rattle.pol_access.specs.Referent.{grant_names, join_names}
use Rattle.pol_access.specs.contracts.rows.CatalogRoleRow as catalog_role
use Rattle.pol_access.specs.contracts.rows.GrantRow as grant
use Rattle.pol_access.specs.contracts.rows.JoinRow as join
use Rattle.pol_access.specs.declared.referent.Referent.TheVariants as referent
use Rattle.pol_access.specs.declared.privilege.Privilege.TheVariants.{CatalogManageAccess, CatalogManageContent}
use Rattle.pol_access.specs.declared.rows.PrincipalRoleRow.{PrincipalRoleRow}
use Rattle.pol_access.specs.declared.securable.Securable.TheVariants as securable
use Rattle.pol_access.proofs.ReferentLemmas.{named_is_dropped}
use Rattle.pol_tables.specs.Changes.{fact_changes, new_rows}
use Rattle.pol_tables.specs.Order.{in_order, placed}
use Rattle.pol_tables.specs.Rising.{KeysBelow}
use Rattle.pol_tables.specs.Same.{same}
use Rattle.pol_tables.specs.Table.{knows, row_of, IdsDiffer}
use Rattle.pol_tables.proofs.ChangesLemmas.{holds-unknown, new_rows-append, table_changes-filter, table_changes-put_altered, table_changes-put_new, table_changes-put_same, table_changes-take}
use Rattle.pol_tables.proofs.FactChangesLemmas.{fact_changes-append, fact_changes-put_new}
use Rattle.pol_tables.proofs.NumberedLemmas.{below-next}
use Rattle.pol_tables.proofs.RisingLemmas.{IdsDiffer-rising, knows-below, KeysBelow-more}
use Rattle.pol_content.specs.Content.{catalog_id, namespace_id}
use Rattle.pol_content.specs.Ties.{admin_grant, admin_join, admin_of, is_access_id, with_admin, with_admin_last, IsAdminNew}
use Rattle.pol_content.specs.contracts.rows.CatalogRow as catalog
use Rattle.pol_content.specs.contracts.rows.NamespaceRow as namespace
use Rattle.pol_content.specs.declared.change.Change.TheVariants.{Time, NextId, NextSerial, PutCatalog, DropCatalog, PutCatalogRole, DropCatalogRole, PutNamespace, DropNamespace, PutJoin, DropJoin, PutGrant, DropGrant, PutSession}
use Rattle.pol_content.specs.declared.rows.CatalogRow.{CatalogRow}
use Rattle.pol_content.specs.declared.rows.NamespaceRow.{NamespaceRow}
use Rattle.pol_content.proofs.TiedContentLemmas.{admin_rows_last}
use Rattle.pol_tokens.specs.Tokens.{serial_of}
use Rattle.pol_tokens.specs.contracts.session.SessionRow.{the_row}
use Rattle.pol_tokens.specs.declared.session.SessionRow.{SessionRow}
use Rattle.pol_commands.specs.declared.command.Command.{Command}
use Rattle.pol_state.specs.Changes.{changes_between}
use Rattle.pol_state.specs.Rows.{Rows}
use Rattle.pol_state.specs.Sound.{IsSound}
use Rattle.pol_state.proofs.ChangesLemmas.{timed, none, still, made-with_ids, filter-twice, made-in_place, made-of, counter-kept, counter-raised}
use Rattle.pol_rules.specs.Acting.{stamped}
use Rattle.pol_rules.specs.Rules.{time_of}
use Rattle.pol_rules.proofs.SoundLemmas.{next-new}
use Rattle.pol_content_actions.specs.Catalogs.{with_catalog, without_catalog}
use Rattle.pol_content_actions.specs.Namespaces.{with_altered, with_new_namespace, without_namespace}
use Rattle.pol_content_actions.specs.Sessions.{with_session}

-- an id that was not given out is no principal's and no role's
pub unknown-later : (s : Rows) → IsSound s → (id : ℕ) → s.next_id ≤ id → is_access_id id s.access ≡ false
unknown-later s sound id later =
    rw (knows-below principal_id id s.access.principals (KeysBelow-more principal_id s.next_id id s.access.principals later (below-next principal_id s.next_id s.access.principals sound.orderly.access.principals)), knows-below principal_role_id id s.access.principal_roles (KeysBelow-more principal_role_id s.next_id id s.access.principal_roles later (below-next principal_role_id s.next_id s.access.principal_roles sound.orderly.access.principal_roles)), knows-below catalog_role_id id s.access.catalog_roles (KeysBelow-more catalog_role_id s.next_id id s.access.catalog_roles later (below-next catalog_role_id s.next_id s.access.catalog_roles sound.orderly.access.catalog_roles))) refl

-- the rows of a new catalogue's `catalog_admin` are new, and go last
pub admin-last : (s : Rows) → IsSound s → (catalog service : ℕ) → catalog ≡ s.next_id → IsAdminNew catalog service s.access × (with_admin catalog service s.access ≡ with_admin_last catalog service s.access)
admin-last s sound catalog service id =
    admin_rows_last s.access s.content sound.orderly.ties catalog service (unknown-later s sound (catalog + 1) (omega (arith, id))) sound.orderly.access.joins.each

-- a number compares as equal to itself
cmp-same : (n : ℕ) → nat_cmp n n ≡ Equal
cmp-same n = sym (nat_cmp_is n n Equal refl)

-- two grants of one role stand in the order of their privileges
admins_in_order : (catalog : ℕ) → grants_in_order (admin_grant CatalogManageAccess catalog ∷ admin_grant CatalogManageContent catalog ∷ []) ≡ admin_grant CatalogManageAccess catalog ∷ admin_grant CatalogManageContent catalog ∷ []
unfolding in_order placed
admins_in_order catalog = rw (cmp-same (catalog + 1)) refl

module _ (s : Rows) (sound : IsSound s) (time charged : ℕ) where
  catalogs-differ : IdsDiffer catalog_id s.content.catalogs
  catalogs-differ = IdsDiffer-rising catalog_id s.content.catalogs sound.orderly.content.catalogs.rise

  namespaces-differ : IdsDiffer namespace_id s.content.namespaces
  namespaces-differ = IdsDiffer-rising namespace_id s.content.namespaces sound.orderly.content.namespaces.rise

  roles-differ : IdsDiffer catalog_role_id s.access.catalog_roles
  roles-differ = IdsDiffer-rising catalog_role_id s.access.catalog_roles sound.orderly.access.catalog_roles.rise

  -- a catalogue that is put, with its `catalog_admin`
  catalog-new : (row : CatalogRow) → row.id ≡ s.next_id → knows catalog_id row.id s.content.catalogs ≡ false
  catalog-new row id =
      knows-below catalog_id row.id s.content.catalogs (subst (λ n. KeysBelow catalog_id n s.content.catalogs) (sym id) (below-next catalog_id s.next_id s.content.catalogs sound.orderly.content.catalogs))

  admin-grants : (row : CatalogRow) (service : PrincipalRoleRow) (new : IsAdminNew row.id service.id s.access)
      → fact_changes grant.the_row.coded grant_cmp PutGrant DropGrant s.access.grants (with_admin_last row.id service.id s.access).grants
      ≡ PutGrant (admin_grant CatalogManageAccess row.id) ∷ PutGrant (admin_grant CatalogManageContent row.id) ∷ []
  admin-grants row service new =
      fact_changes-append grant.the_row.coded grant_cmp PutGrant DropGrant s.access.grants (admin_grant CatalogManageAccess row.id ∷ admin_grant CatalogManageContent row.id ∷ []) (new.manages_access, (new.manages_content, tt))
      ∙ ap (map PutGrant) (admins_in_order row.id)

  pub changes-with_catalog : (row : CatalogRow) (service : PrincipalRoleRow) → row.id ≡ s.next_id → IsAdminNew row.id service.id s.access → with_admin row.id service.id s.access ≡ with_admin_last row.id service.id s.access
      → changes_between s (timed (with_catalog s row service) time charged) ≡ Time time ∷ NextId (s.next_id + 2) ∷ PutCatalog row ∷ PutCatalogRole (admin_of row.id) ∷ PutJoin (admin_join service.id row.id) ∷ PutGrant (admin_grant CatalogManageAccess row.id) ∷ PutGrant (admin_grant CatalogManageContent row.id) ∷ []
  changes-with_catalog row service id new last =
      made-with_ids s (timed (with_catalog s row service) time charged) 2 (record none {
        catalogs = PutCatalog row ∷ [];
        catalog_roles = PutCatalogRole (admin_of row.id) ∷ [];
        joins = PutJoin (admin_join service.id row.id) ∷ [];
        grants = PutGrant (admin_grant CatalogManageAccess row.id) ∷ PutGrant (admin_grant CatalogManageContent row.id) ∷ [];
      }) (omega arith) refl refl (λ i. record (still s i) {
        catalogs = table_changes-put_new catalog.the_row.coded catalog_id PutCatalog DropCatalog row s.content.catalogs (catalog-new row id) i;
        catalog_roles = table_changes-put_new catalog_role.the_row.coded catalog_role_id PutCatalogRole DropCatalogRole (admin_of row.id) s.access.catalog_roles new.role i;
        joins = fact_changes-put_new join.the_row.coded join_cmp PutJoin DropJoin (admin_join service.id row.id) s.access.joins new.joined i;
        grants = (ap (λ (access : AccessRows). fact_changes grant.the_row.coded grant_cmp PutGrant DropGrant s.access.grants access.grants) last ∙ admin-grants row service new) i;
      })

  -- a catalogue that is taken away, with its roles and what names these
  pub changes-without_catalog : (row : CatalogRow) → row_of catalog_id row.id s.content.catalogs ≡ Some row
      → changes_between s (timed (without_catalog s row) time charged) ≡ Time time ∷ DropCatalog row.id ∷ map DropCatalogRole (map catalog_role_id (filter (λ role. role.catalog == row.id) s.access.catalog_roles))
      ++ map DropJoin (joins_in_order (filter (join_names s.access.catalog_roles (referent.RoleOfCatalog row.id)) s.access.joins)) ++ map DropGrant (grants_in_order (filter (grant_names s.access.catalog_roles (referent.RoleOfCatalog row.id)) s.access.grants))
  changes-without_catalog row there =
      let named = named_is_dropped s.access (referent.RoleOfCatalog row.id) in
      let roles = map DropCatalogRole (map catalog_role_id (filter (λ role. role.catalog == row.id) s.access.catalog_roles)) in
      let joins = map DropJoin (joins_in_order (filter (join_names s.access.catalog_roles (referent.RoleOfCatalog row.id)) s.access.joins)) in
      let grants = map DropGrant (grants_in_order (filter (grant_names s.access.catalog_roles (referent.RoleOfCatalog row.id)) s.access.grants)) in
      made-in_place s (timed (without_catalog s row) time charged) (record none { catalogs = DropCatalog row.id ∷ []; catalog_roles = roles; joins = joins; grants = grants }) refl refl (λ i. record (still s i) {
        catalogs = table_changes-take catalog.the_row.coded catalog_id PutCatalog DropCatalog row.id row s.content.catalogs catalogs-differ there i;
        catalog_roles = (table_changes-filter catalog_role.the_row.coded catalog_role_id PutCatalogRole DropCatalogRole (λ role. not (role.catalog == row.id)) s.access.catalog_roles roles-differ ∙ ap (λ kept. map DropCatalogRole (map catalog_role_id kept)) (filter-twice (λ role. role.catalog == row.id) s.access.catalog_roles)) i;
        joins = named.1 PutJoin DropJoin i;
        grants = named.2 PutGrant DropGrant i;
      }) ∙ ap (λ rest. Time time ∷ DropCatalog row.id ∷ rest) (ap (λ last. roles ++ (joins ++ last)) (append-nil grants) ∙ sym (append_assoc roles joins grants))

  -- a namespace that is taken away, with the grants on it
  pub changes-without_namespace : (row : NamespaceRow) → row_of namespace_id row.id s.content.namespaces ≡ Some row
      → changes_between s (timed (without_namespace s row) time charged) ≡ Time time ∷ DropNamespace row.id ∷ map DropGrant (grants_in_order (filter (grant_names s.access.catalog_roles (referent.Securable (securable.Namespace row.id))) s.access.grants))
  changes-without_namespace row there =
      let named = named_is_dropped s.access (referent.Securable (securable.Namespace row.id)) in
      let grants = map DropGrant (grants_in_order (filter (grant_names s.access.catalog_roles (referent.Securable (securable.Namespace row.id))) s.access.grants)) in
      made-in_place s (timed (without_namespace s row) time charged) (record none { namespaces = DropNamespace row.id ∷ []; grants = grants }) refl refl (λ i. record (still s i) {
        namespaces = table_changes-take namespace.the_row.coded namespace_id PutNamespace DropNamespace row.id row s.content.namespaces namespaces-differ there i;
        grants = named.2 PutGrant DropGrant i;
      }) ∙ ap (λ rest. Time time ∷ DropNamespace row.id ∷ rest) (append-nil grants)

  -- a namespace that is altered, or put as it stands
  pub changes-altered : (row old : NamespaceRow) → row_of namespace_id row.id s.content.namespaces ≡ Some old → same namespace.the_row.coded row old ≡ false → changes_between s (timed (with_altered s row) time charged) ≡ Time time ∷ PutNamespace row ∷ []
  changes-altered row old there other =
      made-in_place s (timed (with_altered s row) time charged) (record none { namespaces = PutNamespace row ∷ [] }) refl refl
      (λ i. record (still s i) { namespaces = table_changes-put_altered namespace.the_row.coded namespace_id PutNamespace DropNamespace row old s.content.namespaces namespaces-differ there other i })

  pub changes-unaltered : (row : NamespaceRow) → row_of namespace_id row.id s.content.namespaces ≡ Some row → changes_between s (timed (with_altered s row) time charged) ≡ []
  changes-unaltered row there =
      made-in_place s (timed (with_altered s row) time charged) none refl refl
      (λ i. record (still s i) { namespaces = table_changes-put_same namespace.the_row.coded namespace_id PutNamespace DropNamespace row s.content.namespaces namespaces-differ there i })

-- a namespace that takes the next id
pub namespace_changes : (s : Rows) (command : Command) → IsSound s → (row : NamespaceRow) → row.id ≡ s.next_id → changes_between s (stamped s command (with_new_namespace s row)) ≡ Time (time_of s command) ∷ NextId (s.next_id + 1) ∷ PutNamespace row ∷ []
namespace_changes s command sound row id =
    let new = next-new namespace_id s.next_id row.id s.content.namespaces sound.orderly.content.namespaces id in
    made-with_ids s (stamped s command (with_new_namespace s row)) 1 (record none { namespaces = PutNamespace row ∷ [] }) (omega arith) refl refl (λ i. record (still s i) { namespaces = table_changes-put_new namespace.the_row.coded namespace_id PutNamespace DropNamespace row s.content.namespaces new i })

module _ (s : Rows) (row : SessionRow) (below : KeysBelow serial_of row.serial s.tokens.sessions) where
  -- the new session is the one new row
  new_rows-opened : new_rows the_row.coded s.tokens.sessions (s.tokens.sessions ++ row ∷ []) ≡ row ∷ []
  new_rows-opened =
      new_rows-append the_row.coded s.tokens.sessions (row ∷ []) (holds-unknown the_row.coded serial_of row s.tokens.sessions (knows-below serial_of row.serial s.tokens.sessions below), tt)

  -- a session that is opened is three changes
  pub changes-opened : (time charged : ℕ) → changes_between s (timed (with_session s row) time charged) ≡ Time time ∷ NextSerial (s.next_serial + 1) ∷ PutSession row ∷ []
  changes-opened time charged =
      made-of s (timed (with_session s row) time charged) [] (NextSerial (s.next_serial + 1) ∷ []) (record none { sessions = PutSession row ∷ [] }) (counter-kept s.next_id (NextId s.next_id)) (counter-raised s.next_serial 1 (NextSerial (s.next_serial + 1)) (omega arith))
      (λ i. record (still s i) { sessions = ap (map PutSession) new_rows-opened i })
