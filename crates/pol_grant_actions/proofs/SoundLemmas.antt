-- The actions on catalogue roles, joins and grants keep a state sound.
use denote.Enum.Bare.{true_same}
use Rattle.std.proofs.Common.{◌≡◌, ℕ, ◌+◌, true, ◌&&◌, ◌||◌, codes, List, Option, None, Some, option_and_then, refl, sym, ap, subst, ◌∙◌, arith, nat_eq}
use Rattle.std.specs.Option.{option_map}
use Rattle.std.specs.Str.{bytes_eq}
use Rattle.std.proofs.lemmas.Bool.{and_parts, eqb-true}
use Rattle.pol_access.specs.Access.{catalog_role_id, principal_role_id}
use Rattle.pol_access.specs.Names.{catalog_role_named}
use Rattle.pol_access.specs.Privilege.{grantable, same_privilege}
use Rattle.pol_access.specs.Securable.{kind_of}
use Rattle.pol_access.specs.contracts.privilege.Privilege.{the_type}
use Rattle.pol_access.specs.declared.privilege.Privilege.{Privilege}
use Rattle.pol_access.specs.declared.privilege.Privilege.TheVariants.{CatalogManageAccess, CatalogManageContent}
use Rattle.pol_access.specs.declared.rows.CatalogRoleRow.{CatalogRoleRow}
use Rattle.pol_access.specs.declared.rows.GrantRow.{GrantRow}
use Rattle.pol_access.specs.declared.rows.JoinRow.{JoinRow}
use Rattle.pol_access.specs.declared.securable.Securable.{Securable}
use Rattle.pol_access.specs.declared.securable.Securable.TheVariants as securable
use Rattle.pol_access.proofs.SoundLemmas as access
use Rattle.pol_tables.specs.Table.{knows, row_of, IdsDiffer}
use Rattle.pol_tables.proofs.ListLemmas.{or_true}
use Rattle.pol_tables.proofs.RisingLemmas.{IdsDiffer-rising}
use Rattle.pol_tables.proofs.TableLemmas.{some_is}
use Rattle.pol_content.specs.Chain.{namespace_at, table_at, view_at}
use Rattle.pol_content.specs.Content.{catalog_id, catalog_named, is_catalog_named, is_namespace_named, namespace_id, namespace_named}
use Rattle.pol_table_rows.specs.Tables.{is_table_named, table_id, table_named}
use Rattle.pol_table_rows.specs.declared.row.TableRow.{TableRow}
use Rattle.pol_view_rows.specs.Views.{is_view_named, view_id, view_named}
use Rattle.pol_view_rows.specs.declared.row.ViewRow.{ViewRow}
use Rattle.pol_names.specs.declared.identifier.Identifier.{Identifier}
use Rattle.pol_content.specs.Ties.{IsGrantWithin, catalog_of, catalog_of_namespace}
use Rattle.pol_content.specs.declared.rows.CatalogRow.{CatalogRow}
use Rattle.pol_content.specs.declared.rows.NamespaceRow.{NamespaceRow}
use Rattle.pol_content.proofs.TiedContentLemmas as tied
use Rattle.pol_content.proofs.TiesLemmas as ties
use Rattle.pol_access.proofs.KeptLemmas.{found-passes}
use Rattle.pol_content.proofs.TiesLemmas.{found-own, new_ids}
use Rattle.pol_commands.specs.Kind as named_kind
use Rattle.pol_commands.specs.declared.command.Command.{Command}
use Rattle.pol_commands.specs.declared.grants.Grant.{Grant}
use Rattle.pol_commands.specs.declared.grants.GrantedOn.{GrantedOn}
use Rattle.pol_commands.specs.declared.grants.GrantedOn.TheVariants as on
use Rattle.pol_state.specs.Rows.{Rows}
use Rattle.pol_state.specs.Sound.{AreTied, IsGiven, IsGrantOf, IsOrderly, IsSecurableGiven, IsSound, IsSoundAccess}
use Rattle.pol_rules.specs.AccessRules.{catalog_role_at, grant_of, is_catalog, is_first, join_of, reserved_grant, reserved_join, securable_in}
use Rattle.pol_rules.specs.Acting.{stamped}
use Rattle.pol_state.specs.Bounds.{EachPasses}
use Rattle.pol_rules.specs.Rules.{given, name_taken}
use Rattle.pol_rules.proofs.FoundLemmas.{at-named, at-own, grant-found, join-found, known, role-at, role-is, role-own, text-same, catalog-own, found-holds}
use Rattle.pol_rules.proofs.SoundLemmas.{access-orderly, new-access-orderly, orderly-done, next-new, next_id-some, IsWithin}
use Rattle.pol_rules.proofs.AccessRulesLemmas.{both-not, not-kept}
use Rattle.pol_rules.proofs.RulesLemmas.{refused-not, name-free}
use Rattle.pol_grant_actions.specs.CatalogRoles.{create_catalog_role, drop_catalog_role, with_catalog_role, with_role_in, without_catalog_role}
use Rattle.pol_grant_actions.specs.Grants.{add_grant, revoke, with_grant, without_grant}
use Rattle.pol_grant_actions.specs.Joins.{add_join, end_join, with_join, without_join}

-- what the rules on what is kept leave out
join-not-kept : (role catalog_role : List ℕ) → reserved_join role catalog_role ≡ None → role ≡ codes "service_admin" → catalog_role ≡ codes "catalog_admin" → ⊥
unfolding reserved_join
join-not-kept role catalog_role passes is role_is =
    both-not (bytes_eq role (codes "service_admin")) (bytes_eq catalog_role (codes "catalog_admin")) (refused-not (bytes_eq role (codes "service_admin") && bytes_eq catalog_role (codes "catalog_admin")) _ passes) (text-same role (codes "service_admin") is) (text-same catalog_role (codes "catalog_admin") role_is)

first-false : (role : List ℕ) (grant : Grant) → reserved_grant role grant ≡ None → role ≡ codes "catalog_admin" → is_first grant ≡ true → ⊥
unfolding reserved_grant
first-false role grant passes is first =
    both-not (bytes_eq role (codes "catalog_admin")) (is_first grant) (refused-not (bytes_eq role (codes "catalog_admin") && is_first grant) _ passes) (text-same role (codes "catalog_admin") is) first

module _ (s : Rows) (command : Command) (sound : IsSound s) (within : IsWithin s command) where
  catalog_roles-differ : IdsDiffer catalog_role_id s.access.catalog_roles
  catalog_roles-differ = IdsDiffer-rising catalog_role_id s.access.catalog_roles sound.orderly.access.catalog_roles.rise

  -- a catalogue role that is created
  pub orderly-create_catalog_role : (catalog name : List ℕ) → EachPasses (create_catalog_role s command catalog name).rules → IsOrderly (stamped s command (create_catalog_role s command catalog name).after)
  orderly-create_catalog_role catalog name passes = orderly-done s command sound within (catalog_named catalog s.content) (with_role_in s name) (λ owner found.
      let row : CatalogRoleRow = record { id = s.next_id; catalog = owner.id; name = name } in
      let taken = sym (ap (λ one. given one (λ (row : CatalogRow). name_taken (catalog_role_named row.id name s.access) name)) found) ∙ passes.1.1.1.0 in
      let free = name-free (catalog_role_named owner.id name s.access) name taken in
      let own = catalog-own s command sound catalog owner found in
      let there = known catalog_id owner.id owner s.content.catalogs own in
      let given_id = found-holds (λ (one : CatalogRow). IsGiven s.next_id (catalog_id one)) (is_catalog_named catalog) s.content.catalogs owner sound.orderly.content.catalogs.given found in
      let pushed = access.pushed_catalog_role s.next_id s.access row sound.orderly.access (next_id-some s sound) refl given_id free in
      let last = (access.new_rows_last s.next_id s.access sound.orderly.access).2 row refl in
      new-access-orderly s command sound within (with_catalog_role s row).access
      (subst (λ rows. IsSoundAccess (s.next_id + 1) (record s.access { catalog_roles = rows })) (sym last) pushed)
      (tied.pushed_catalog_role s.access s.content sound.orderly.ties row (next-new catalog_role_id s.next_id s.next_id s.access.catalog_roles sound.orderly.access.catalog_roles refl) (new_ids s.next_id s.next_id s.content sound.orderly.content (omega arith)) there))

  -- a catalogue role that is dropped
  pub orderly-drop_catalog_role : (catalog name : List ℕ) → EachPasses (drop_catalog_role s command catalog name).rules → IsOrderly (stamped s command (drop_catalog_role s command catalog name).after)
  orderly-drop_catalog_role catalog name passes = orderly-done s command sound within (catalog_role_at s catalog name) (without_catalog_role s) (λ row found.
      let at = role-at s catalog name row found in
      access-orderly s command sound within (without_catalog_role s row).access
      (access.dropped_catalog_roles s.next_id row.id s.access sound.orderly.access).0
      (tied.dropped_catalog_role s.access s.content sound.orderly.ties row catalog_roles-differ (at-own s sound catalog name row at) (not-kept (codes "catalog_admin") name row.name passes.1.1.1.1.0 (sym (at-named s catalog name row at).1))))

  -- a join that is added
  pub orderly-add_join : (catalog role catalog_role : List ℕ) → EachPasses (add_join s command catalog role catalog_role).rules → IsOrderly (stamped s command (add_join s command catalog role catalog_role).after)
  orderly-add_join catalog role catalog_role passes = orderly-done s command sound within (join_of s catalog role catalog_role) (with_join s) (λ row found.
      let made = join-found s catalog role catalog_role row found in
      let role_known = subst (λ (one : JoinRow). knows principal_role_id one.principal_role s.access.principal_roles ≡ true) made.is (known principal_role_id made.one.id made.one s.access.principal_roles (role-own s sound role made.one made.one_there)) in
      let to_known = subst (λ (one : JoinRow). knows catalog_role_id one.catalog_role s.access.catalog_roles ≡ true) made.is (known catalog_role_id made.to.id made.to s.access.catalog_roles (at-own s sound catalog catalog_role made.to made.to_there)) in
      access-orderly s command sound within (with_join s row).access
      (access.put_join s.next_id s.access row sound.orderly.access role_known to_known)
      (ties.put_join s.access s.content sound.orderly.ties row))

  -- a join that is ended
  pub orderly-end_join : (catalog role catalog_role : List ℕ) → EachPasses (end_join s command catalog role catalog_role).rules → IsOrderly (stamped s command (end_join s command catalog role catalog_role).after)
  orderly-end_join catalog role catalog_role passes = orderly-done s command sound within (join_of s catalog role catalog_role) (without_join s) (λ row found.
      let made = join-found s catalog role catalog_role row found in
      let roles_differ = IdsDiffer-rising principal_role_id s.access.principal_roles sound.orderly.access.principal_roles.rise in
      access-orderly s command sound within (without_join s row).access
      (access.dropped_join s.next_id s.access row sound.orderly.access)
      (subst (λ (one : JoinRow). AreTied (without_join s one).access s.content) made.is (ties.dropped_join s.access s.content sound.orderly.ties made.one made.to roles_differ catalog_roles-differ (role-own s sound role made.one made.one_there) (at-own s sound catalog catalog_role made.to made.to_there) (λ service admin. join-not-kept role catalog_role passes.1.1.1.1.1.1.0 (role-is s sound role made.one made.one_there ∙ service) (sym (at-named s catalog catalog_role made.to made.to_there).1 ∙ admin)))))

  -- a namespace that was found lies in its catalogue
  record IsNamespaceAt (catalog : ℕ) (levels : List (List ℕ)) (one : Securable) : Type 0 where
    row : NamespaceRow
    own : row_of namespace_id row.id s.content.namespaces ≡ Some row
    within_catalog : row.catalog ≡ catalog
    given_id : IsGiven s.next_id row.id
    is : securable.Namespace row.id ≡ one

  namespace-found : (catalog : ℕ) (levels : List (List ℕ)) (one : Securable) → namespace_at catalog s.content levels ≡ Some one → IsNamespaceAt catalog levels one
  namespace-found catalog levels one found = by (namespace_named catalog levels s.content) refl found
    where
      by : (row : Option NamespaceRow) → namespace_named catalog levels s.content ≡ row → option_map (λ (row : NamespaceRow). securable.Namespace row.id) row ≡ Some one → IsNamespaceAt catalog levels one
      by None there is = let contrary : None ≡ Some one = is in cc
      by (Some row) there is = record {
        row = row;
        own = found-own namespace_id (is_namespace_named catalog levels) row s.content.namespaces (IdsDiffer-rising namespace_id s.content.namespaces sound.orderly.content.namespaces.rise) there;
        within_catalog = sym (eqb-true catalog row.catalog (and_parts (nat_eq catalog row.catalog) _ (found-passes (is_namespace_named catalog levels) s.content.namespaces row there)).0);
        given_id = found-holds (λ (one : NamespaceRow). IsGiven s.next_id (namespace_id one)) (is_namespace_named catalog levels) s.content.namespaces row sound.orderly.content.namespaces.given there;
        is = some_is _ one is;
      }

  -- a table that was found lies in a namespace of its catalogue
  record IsTableAt (catalog : ℕ) (one : Securable) : Type 0 where
    row : TableRow
    own : row_of table_id row.id s.content.tables ≡ Some row
    upper : NamespaceRow
    upper_own : row_of namespace_id row.namespace s.content.namespaces ≡ Some upper
    within_catalog : upper.catalog ≡ catalog
    given_id : IsGiven s.next_id row.id
    is : securable.Table row.id ≡ one

  table-found : (catalog : ℕ) (identifier : Identifier) (one : Securable) → option_map (λ (row : TableRow). securable.Table row.id) (table_at catalog identifier.namespace identifier.name s.content) ≡ Some one → IsTableAt catalog one
  table-found catalog identifier one found = by (namespace_named catalog identifier.namespace s.content) refl found
    where
      of : (upper : NamespaceRow) → namespace_named catalog identifier.namespace s.content ≡ Some upper → (row : Option TableRow) → table_named upper.id identifier.name s.content.tables ≡ row
          → option_map (λ (row : TableRow). securable.Table row.id) row ≡ Some one → IsTableAt catalog one
      of upper there None missing is = let contrary : None ≡ Some one = is in cc
      of upper there (Some row) kept is =
          let named = and_parts (nat_eq upper.id row.namespace) _ (found-passes (is_table_named upper.id identifier.name) s.content.tables row kept) in
          let own = found-own namespace_id (is_namespace_named catalog identifier.namespace) upper s.content.namespaces (IdsDiffer-rising namespace_id s.content.namespaces sound.orderly.content.namespaces.rise) there in
          record {
            row = row;
            own = found-own table_id (is_table_named upper.id identifier.name) row s.content.tables (IdsDiffer-rising table_id s.content.tables sound.orderly.content.tables.numbered.rise) kept;
            upper = upper;
            upper_own = ap (λ id. row_of namespace_id id s.content.namespaces) (sym (eqb-true upper.id row.namespace named.0)) ∙ own;
            within_catalog = sym (eqb-true catalog upper.catalog (and_parts (nat_eq catalog upper.catalog) _ (found-passes (is_namespace_named catalog identifier.namespace) s.content.namespaces upper there)).0);
            given_id = found-holds (λ (one : TableRow). IsGiven s.next_id (table_id one)) (is_table_named upper.id identifier.name) s.content.tables row sound.orderly.content.tables.numbered.given kept;
            is = some_is (securable.Table row.id) one is;
          }

      by : (upper : Option NamespaceRow) → namespace_named catalog identifier.namespace s.content ≡ upper
          → option_map (λ (row : TableRow). securable.Table row.id) (option_and_then (λ (row : NamespaceRow). table_named row.id identifier.name s.content.tables) upper) ≡ Some one → IsTableAt catalog one
      by None there is = let contrary : None ≡ Some one = is in cc
      by (Some upper) there is = of upper there (table_named upper.id identifier.name s.content.tables) refl is

  -- a view that was found lies in a namespace of its catalogue
  record IsViewAt (catalog : ℕ) (one : Securable) : Type 0 where
    row : ViewRow
    own : row_of view_id row.id s.content.views ≡ Some row
    upper : NamespaceRow
    upper_own : row_of namespace_id row.namespace s.content.namespaces ≡ Some upper
    within_catalog : upper.catalog ≡ catalog
    given_id : IsGiven s.next_id row.id
    is : securable.View row.id ≡ one

  view-found : (catalog : ℕ) (identifier : Identifier) (one : Securable) → option_map (λ (row : ViewRow). securable.View row.id) (view_at catalog identifier.namespace identifier.name s.content) ≡ Some one → IsViewAt catalog one
  view-found catalog identifier one found = by (namespace_named catalog identifier.namespace s.content) refl found
    where
      of : (upper : NamespaceRow) → namespace_named catalog identifier.namespace s.content ≡ Some upper → (row : Option ViewRow) → view_named upper.id identifier.name s.content.views ≡ row
          → option_map (λ (row : ViewRow). securable.View row.id) row ≡ Some one → IsViewAt catalog one
      of upper there None missing is = let contrary : None ≡ Some one = is in cc
      of upper there (Some row) kept is =
          let named = and_parts (nat_eq upper.id row.namespace) _ (found-passes (is_view_named upper.id identifier.name) s.content.views row kept) in
          let own = found-own namespace_id (is_namespace_named catalog identifier.namespace) upper s.content.namespaces (IdsDiffer-rising namespace_id s.content.namespaces sound.orderly.content.namespaces.rise) there in
          record {
            row = row;
            own = found-own view_id (is_view_named upper.id identifier.name) row s.content.views (IdsDiffer-rising view_id s.content.views sound.orderly.content.views.numbered.rise) kept;
            upper = upper;
            upper_own = ap (λ id. row_of namespace_id id s.content.namespaces) (sym (eqb-true upper.id row.namespace named.0)) ∙ own;
            within_catalog = sym (eqb-true catalog upper.catalog (and_parts (nat_eq catalog upper.catalog) _ (found-passes (is_namespace_named catalog identifier.namespace) s.content.namespaces upper there)).0);
            given_id = found-holds (λ (one : ViewRow). IsGiven s.next_id (view_id one)) (is_view_named upper.id identifier.name) s.content.views row sound.orderly.content.views.numbered.given kept;
            is = some_is (securable.View row.id) one is;
          }

      by : (upper : Option NamespaceRow) → namespace_named catalog identifier.namespace s.content ≡ upper
          → option_map (λ (row : ViewRow). securable.View row.id) (option_and_then (λ (row : NamespaceRow). view_named row.id identifier.name s.content.views) upper) ≡ Some one → IsViewAt catalog one
      by None there is = let contrary : None ≡ Some one = is in cc
      by (Some upper) there is = of upper there (view_named upper.id identifier.name s.content.views) refl is

  -- what a grant names in a catalogue lies there, was given its id, and is of the kind that is named
  record LiesIn (catalog : CatalogRow) (named : GrantedOn) (one : Securable) : Type 0 where
    lies : catalog_of one s.content ≡ Some catalog.id
    given_id : IsSecurableGiven s.next_id one
    kind : kind_of one ≡ named_kind.kind_of named

  lies-in : (name : List ℕ) (catalog : CatalogRow) (named : GrantedOn) (one : Securable) → catalog_named name s.content ≡ Some catalog → securable_in s named catalog ≡ Some one → LiesIn catalog named one
  lies-in name catalog on.Catalog one there found = subst (LiesIn catalog on.Catalog) (some_is (securable.Catalog catalog.id) one found) (record {
    lies = ap (option_map (λ (row : CatalogRow). row.id)) (catalog-own s command sound name catalog there);
    given_id = found-holds (λ (row : CatalogRow). IsGiven s.next_id (catalog_id row)) (is_catalog_named name) s.content.catalogs catalog sound.orderly.content.catalogs.given there;
    kind = refl;
  })
  lies-in name catalog (on.Namespace levels) one there found =
      let at = namespace-found catalog.id levels one found in
      subst (LiesIn catalog (on.Namespace levels)) at.is (record {
        lies = ap (option_map (λ (row : NamespaceRow). row.catalog)) at.own ∙ ap Some at.within_catalog;
        given_id = at.given_id;
        kind = refl;
      })
  lies-in name catalog (on.Table identifier) one there found =
      let at = table-found catalog.id identifier one found in
      subst (LiesIn catalog (on.Table identifier)) at.is (record {
        lies = ap (option_and_then (λ (row : TableRow). catalog_of_namespace row.namespace s.content)) at.own ∙ ap (option_map (λ (row : NamespaceRow). row.catalog)) at.upper_own ∙ ap Some at.within_catalog;
        given_id = at.given_id;
        kind = refl;
      })
  lies-in name catalog (on.View identifier) one there found =
      let at = view-found catalog.id identifier one found in
      subst (LiesIn catalog (on.View identifier)) at.is (record {
        lies = ap (option_and_then (λ (row : ViewRow). catalog_of_namespace row.namespace s.content)) at.own ∙ ap (option_map (λ (row : NamespaceRow). row.catalog)) at.upper_own ∙ ap Some at.within_catalog;
        given_id = at.given_id;
        kind = refl;
      })

  -- a grant that is added
  pub orderly-add_grant : (catalog role : List ℕ) (grant : Grant) → EachPasses (add_grant s command catalog role grant).rules → IsOrderly (stamped s command (add_grant s command catalog role grant).after)
  orderly-add_grant catalog role grant passes = orderly-done s command sound within (grant_of s catalog role grant) (with_grant s) (λ row found.
      let made = grant-found s catalog role grant row found in
      let own = at-own s sound catalog role made.to made.to_there in
      let in_catalog = lies-in catalog made.to_there.owner grant.on made.one made.to_there.owner_there made.one_there in
      let to_known = known catalog_role_id made.to.id made.to s.access.catalog_roles own in
      let allowed : grantable grant.privilege (kind_of made.one) ≡ true = ap (grantable grant.privilege) in_catalog.kind ∙ grant.proper in
      let lies : catalog_of made.one s.content ≡ Some made.to.catalog = in_catalog.lies ∙ ap Some (sym (at-named s catalog role made.to made.to_there).0) in
      access-orderly s command sound within (with_grant s row).access
      (access.put_grant s.next_id s.access row sound.orderly.access (subst (IsGrantOf s.next_id s.access.catalog_roles) made.is (record { role = to_known; securable = in_catalog.given_id; allowed = allowed })))
      (ties.put_grant s.access s.content sound.orderly.ties row (subst (IsGrantWithin s.access s.content) made.is (record { role = made.to; there = own; within = lies }))))

  -- the first grants of a `catalog_admin` are on its catalogue
  on-catalog : (catalog : CatalogRow) (named : GrantedOn) (one : Securable) (id : ℕ) → securable_in s named catalog ≡ Some one → one ≡ securable.Catalog id → is_catalog named ≡ true
  on-catalog catalog on.Catalog one id found is = refl
  on-catalog catalog (on.Namespace levels) one id found is =
      let at = namespace-found catalog.id levels one found in
      let contrary : securable.Namespace at.row.id ≡ securable.Catalog id = at.is ∙ is in cc
  on-catalog catalog (on.Table identifier) one id found is =
      let at = table-found catalog.id identifier one found in
      let contrary : securable.Table at.row.id ≡ securable.Catalog id = at.is ∙ is in cc
  on-catalog catalog (on.View identifier) one id found is =
      let at = view-found catalog.id identifier one found in
      let contrary : securable.View at.row.id ≡ securable.Catalog id = at.is ∙ is in cc

  privilege-same : (privilege other : Privilege) → privilege ≡ other → same_privilege privilege other ≡ true
  privilege-same privilege other is = true_same the_type privilege other is

  -- a grant that is revoked
  pub orderly-revoke : (catalog role : List ℕ) (grant : Grant) → EachPasses (revoke s command catalog role grant).rules → IsOrderly (stamped s command (revoke s command catalog role grant).after)
  orderly-revoke catalog role grant passes = orderly-done s command sound within (grant_of s catalog role grant) (without_grant s) (λ row found.
      let made = grant-found s catalog role grant row found in
      let own = at-own s sound catalog role made.to made.to_there in
      let named = at-named s catalog role made.to made.to_there in
      let made_row : GrantRow = record { catalog_role = made.to.id; privilege = grant.privilege; securable = made.one } in
      access-orderly s command sound within (without_grant s row).access
      ((access.dropped_grants s.next_id s.access sound.orderly.access).0 row)
      (subst (λ (one : GrantRow). AreTied (without_grant s one).access s.content) made.is (ties.dropped_grant s.access s.content sound.orderly.ties made.to made_row catalog_roles-differ own (λ admin on_it.
      let whole = on-catalog made.to_there.owner grant.on made.one made.to.catalog made.one_there on_it in
      let not_first = first-false role grant passes.1.1.1.1.1.1.0 (sym named.1 ∙ admin) in (
        λ is. not_first (ap (λ b. b && (same_privilege grant.privilege CatalogManageAccess || same_privilege grant.privilege CatalogManageContent)) whole ∙ ap (λ b. b || same_privilege grant.privilege CatalogManageContent) (privilege-same grant.privilege CatalogManageAccess is)),
        λ is. not_first (ap (λ b. b && (same_privilege grant.privilege CatalogManageAccess || same_privilege grant.privilege CatalogManageContent)) whole ∙ ap (λ b. same_privilege grant.privilege CatalogManageAccess || b) (privilege-same grant.privilege CatalogManageContent is) ∙ or_true (same_privilege grant.privilege CatalogManageAccess)),
      )))))
