-- The actions on principals, principal roles and memberships keep a state orderly.
use Rattle.std.proofs.Common.{◌≡◌, ℕ, ◌+◌, Bool, true, false, ◌&&◌, ◌||◌, codes, List, [], ◌∷◌, Option, None, refl, sym, ap, subst, ◌∙◌, arith, true≢false}
use Rattle.std.specs.List.{AllByRecursion}
use Rattle.std.specs.Str.{bytes_eq}
use Rattle.std.proofs.lemmas.Bool.{eqb-true}
use Rattle.pol_access.specs.Access.{catalog_role_id, principal_id, principal_role_id}
use Rattle.pol_access.specs.Names.{principal_named, principal_of_client, principal_role_named}
use Rattle.pol_access.specs.declared.rows.MemberRow.{MemberRow}
use Rattle.pol_access.specs.declared.rows.PrincipalRoleRow.{PrincipalRoleRow}
use Rattle.pol_access.specs.declared.rows.PrincipalRow.{PrincipalRow}
use Rattle.pol_access.proofs.SoundLemmas as access
use Rattle.pol_tables.specs.Table.{has_id, knows}
use Rattle.pol_tables.proofs.RisingLemmas.{IdsDiffer-rising}
use Rattle.pol_content.specs.Content.{catalog_id, namespace_id}
use Rattle.pol_table_rows.specs.Tables.{table_id}
use Rattle.pol_view_rows.specs.Views.{view_id}
use Rattle.pol_content.specs.Ties.{is_access_id, is_content_id}
use Rattle.pol_content.proofs.TiesLemmas as ties
use Rattle.pol_content.proofs.TiesLemmas.{new_ids, or-false}
use Rattle.pol_commands.specs.declared.command.Command.{Command}
use Rattle.pol_state.specs.Rows.{Rows, digest_of}
use Rattle.pol_state.specs.Sound.{IsOrderly, IsSound, IsSoundAccess}
use Rattle.pol_rules.specs.AccessRules.{member_of, reserved_member}
use Rattle.pol_rules.specs.Acting.{stamped}
use Rattle.pol_state.specs.Bounds.{EachPasses}
use Rattle.pol_rules.proofs.FoundLemmas.{known, member-found, principal-is, principal-own, role-is, role-own, text-same}
use Rattle.pol_rules.proofs.RulesLemmas.{refused-not, name-free}
use Rattle.pol_rules.proofs.SoundLemmas.{next-new, next_id-some, IsWithin, new-access-orderly, orderly-done, access-orderly}
use Rattle.pol_rules.proofs.AccessRulesLemmas.{both-not, not-kept}
use Rattle.pol_principal_actions.specs.Members.{add_member, end_member, with_member, without_member}
use Rattle.pol_principal_actions.specs.PrincipalRoles.{create_principal_role, drop_principal_role, with_principal_role, without_principal_role}
use Rattle.pol_principal_actions.specs.Principals.{client_id_or, create_principal, drop_principal, new_principal, rotate, rotated, secret_or, with_new_principal, without_principal}

pub member-not-kept : (principal role : List ℕ) → reserved_member principal role ≡ None → principal ≡ codes "root" → role ≡ codes "service_admin" → ⊥
unfolding reserved_member
member-not-kept principal role passes is role_is =
    both-not (bytes_eq principal (codes "root")) (bytes_eq role (codes "service_admin")) (refused-not (bytes_eq principal (codes "root") && bytes_eq role (codes "service_admin")) _ passes) (text-same principal (codes "root") is) (text-same role (codes "service_admin") role_is)

-- an id of a row apart from which others stand is none of theirs
apart-unknown : {R : Type 0} (key : R → ℕ) (is_other : ℕ → Bool) (id : ℕ) (rows : List R) → AllByRecursion (λ row. is_other (key row) ≡ false) rows → is_other id ≡ true → knows key id rows ≡ false
apart-unknown key is_other id [] apart is = refl
apart-unknown key is_other id (row ∷ rows) apart is = or-false (has_id key id row) (knows key id rows) (by (has_id key id row) refl) (apart-unknown key is_other id rows apart.1 is)
  where
    by : (b : Bool) → has_id key id row ≡ b → has_id key id row ≡ false
    by false not = not
    by true same = absurd (true≢false (sym is ∙ ap is_other (eqb-true id (key row) same) ∙ apart.0))

module _ (s : Rows) (command : Command) (sound : IsSound s) (within : IsWithin s command) where
  -- a principal that is created
  pub orderly-create_principal : (name : List ℕ) (client_id secret : Option (List ℕ)) → EachPasses (create_principal s command name client_id secret).rules → IsOrderly (stamped s command (create_principal s command name client_id secret).after)
  orderly-create_principal name client_id secret passes =
      let client = client_id_or client_id command.words.a in
      let row : PrincipalRow = new_principal s name client (secret_or secret command.words.b command.words.c) in
      let free = name-free (principal_named name s.access) name passes.1.1.0 in
      let client_free = name-free (principal_of_client client s.access) client passes.1.1.1.0 in
      let pushed = access.pushed_principal s.next_id s.access row sound.orderly.access (next_id-some s sound) refl free client_free in
      let last = (access.new_rows_last s.next_id s.access sound.orderly.access).0 row refl in
      new-access-orderly s command sound within (with_new_principal s row).access
      (subst (λ rows. IsSoundAccess (s.next_id + 1) (record s.access { principals = rows })) (sym last) pushed)
      (ties.put_principal s.access s.content sound.orderly.ties row (new_ids s.next_id s.next_id s.content sound.orderly.content (omega arith)))

  -- a principal that is dropped
  pub orderly-drop_principal : (name : List ℕ) → EachPasses (drop_principal s command name).rules → IsOrderly (stamped s command (drop_principal s command name).after)
  orderly-drop_principal name passes = orderly-done s command sound within (principal_named name s.access) (without_principal s) (λ row found.
      access-orderly s command sound within (without_principal s row).access
      (access.dropped_principal s.next_id s.access row sound.orderly.access (principal-own s sound name row found) (not-kept (codes "root") name row.name passes.1.1.1.0 (principal-is s sound name row found)))
      (ties.dropped_principal s.access s.content sound.orderly.ties row.id))

  -- an id of access is none of content
  no-content : (id : ℕ) → is_access_id id s.access ≡ true → is_content_id id s.content ≡ false
  no-content id is =
      let catalogs : knows catalog_id id s.content.catalogs ≡ false = apart-unknown catalog_id (λ one. is_access_id one s.access) id s.content.catalogs sound.orderly.ties.ids_apart.catalogs is in
      let namespaces : knows namespace_id id s.content.namespaces ≡ false = apart-unknown namespace_id (λ one. is_access_id one s.access) id s.content.namespaces sound.orderly.ties.ids_apart.namespaces is in
      let tables : knows table_id id s.content.tables ≡ false = apart-unknown table_id (λ one. is_access_id one s.access) id s.content.tables sound.orderly.ties.ids_apart.tables is in
      let views : knows view_id id s.content.views ≡ false = apart-unknown view_id (λ one. is_access_id one s.access) id s.content.views sound.orderly.ties.ids_apart.views is in
      λ i. ((catalogs i || namespaces i) || tables i) || views i

  -- a principal that gets another secret
  pub orderly-rotate : (name : List ℕ) (secret : Option (List ℕ)) → EachPasses (rotate s command name secret).rules → IsOrderly (stamped s command (rotate s command name secret).after)
  orderly-rotate name secret passes =
      let opens = secret_or secret command.words.a command.words.b in
      orderly-done s command sound within (principal_named name s.access) (rotated s opens) (λ old found.
      let row : PrincipalRow = record old { digest = digest_of opens } in
      let own = principal-own s sound name old found in
      let is = known principal_id old.id old s.access.principals own in
      access-orderly s command sound within (rotated s opens old).access
      (access.replaced_principal s.next_id s.access old row sound.orderly.access own refl refl)
      (ties.put_principal s.access s.content sound.orderly.ties row (no-content old.id (ap (λ b. b || knows principal_role_id old.id s.access.principal_roles || knows catalog_role_id old.id s.access.catalog_roles) is))))

  -- a membership that is added
  pub orderly-add_member : (principal role : List ℕ) → EachPasses (add_member s command principal role).rules → IsOrderly (stamped s command (add_member s command principal role).after)
  orderly-add_member principal role passes = orderly-done s command sound within (member_of s principal role) (with_member s) (λ row found.
      let made = member-found s principal role row found in
      let principal_known = subst (λ (one : MemberRow). knows principal_id one.principal s.access.principals ≡ true) made.is (known principal_id made.one.id made.one s.access.principals (principal-own s sound principal made.one made.one_there)) in
      let role_known = subst (λ (one : MemberRow). knows principal_role_id one.role s.access.principal_roles ≡ true) made.is (known principal_role_id made.of.id made.of s.access.principal_roles (role-own s sound role made.of made.of_there)) in
      access-orderly s command sound within (with_member s row).access
      (access.put_member s.next_id s.access row sound.orderly.access principal_known role_known)
      (ties.members_keep s.access s.content sound.orderly.ties (with_member s row).access.members))

  -- a membership that is ended
  pub orderly-end_member : (principal role : List ℕ) → EachPasses (end_member s command principal role).rules → IsOrderly (stamped s command (end_member s command principal role).after)
  orderly-end_member principal role passes = orderly-done s command sound within (member_of s principal role) (without_member s) (λ row found.
      let made = member-found s principal role row found in
      access-orderly s command sound within (without_member s row).access
      (subst (λ (one : MemberRow). IsSoundAccess s.next_id (without_member s one).access) made.is (access.dropped_member s.next_id s.access made.one made.of sound.orderly.access (principal-own s sound principal made.one made.one_there) (role-own s sound role made.of made.of_there) (λ root admin. member-not-kept principal role passes.1.1.1.1.1.0 (principal-is s sound principal made.one made.one_there ∙ root) (role-is s sound role made.of made.of_there ∙ admin))))
      (ties.members_keep s.access s.content sound.orderly.ties (without_member s row).access.members))

  -- a principal role that is created
  pub orderly-create_principal_role : (name : List ℕ) → EachPasses (create_principal_role s command name).rules → IsOrderly (stamped s command (create_principal_role s command name).after)
  orderly-create_principal_role name passes =
      let row : PrincipalRoleRow = record { id = s.next_id; name = name } in
      let free = name-free (principal_role_named name s.access) name passes.1.1.0 in
      let pushed = access.pushed_principal_role s.next_id s.access row sound.orderly.access (next_id-some s sound) refl free in
      let last = (access.new_rows_last s.next_id s.access sound.orderly.access).1 row refl in
      new-access-orderly s command sound within (with_principal_role s row).access
      (subst (λ rows. IsSoundAccess (s.next_id + 1) (record s.access { principal_roles = rows })) (sym last) pushed)
      (ties.pushed_principal_role s.access s.content sound.orderly.ties row (next-new principal_role_id s.next_id s.next_id s.access.principal_roles sound.orderly.access.principal_roles refl) (new_ids s.next_id s.next_id s.content sound.orderly.content (omega arith)))

  -- a principal role that is dropped
  pub orderly-drop_principal_role : (name : List ℕ) → EachPasses (drop_principal_role s command name).rules → IsOrderly (stamped s command (drop_principal_role s command name).after)
  orderly-drop_principal_role name passes = orderly-done s command sound within (principal_role_named name s.access) (without_principal_role s) (λ row found.
      let own = role-own s sound name row found in
      let other = not-kept (codes "service_admin") name row.name passes.1.1.1.0 (role-is s sound name row found) in
      access-orderly s command sound within (without_principal_role s row).access
      (access.dropped_principal_role s.next_id s.access row sound.orderly.access own other)
      (ties.dropped_principal_role s.access s.content sound.orderly.ties row (IdsDiffer-rising principal_role_id s.access.principal_roles sound.orderly.access.principal_roles.rise) own other))
