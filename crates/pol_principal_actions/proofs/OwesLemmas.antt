-- What each action on principals, principal roles and memberships owes.
use Rattle.std.proofs.Common.{◌≡◌, ℕ, Bool, true, false, codes, List, Option, Some, refl, sym, ap, ◌∙◌, inl, inr, arith, true≢false}
use Rattle.std.specs.Str.{bytes_eq}
use Rattle.std.proofs.lemmas.Bool.{cases_Bool, eqb-true}
use Rattle.pol_access.specs.Access.{principal_dropped, principal_id}
use Rattle.pol_access.specs.Names.{principal_named, principal_role_named}
use Rattle.pol_access.specs.Order.{join_cmp, member_cmp}
use Rattle.pol_access.specs.Referent.{join_names, member_names}
use Rattle.pol_access.specs.contracts.rows.JoinRow as join
use Rattle.pol_access.specs.contracts.rows.MemberRow as member
use Rattle.pol_access.specs.declared.referent.Referent.TheVariants as referent
use Rattle.pol_access.specs.declared.rows.PrincipalRoleRow.{PrincipalRoleRow}
use Rattle.pol_access.specs.declared.rows.PrincipalRow.{PrincipalRow}
use Rattle.pol_tables.specs.Facts.{holds}
use Rattle.pol_tables.specs.Table.{has_id, knows, rows_without}
use Rattle.pol_tables.proofs.FactsLemmas.{facts_with-known}
use Rattle.pol_tables.proofs.ListLemmas.{each-all, each-weaken}
use Rattle.pol_tokens.specs.declared.session.SessionRow.{SessionRow}
use Rattle.pol_content.specs.declared.change.Change.TheVariants.{PutPrincipal, PutMember, DropMember, DropJoin}
use Rattle.pol_content.proofs.TiesLemmas.{unknown-put, unknown-without}
use Rattle.pol_commands.specs.declared.command.Command.{Command}
use Rattle.pol_state.specs.Rows.{Rows, digest_of}
use Rattle.pol_state.specs.Sound.{IsSessionOf, IsSound}
use Rattle.pol_state.proofs.AppliedLemmas.{and_then, facts-dropped, facts_without-unknown}
use Rattle.pol_rules.specs.AccessRules.{member_of}
use Rattle.pol_rules.specs.Acting.{Acting}
use Rattle.pol_rules.specs.Live.{live_part}
use Rattle.pol_rules.specs.Rules.{time_of}
use Rattle.pol_rules.proofs.FairLemmas.{none-fair, ◌⊳◌, fair-given, fair-in_realm, fair-no_member, fair-no_principal, fair-no_principal_role, fair-reserved, fair-reserved_member, fair-name_taken}
use Rattle.pol_rules.proofs.FoundLemmas.{known, principal-own, role-own}
use Rattle.pol_rules.proofs.LeadsLemmas.{leads-by, leads-one}
use Rattle.pol_rules.proofs.OwesLemmas.{owes-apart, owes-done, owes-reading, owes-returning, NoneReturns, Owes}
use Rattle.pol_principal_actions.specs.Members.{add_member, end_member, list_members, with_member, without_member}
use Rattle.pol_principal_actions.specs.PrincipalRoles.{create_principal_role, drop_principal_role, get_principal_role, list_principal_roles, with_principal_role, without_principal_role}
use Rattle.pol_principal_actions.specs.Principals.{client_id_or, create_principal, drop_principal, get_principal, list_principals, new_principal, rotate, rotated, secret_or, with_new_principal, with_principal, without_principal}
use Rattle.pol_principal_actions.proofs.ChangesLemmas.{dropped_principal_changes, dropped_principal_role_changes, ended_member_changes, new_member_changes, new_principal_changes, other_secret_changes, principal_role_changes, same_secret}
use Rattle.pol_principal_actions.proofs.SoundLemmas.{orderly-add_member, orderly-create_principal, orderly-create_principal_role, orderly-drop_principal, orderly-drop_principal_role, orderly-end_member, orderly-rotate}

module _ (s : Rows) (command : Command) where
  abbrev live : Rows
  live = live_part s

  -- each action owes this, where it is like in the live part
  abbrev OwesAlike : (Rows → Acting) → Type 0
  OwesAlike act = Owes s command (act s) (act live)

  -- a principal that is put is the one that was there, or takes the next id, which no session names
  put-returns : IsSound s → (row : PrincipalRow) → (knows principal_id row.id s.access.principals ≡ false → row.id ≡ s.next_id) → NoneReturns s (with_principal s row)
  put-returns sound row new =
      each-weaken (IsSessionOf s.next_id s.next_serial) _ s.tokens.sessions (λ session known there. by session known (knows principal_id session.principal s.access.principals) refl there) sound.orderly.tokens.sessions
    where
      apart : (session : SessionRow) → IsSessionOf s.next_id s.next_serial session → knows principal_id session.principal s.access.principals ≡ false → has_id principal_id session.principal row ≡ false
      apart session known unknown = elim (cases_Bool (has_id principal_id session.principal row)) [
        | inl same ↦
            let is = eqb-true session.principal row.id same in
            let below = known.principal.1 in
            let next = new (sym (ap (λ id. knows principal_id id s.access.principals) is) ∙ unknown) in
            absurd (omega (arith, is, below, next))
        | inr other ↦ other
      ]

      by : (session : SessionRow) → IsSessionOf s.next_id s.next_serial session → (b : Bool) → knows principal_id session.principal s.access.principals ≡ b → knows principal_id session.principal (with_principal s row).access.principals ≡ true → knows principal_id session.principal s.access.principals ≡ true
      by session known true is there = is
      by session known false is there =
          absurd (true≢false (sym there ∙ unknown-put principal_id session.principal row s.access.principals is (apart session known is)))

  without-returns : (id : ℕ) → NoneReturns s (record s { access = principal_dropped id s.access })
  without-returns id =
      each-all (λ session. knows principal_id session.principal (rows_without principal_id id s.access.principals) ≡ true → knows principal_id session.principal s.access.principals ≡ true) s.tokens.sessions (λ session there. by session (knows principal_id session.principal s.access.principals) refl there)
    where
      by : (session : SessionRow) (b : Bool) → knows principal_id session.principal s.access.principals ≡ b → knows principal_id session.principal (rows_without principal_id id s.access.principals) ≡ true → knows principal_id session.principal s.access.principals ≡ true
      by session true is there = is
      by session false is there = absurd (true≢false (sym there ∙ unknown-without principal_id session.principal id s.access.principals is))

  -- principals
  pub owes-list_principals : OwesAlike (λ t. list_principals t command)
  owes-list_principals = owes-reading s command (fair-in_realm command none-fair)

  pub owes-create_principal : (name : List ℕ) (client_id secret : Option (List ℕ)) → OwesAlike (λ t. create_principal t command name client_id secret)
  owes-create_principal name client_id secret =
      let client = client_id_or client_id command.words.a in
      let row = new_principal s name client (secret_or secret command.words.b command.words.c) in
      record {
        rows = owes-returning s command (with_new_principal s row) (λ sound. put-returns sound row (λ unknown. refl)) (λ sound. leads-by s command (with_new_principal s row) _ (new_principal_changes s command sound row refl) refl);
        orderly = λ sound within passes. orderly-create_principal s command sound within name client_id secret passes;
        fair = fair-in_realm command (fair-name_taken _ name ⊳ fair-name_taken _ client ⊳ none-fair);
        answer = λ sound. refl;
      }

  pub owes-get_principal : (name : List ℕ) → OwesAlike (λ t. get_principal t command name)
  owes-get_principal name = owes-reading s command (fair-in_realm command (fair-no_principal name ⊳ none-fair))

  pub owes-drop_principal : (name : List ℕ) → OwesAlike (λ t. drop_principal t command name)
  owes-drop_principal name = record {
    rows = owes-done s command (principal_named name s.access) _ _ (λ row found. owes-returning s command (without_principal s row) (λ sound. without-returns row.id) (λ sound.
        let after : Rows = record (without_principal s row) { time = time_of s command } in
        leads-by s command (without_principal s row) _ (dropped_principal_changes s command sound row (principal-own s sound name row found))
        (facts-dropped member.the_row.coded member_cmp DropMember (λ members. record after { access = record after.access { members = members } }) (λ members fact. refl) (member_names (referent.Principal row.id)) s.access.members).is));
    orderly = λ sound within passes. orderly-drop_principal s command sound within name passes;
    fair = fair-in_realm command (fair-no_principal name ⊳ fair-reserved (codes "root") name ⊳ none-fair);
    answer = λ sound. refl;
  }

  -- the principal that gets another secret was there
  rotated-returns : IsSound s → (name opens : List ℕ) (row : PrincipalRow) → principal_named name s.access ≡ Some row → NoneReturns s (rotated s opens row)
  rotated-returns sound name opens row found =
      let is = known principal_id row.id row s.access.principals (principal-own s sound name row found) in
      put-returns sound (record row { digest = digest_of opens }) (λ unknown. absurd (true≢false (sym is ∙ unknown)))

  pub owes-rotate : (name : List ℕ) (secret : Option (List ℕ)) → OwesAlike (λ t. rotate t command name secret)
  owes-rotate name secret =
      let opens = secret_or secret command.words.a command.words.b in
      record {
        rows = owes-done s command (principal_named name s.access) (rotated s opens) (rotated live opens) (λ row found. owes-returning s command (rotated s opens row) (λ sound. rotated-returns sound name opens row found) (λ sound.
            let own = principal-own s sound name row found in
            leads-one s command (rotated s opens row) (PutPrincipal (record row { digest = digest_of opens })) true (bytes_eq row.digest (digest_of opens)) (same_secret s command sound opens row own) (other_secret_changes s command sound opens row own) refl));
        orderly = λ sound within passes. orderly-rotate s command sound within name secret passes;
        fair = fair-in_realm command (fair-no_principal name ⊳ none-fair);
        answer = λ sound. refl;
      }

  -- memberships
  pub owes-list_members : (principal : List ℕ) → OwesAlike (λ t. list_members t command principal)
  owes-list_members principal = owes-reading s command (fair-in_realm command (fair-no_principal principal ⊳ none-fair))

  pub owes-add_member : (principal role : List ℕ) → OwesAlike (λ t. add_member t command principal role)
  unfolding member_of
  owes-add_member principal role = record {
    rows = owes-done s command (member_of s principal role) (with_member s) (with_member live) (λ row found. owes-apart s command (with_member s row) refl (λ sound.
        leads-one s command (with_member s row) (PutMember row) true (holds member.the_row.coded row s.access.members) (λ known. λ i. record s { access = record s.access { members = facts_with-known member.the_row.coded row s.access.members known i } }) (new_member_changes s command row) refl));
    orderly = λ sound within passes. orderly-add_member s command sound within principal role passes;
    fair = fair-in_realm command (fair-no_principal principal ⊳ fair-no_principal_role role ⊳ none-fair);
    answer = λ sound. refl;
  }

  pub owes-end_member : (principal role : List ℕ) → OwesAlike (λ t. end_member t command principal role)
  unfolding member_of
  owes-end_member principal role = record {
    rows = owes-done s command (member_of s principal role) _ _ (λ row found. owes-apart s command (without_member s row) refl (λ sound.
        leads-one s command (without_member s row) (DropMember row) false (holds member.the_row.coded row s.access.members) (λ none. λ i. record s { access = record s.access { members = facts_without-unknown member.the_row.coded row s.access.members none i } }) (ended_member_changes s command sound row) refl));
    orderly = λ sound within passes. orderly-end_member s command sound within principal role passes;
    fair = fair-in_realm command (fair-no_principal principal ⊳ fair-no_principal_role role ⊳ fair-given (member_of s principal role) (fair-no_member role) ⊳ fair-reserved_member principal role ⊳ none-fair);
    answer = λ sound. refl;
  }

  -- principal roles
  pub owes-list_principal_roles : OwesAlike (λ t. list_principal_roles t command)
  owes-list_principal_roles = owes-reading s command (fair-in_realm command none-fair)

  pub owes-create_principal_role : (name : List ℕ) → OwesAlike (λ t. create_principal_role t command name)
  owes-create_principal_role name =
      let row : PrincipalRoleRow = record { id = s.next_id; name = name } in
      record {
        rows = owes-apart s command (with_principal_role s row) refl (λ sound. leads-by s command (with_principal_role s row) _ (principal_role_changes s command sound row refl) refl);
        orderly = λ sound within passes. orderly-create_principal_role s command sound within name passes;
        fair = fair-in_realm command (fair-name_taken _ name ⊳ none-fair);
        answer = λ sound. refl;
      }

  pub owes-get_principal_role : (name : List ℕ) → OwesAlike (λ t. get_principal_role t command name)
  owes-get_principal_role name = owes-reading s command (fair-in_realm command (fair-no_principal_role name ⊳ none-fair))

  pub owes-drop_principal_role : (name : List ℕ) → OwesAlike (λ t. drop_principal_role t command name)
  owes-drop_principal_role name = record {
    rows = owes-done s command (principal_role_named name s.access) _ _ (λ row found. owes-apart s command (without_principal_role s row) refl (λ sound.
        let named = referent.PrincipalRole row.id in
        let after : Rows = record (without_principal_role s row) { time = time_of s command } in
        leads-by s command (without_principal_role s row) _ (dropped_principal_role_changes s command sound row (role-own s sound name row found)) (and_then
        (facts-dropped member.the_row.coded member_cmp DropMember (λ members. record after { access = record after.access { members = members; joins = s.access.joins } }) (λ members fact. refl) (member_names named) s.access.members)
        (facts-dropped join.the_row.coded join_cmp DropJoin (λ joins. record after { access = record after.access { joins = joins } }) (λ joins fact. refl) (join_names s.access.catalog_roles named) s.access.joins)).is));
    orderly = λ sound within passes. orderly-drop_principal_role s command sound within name passes;
    fair = fair-in_realm command (fair-no_principal_role name ⊳ fair-reserved (codes "service_admin") name ⊳ none-fair);
    answer = λ sound. refl;
  }
