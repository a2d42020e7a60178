-- The changes of the actions on principals, principal roles and memberships.
use Rattle.std.proofs.Common.{◌≡◌, ℕ, ◌+◌, true, false, List, [], ◌∷◌, ◌++◌, filter, map, Some, refl, sym, ap, ◌∙◌, arith, append-nil, true≢false}
use Rattle.std.specs.Str.{bytes_eq}
use Rattle.std.proofs.lemmas.Slice.Eq.{bytes_eq-Decides}
use Rattle.pol_access.specs.Access.{principal_id, principal_role_id}
use Rattle.pol_access.specs.Order.{joins_in_order, member_cmp, members_in_order}
use Rattle.pol_access.specs.Referent.{join_names, member_names}
use Rattle.pol_access.specs.contracts.rows.MemberRow as member
use Rattle.pol_access.specs.contracts.rows.PrincipalRoleRow as principal_role
use Rattle.pol_access.specs.contracts.rows.PrincipalRow as principal
use Rattle.pol_access.specs.declared.referent.Referent.TheVariants as referent
use Rattle.pol_access.specs.declared.rows.MemberRow.{MemberRow}
use Rattle.pol_access.specs.declared.rows.PrincipalRoleRow.{PrincipalRoleRow}
use Rattle.pol_access.specs.declared.rows.PrincipalRow.{PrincipalRow}
use Rattle.pol_access.proofs.ReferentLemmas.{named_is_dropped}
use Rattle.pol_tables.specs.Facts.{holds}
use Rattle.pol_tables.specs.Same.{same}
use Rattle.pol_tables.specs.Table.{row_of, rows_with, IdsDiffer}
use Rattle.pol_tables.proofs.ChangesLemmas.{table_changes-put_altered, table_changes-put_new, table_changes-put_same, table_changes-take}
use Rattle.pol_tables.proofs.FactChangesLemmas.{fact_changes-put_known, fact_changes-put_new, fact_changes-take}
use Rattle.pol_tables.proofs.RisingLemmas.{IdsDiffer-rising}
use Rattle.pol_tables.proofs.SameLemmas.{same-differ}
use Rattle.pol_tables.proofs.TableLemmas.{rows_with-known, rows_with-same}
use Rattle.pol_content.specs.declared.change.Change.TheVariants.{Time, NextId, PutPrincipal, DropPrincipal, PutPrincipalRole, DropPrincipalRole, PutMember, DropMember, PutJoin, DropJoin}
use Rattle.pol_commands.specs.declared.command.Command.{Command}
use Rattle.pol_state.specs.Changes.{changes_between}
use Rattle.pol_state.specs.Rows.{Rows, digest_of}
use Rattle.pol_state.specs.Sound.{IsSound}
use Rattle.pol_state.proofs.ChangesLemmas.{made-in_place, made-with_ids, none, still}
use Rattle.pol_rules.specs.Acting.{stamped}
use Rattle.pol_rules.specs.Rules.{time_of}
use Rattle.pol_rules.proofs.FoundLemmas.{known}
use Rattle.pol_rules.proofs.SoundLemmas.{next-new}
use Rattle.pol_principal_actions.specs.Members.{with_member, without_member}
use Rattle.pol_principal_actions.specs.PrincipalRoles.{with_principal_role, without_principal_role}
use Rattle.pol_principal_actions.specs.Principals.{rotated, with_new_principal, without_principal}

-- the same digest is that of the secret
digest-is : (row : PrincipalRow) (secret : List ℕ) → bytes_eq row.digest (digest_of secret) ≡ true → row.digest ≡ digest_of secret
digest-is row secret same = (bytes_eq-Decides row.digest (digest_of secret)).0 same

digest-other : (row : PrincipalRow) (secret : List ℕ) → bytes_eq row.digest (digest_of secret) ≡ false → same principal.the_row.coded (record row { digest = digest_of secret }) row ≡ false
digest-other row secret other =
    same-differ principal.the_row.coded (record row { digest = digest_of secret }) row (λ is. true≢false (sym ((bytes_eq-Decides row.digest (digest_of secret)).1 (sym (ap (λ (one : PrincipalRow). one.digest) is))) ∙ other))

module _ (s : Rows) (command : Command) where
  -- a membership that is there is put without a change, and one that isn't by one
  pub known_member_changes : (row : MemberRow) → holds member.the_row.coded row s.access.members ≡ true → changes_between s (stamped s command (with_member s row)) ≡ []
  known_member_changes row known =
      made-in_place s (stamped s command (with_member s row)) none refl refl (λ i. record (still s i) { members = fact_changes-put_known member.the_row.coded member_cmp PutMember DropMember row s.access.members known i })

  pub new_member_changes : (row : MemberRow) → holds member.the_row.coded row s.access.members ≡ false → changes_between s (stamped s command (with_member s row)) ≡ Time (time_of s command) ∷ PutMember row ∷ []
  new_member_changes row new =
      made-in_place s (stamped s command (with_member s row)) (record none { members = PutMember row ∷ [] }) refl refl (λ i. record (still s i) { members = fact_changes-put_new member.the_row.coded member_cmp PutMember DropMember row s.access.members new i })

  module _ (sound : IsSound s) where
    principals-differ : IdsDiffer principal_id s.access.principals
    principals-differ = IdsDiffer-rising principal_id s.access.principals sound.orderly.access.principals.rise

    principal_roles-differ : IdsDiffer principal_role_id s.access.principal_roles
    principal_roles-differ = IdsDiffer-rising principal_role_id s.access.principal_roles sound.orderly.access.principal_roles.rise

    -- a membership that is there is taken away
    pub ended_member_changes : (row : MemberRow) → holds member.the_row.coded row s.access.members ≡ true → changes_between s (stamped s command (without_member s row)) ≡ Time (time_of s command) ∷ DropMember row ∷ []
    ended_member_changes row there =
        made-in_place s (stamped s command (without_member s row)) (record none { members = DropMember row ∷ [] }) refl refl (λ i. record (still s i) { members = fact_changes-take member.the_row.coded member_cmp PutMember DropMember row s.access.members sound.orderly.access.members.differ there i })

    -- a principal that takes the next id
    pub new_principal_changes : (row : PrincipalRow) → row.id ≡ s.next_id → changes_between s (stamped s command (with_new_principal s row)) ≡ Time (time_of s command) ∷ NextId (s.next_id + 1) ∷ PutPrincipal row ∷ []
    new_principal_changes row id =
        let new = next-new principal_id s.next_id row.id s.access.principals sound.orderly.access.principals id in
        made-with_ids s (stamped s command (with_new_principal s row)) 1 (record none { principals = PutPrincipal row ∷ [] }) (omega arith) refl refl (λ i. record (still s i) { principals = table_changes-put_new principal.the_row.coded principal_id PutPrincipal DropPrincipal row s.access.principals new i })

    -- a principal role that takes the next id
    pub principal_role_changes : (row : PrincipalRoleRow) → row.id ≡ s.next_id → changes_between s (stamped s command (with_principal_role s row)) ≡ Time (time_of s command) ∷ NextId (s.next_id + 1) ∷ PutPrincipalRole row ∷ []
    principal_role_changes row id =
        let new = next-new principal_role_id s.next_id row.id s.access.principal_roles sound.orderly.access.principal_roles id in
        made-with_ids s (stamped s command (with_principal_role s row)) 1 (record none { principal_roles = PutPrincipalRole row ∷ [] }) (omega arith) refl refl (λ i. record (still s i) { principal_roles = table_changes-put_new principal_role.the_row.coded principal_role_id PutPrincipalRole DropPrincipalRole row s.access.principal_roles new i })

    -- a principal that has the secret already, and one that gets another
    pub same_secret_changes : (secret : List ℕ) (row : PrincipalRow) → row_of principal_id row.id s.access.principals ≡ Some row → bytes_eq row.digest (digest_of secret) ≡ true → changes_between s (stamped s command (rotated s secret row)) ≡ []
    same_secret_changes secret row there same =
        let own : row_of principal_id row.id s.access.principals ≡ Some (record row { digest = digest_of secret }) = there ∙ ap (λ digest. Some (record row { digest = digest })) (digest-is row secret same) in
        made-in_place s (stamped s command (rotated s secret row)) none refl refl (λ i. record (still s i) { principals = table_changes-put_same principal.the_row.coded principal_id PutPrincipal DropPrincipal (record row { digest = digest_of secret }) s.access.principals principals-differ own i })

    pub same_secret : (secret : List ℕ) (row : PrincipalRow) → row_of principal_id row.id s.access.principals ≡ Some row → bytes_eq row.digest (digest_of secret) ≡ true → rotated s secret row ≡ s
    same_secret secret row there same =
        let is : digest_of secret ≡ row.digest = sym (digest-is row secret same) in
        ap (λ digest. record s { access = record s.access { principals = rows_with principal_id (record row { digest = digest }) s.access.principals } }) is
        ∙ ap (λ rows. record s { access = record s.access { principals = rows } }) (rows_with-known principal_id row s.access.principals (known principal_id row.id row s.access.principals there) ∙ rows_with-same principal_id row s.access.principals principals-differ there)

    pub other_secret_changes : (secret : List ℕ) (row : PrincipalRow) → row_of principal_id row.id s.access.principals ≡ Some row → bytes_eq row.digest (digest_of secret) ≡ false → changes_between s (stamped s command (rotated s secret row)) ≡ Time (time_of s command) ∷ PutPrincipal (record row { digest = digest_of secret }) ∷ []
    other_secret_changes secret row there other =
        made-in_place s (stamped s command (rotated s secret row)) (record none { principals = PutPrincipal (record row { digest = digest_of secret }) ∷ [] }) refl refl (λ i. record (still s i) { principals = table_changes-put_altered principal.the_row.coded principal_id PutPrincipal DropPrincipal (record row { digest = digest_of secret }) row s.access.principals principals-differ there (digest-other row secret other) i })

    -- a principal that is taken away, with its memberships
    pub dropped_principal_changes : (row : PrincipalRow) → row_of principal_id row.id s.access.principals ≡ Some row
        → changes_between s (stamped s command (without_principal s row)) ≡ Time (time_of s command) ∷ DropPrincipal row.id ∷ map DropMember (members_in_order (filter (member_names (referent.Principal row.id)) s.access.members))
    dropped_principal_changes row there =
        let members = map DropMember (members_in_order (filter (member_names (referent.Principal row.id)) s.access.members)) in
        made-in_place s (stamped s command (without_principal s row)) (record none { principals = DropPrincipal row.id ∷ []; members = members }) refl refl (λ i. record (still s i) {
          principals = table_changes-take principal.the_row.coded principal_id PutPrincipal DropPrincipal row.id row s.access.principals principals-differ there i;
          members = (named_is_dropped s.access (referent.Principal row.id)).0 PutMember DropMember i;
        }) ∙ ap (λ rest. Time (time_of s command) ∷ DropPrincipal row.id ∷ rest) (append-nil members)

    -- a principal role that is taken away, with its members and joins
    pub dropped_principal_role_changes : (row : PrincipalRoleRow) → row_of principal_role_id row.id s.access.principal_roles ≡ Some row
        → changes_between s (stamped s command (without_principal_role s row))
        ≡ Time (time_of s command) ∷ DropPrincipalRole row.id ∷ map DropMember (members_in_order (filter (member_names (referent.PrincipalRole row.id)) s.access.members)) ++ map DropJoin (joins_in_order (filter (join_names s.access.catalog_roles (referent.PrincipalRole row.id)) s.access.joins))
    dropped_principal_role_changes row there =
        let named = named_is_dropped s.access (referent.PrincipalRole row.id) in
        let members = map DropMember (members_in_order (filter (member_names (referent.PrincipalRole row.id)) s.access.members)) in
        let joins = map DropJoin (joins_in_order (filter (join_names s.access.catalog_roles (referent.PrincipalRole row.id)) s.access.joins)) in
        made-in_place s (stamped s command (without_principal_role s row)) (record none { principal_roles = DropPrincipalRole row.id ∷ []; members = members; joins = joins }) refl refl (λ i. record (still s i) {
          principal_roles = table_changes-take principal_role.the_row.coded principal_role_id PutPrincipalRole DropPrincipalRole row.id row s.access.principal_roles principal_roles-differ there i;
          members = named.0 PutMember DropMember i;
          joins = named.1 PutJoin DropJoin i;
        }) ∙ ap (λ rest. Time (time_of s command) ∷ DropPrincipalRole row.id ∷ members ++ rest) (append-nil joins)
