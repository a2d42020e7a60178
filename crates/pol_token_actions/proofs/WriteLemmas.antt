-- Who may write the data of a new table may write that of the tables of its namespace, since no grant is on it yet.
use Rattle.std.proofs.Common.{◌≡◌, ◌==◌, ℕ, Bool, true, false, not, ◌&&◌, ◌||◌, List, [], ◌∷◌, ◌++◌, Option, None, Some, refl, sym, ap, subst, ◌∙◌, arith}
use Rattle.std.specs.List.{list_any, AllByRecursion}
use Rattle.pol_access.specs.Access.{AccessRows}
use Rattle.pol_access.specs.Implication.{implies}
use Rattle.pol_access.specs.Search.{allows, covers, has_role, is_granted, is_in, manages_service, may}
use Rattle.pol_access.specs.Securable.{is_realm}
use Rattle.pol_access.specs.Sound.{IsGrantOf, IsSecurableGiven}
use Rattle.pol_access.specs.contracts.securable.Securable.{the_row}
use Rattle.pol_access.specs.declared.privilege.Privilege.{Privilege}
use Rattle.pol_access.specs.declared.privilege.Privilege.TheVariants.{TableWriteData}
use Rattle.pol_access.specs.declared.rows.GrantRow.{GrantRow}
use Rattle.pol_access.specs.declared.rows.JoinRow.{JoinRow}
use Rattle.pol_access.specs.declared.rows.MemberRow.{MemberRow}
use Rattle.pol_access.specs.declared.securable.Securable.{Securable}
use Rattle.pol_access.specs.declared.securable.Securable.TheVariants as securable
use Rattle.pol_commands.specs.declared.command.Caller.{Caller}
use Rattle.pol_commands.specs.declared.command.Caller.TheVariants.{Nobody, Bearer, Setup}
use Rattle.pol_commands.specs.declared.command.Command.{Command}
use Rattle.pol_content.specs.Chain.{chain_of, namespace_chain, parents_out, table_uppers, uppers_of_found}
use Rattle.pol_content.specs.Content.{namespace_id}
use Rattle.pol_content.specs.declared.rows.NamespaceRow.{NamespaceRow}
use Rattle.pol_names.specs.Namespace.{parent_of}
use Rattle.pol_names.specs.declared.scope.Scope.{Scope}
use Rattle.pol_table_rows.specs.declared.row.TableRow.{TableRow}
use Rattle.pol_tables.specs.Same.{same}
use Rattle.pol_tables.specs.Table.{row_of}
use Rattle.pol_tables.proofs.ListLemmas.{each-all, each-weaken}
use Rattle.pol_tables.proofs.SameLemmas.{same-true}
use Rattle.pol_tokens.specs.declared.session.SessionRow.{SessionRow}
use Rattle.pol_tokens.specs.declared.token.TokenRow.{TokenRow}
use Rattle.pol_state.specs.Rows.{Rows}
use Rattle.pol_state.specs.Sound.{IsSound}
use Rattle.pol_rules.specs.Needs.{caller_may, session_may}
use Rattle.pol_rules.specs.Rules.{session_of, time_of}
use Rattle.pol_token_rules.specs.DataNeeds.{may_write}
use Rattle.pol_token_actions.specs.Vending.{with_both, with_token}
use Rattle.pol_token_actions.proofs.IssuedLemmas.{put-there}

any-alike : {X : Type 0} (left right : X → Bool) (xs : List X) → AllByRecursion (λ x. left x ≡ right x) xs → list_any left xs ≡ list_any right xs
any-alike left right [] all = refl
any-alike left right (x ∷ xs) all = λ i. all.0 i || any-alike left right xs all.1 i

module _ (access : AccessRows) (next_id : ℕ) (grants : AllByRecursion (IsGrantOf next_id access.catalog_roles) access.grants) (wanted : Privilege) (chain : List Securable) where
  abbrev longer : List Securable
  longer = securable.Table next_id ∷ chain

  -- no grant is on a table whose id was not given out
  other : (grant : GrantRow) → IsSecurableGiven next_id grant.securable → same the_row.coded (securable.Table next_id) grant.securable ≡ false
  other grant given = by (same the_row.coded (securable.Table next_id) grant.securable) refl
    where
      by : (b : Bool) → same the_row.coded (securable.Table next_id) grant.securable ≡ b → same the_row.coded (securable.Table next_id) grant.securable ≡ false
      by false is = is
      by true is =
          let below : IsSecurableGiven next_id (securable.Table next_id) = subst (IsSecurableGiven next_id) (sym (same-true the_row.coded (securable.Table next_id) grant.securable is)) given in
          absurd (omega (arith, below.1))

  covers-alike : (role : ℕ) (grant : GrantRow) → IsSecurableGiven next_id grant.securable → covers role wanted longer grant ≡ covers role wanted chain grant
  unfolding covers
  covers-alike role grant given =
      ap (λ b. grant.catalog_role == role && (implies grant.privilege wanted && (not (is_realm grant.securable) && (b || is_in grant.securable chain)))) (other grant given)

  granted-alike : (role : ℕ) → is_granted access role wanted longer ≡ is_granted access role wanted chain
  unfolding is_granted
  granted-alike role =
      any-alike _ _ access.joins (each-all _ access.joins (λ (join : JoinRow). ap (λ b. join.principal_role == role && b) (any-alike (covers join.catalog_role wanted longer) (covers join.catalog_role wanted chain) access.grants
      (each-weaken (IsGrantOf next_id access.catalog_roles) (λ grant. covers join.catalog_role wanted longer grant ≡ covers join.catalog_role wanted chain grant) access.grants (λ grant known. covers-alike join.catalog_role grant known.securable) grants))))

  allows-alike : (principal : ℕ) (scope : Scope) (member : MemberRow) → allows access principal scope wanted longer member ≡ allows access principal scope wanted chain member
  unfolding allows manages_service
  allows-alike principal scope member =
      ap (λ b. member.principal == principal && (has_role scope member.role && (manages_service access member.role wanted chain || b))) (granted-alike member.role)

  pub may-alike : (principal : ℕ) (scope : Scope) → may access principal scope wanted longer ≡ may access principal scope wanted chain
  unfolding may
  may-alike principal scope =
      any-alike (allows access principal scope wanted longer) (allows access principal scope wanted chain) access.members (each-all _ access.members (allows-alike principal scope))

module _ (s : Rows) (sound : IsSound s) (command : Command) (table : TableRow) (id : table.id ≡ s.next_id) (token : TokenRow) where
  abbrev after : Rows
  after = with_both s table token

  -- what contains a namespace is the same with the new table
  parents-kept : (catalog : ℕ) (parent : Option (List (List ℕ))) → parents_out catalog parent after.content ≡ parents_out catalog parent s.content
  parents-kept catalog None = refl
  parents-kept catalog (Some parent) = refl

  uppers-kept : (found : Option NamespaceRow) → uppers_of_found found after.content ≡ uppers_of_found found s.content
  uppers-kept None = refl
  uppers-kept (Some row) = ap (λ outs. outs ++ securable.Catalog row.catalog ∷ []) (parents-kept row.catalog (parent_of row.levels))

  chain-is : chain_of (securable.Table table.id) after.content ≡ securable.Table s.next_id ∷ namespace_chain table.namespace s.content
  chain-is =
      (λ i. securable.Table (id i) ∷ table_uppers (put-there table s.content.tables i) after.content)
      ∙ ap (λ uppers. securable.Table s.next_id ∷ (securable.Namespace table.namespace ∷ uppers)) (uppers-kept (row_of namespace_id table.namespace s.content.namespaces))

  session-may : (found : Option SessionRow) → session_may s found (record { privilege = TableWriteData; on = securable.Namespace table.namespace }) ≡ session_may after found (record { privilege = TableWriteData; on = securable.Table table.id })
  session-may None = refl
  session-may (Some row) =
      sym (may-alike s.access s.next_id sound.orderly.access.grants.each TableWriteData (namespace_chain table.namespace s.content) row.principal row.scope)
      ∙ ap (may s.access row.principal row.scope TableWriteData) (sym chain-is)

  session-same : (time : ℕ) (text : List ℕ) → session_of s time text ≡ session_of after time text
  unfolding session_of
  session-same time text = refl

  by-caller : (time : ℕ) (caller : Caller) → caller_may s time caller (record { privilege = TableWriteData; on = securable.Namespace table.namespace }) ≡ caller_may after time caller (record { privilege = TableWriteData; on = securable.Table table.id })
  by-caller time Nobody = refl
  by-caller time (Bearer text) =
      session-may (session_of s time text) ∙ ap (λ found. session_may after found (record { privilege = TableWriteData; on = securable.Table table.id })) (session-same time text)
  by-caller time Setup = refl

  pub writes-new : may_write s command (securable.Namespace table.namespace) ≡ caller_may after (time_of s command) command.caller (record { privilege = TableWriteData; on = securable.Table table.id })
  writes-new = by-caller (time_of s command) command.caller

-- and what a caller may do with a table that is there stays with a storage token
module _ (s : Rows) (command : Command) (token : TokenRow) where
  session-kept : (time : ℕ) (text : List ℕ) → session_of s time text ≡ session_of (with_token s token) time text
  unfolding session_of
  session-kept time text = refl

  by-holder : (time : ℕ) (caller : Caller) (on : Securable) → caller_may s time caller (record { privilege = TableWriteData; on = on }) ≡ caller_may (with_token s token) time caller (record { privilege = TableWriteData; on = on })
  by-holder time Nobody on = refl
  by-holder time (Bearer text) on =
      ap (λ found. session_may s found (record { privilege = TableWriteData; on = on })) (session-kept time text)
  by-holder time Setup on = refl

  pub writes-kept : (on : Securable) → may_write s command on ≡ caller_may (with_token s token) (time_of s command) command.caller (record { privilege = TableWriteData; on = on })
  writes-kept on = by-holder (time_of s command) command.caller on
