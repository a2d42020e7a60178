-- The changes from the empty state, by the rows of each kind.
use Rattle.std.proofs.Common.{◌≡◌, ℕ, Bool, List, [], ◌∷◌, ◌++◌, map, Some, None, find, refl, sym, ap, ◌∙◌}
use Rattle.std.proofs.lemmas.List.{append_assoc}
use Rattle.pol_access.specs.Access.{catalog_role_id, principal_id, principal_role_id}
use Rattle.pol_access.specs.Order.{grant_cmp, grants_in_order, join_cmp, joins_in_order, member_cmp, members_in_order}
use Rattle.pol_access.specs.contracts.rows.CatalogRoleRow as catalog_role
use Rattle.pol_access.specs.contracts.rows.GrantRow as grant
use Rattle.pol_access.specs.contracts.rows.JoinRow as join
use Rattle.pol_access.specs.contracts.rows.MemberRow as member
use Rattle.pol_access.specs.contracts.rows.PrincipalRoleRow as principal_role
use Rattle.pol_access.specs.contracts.rows.PrincipalRow as principal
use Rattle.pol_access.specs.declared.rows.PrincipalRow.{PrincipalRow}
use Rattle.pol_content.specs.Content.{catalog_id, namespace_id}
use Rattle.pol_content.specs.contracts.rows.CatalogRow as catalog
use Rattle.pol_content.specs.contracts.rows.NamespaceRow as namespace
use Rattle.pol_content.specs.declared.change.Change.{Change}
use Rattle.pol_content.specs.declared.change.Change.TheVariants.{Time, PutPrincipal, DropPrincipal, PutPrincipalRole, DropPrincipalRole, PutCatalog, DropCatalog, PutCatalogRole, DropCatalogRole, PutNamespace, DropNamespace, PutTable, DropTable, PutView, DropView, PutMember, DropMember, PutJoin, DropJoin, PutGrant, DropGrant, PutSession, PutToken}
use Rattle.pol_rules.specs.Live.{live_part, live_tokens}
use Rattle.pol_state.specs.Changes.{changes_between, headed, id_change, in_turn, row_changes, serial_change, RowChanges}
use Rattle.pol_state.specs.Rows.{Rows, empty_state}
use Rattle.pol_state.specs.Sound.{IsSound}
use Rattle.pol_state.proofs.ChangesLemmas.{made-of}
use Rattle.pol_table_rows.specs.Tables.{table_id}
use Rattle.pol_table_rows.specs.contracts.row.TableRow as table
use Rattle.pol_tokens.specs.contracts.session.SessionRow as session
use Rattle.pol_tokens.specs.contracts.token.TokenRow as token
use Rattle.pol_view_rows.specs.Views.{view_id}
use Rattle.pol_view_rows.specs.contracts.row.ViewRow as view
use Rattle.pol_states.proofs.MadeLemmas.{facts-made, rows-made, table-made}

-- a put of each row
abbrev pub puts_of : Rows → RowChanges
puts_of s = record {
  principals = map PutPrincipal s.access.principals;
  principal_roles = map PutPrincipalRole s.access.principal_roles;
  catalogs = map PutCatalog s.content.catalogs;
  catalog_roles = map PutCatalogRole s.access.catalog_roles;
  namespaces = map PutNamespace s.content.namespaces;
  tables = map PutTable s.content.tables;
  views = map PutView s.content.views;
  members = map PutMember (members_in_order s.access.members);
  joins = map PutJoin (joins_in_order s.access.joins);
  grants = map PutGrant (grants_in_order s.access.grants);
  sessions = map PutSession s.tokens.sessions;
  tokens = map PutToken s.tokens.tokens;
}

puts-made : (s : Rows) → row_changes empty_state s ≡ puts_of s
unfolding empty_state
puts-made s = λ i. record {
  principals = table-made principal.the_row.coded principal_id PutPrincipal DropPrincipal s.access.principals i;
  principal_roles = table-made principal_role.the_row.coded principal_role_id PutPrincipalRole DropPrincipalRole s.access.principal_roles i;
  catalogs = table-made catalog.the_row.coded catalog_id PutCatalog DropCatalog s.content.catalogs i;
  catalog_roles = table-made catalog_role.the_row.coded catalog_role_id PutCatalogRole DropCatalogRole s.access.catalog_roles i;
  namespaces = table-made namespace.the_row.coded namespace_id PutNamespace DropNamespace s.content.namespaces i;
  tables = table-made table.the_row.coded table_id PutTable DropTable s.content.tables i;
  views = table-made view.the_row.coded view_id PutView DropView s.content.views i;
  members = facts-made member.the_row.coded member_cmp PutMember DropMember s.access.members i;
  joins = facts-made join.the_row.coded join_cmp PutJoin DropJoin s.access.joins i;
  grants = facts-made grant.the_row.coded grant_cmp PutGrant DropGrant s.access.grants i;
  sessions = rows-made session.the_row.coded PutSession s.tokens.sessions i;
  tokens = rows-made token.the_row.coded PutToken s.tokens.tokens i;
}

-- where there is a principal, the time and the counters stand in front
filled : (test : PrincipalRow → Bool) (rows : List PrincipalRow) (row : PrincipalRow) → find test rows ≡ Some row → (time : ℕ) (counters more : List Change) → headed time counters (map PutPrincipal rows ++ more) ≡ Time time ∷ counters ++ (map PutPrincipal rows ++ more)
filled test [] row found time counters more = let contrary : None ≡ Some row = found in cc
filled test (first ∷ rows) row found time counters more = refl

module _ (s : Rows) (sound : IsSound s) where
  abbrev pub counters : List Change
  counters = id_change empty_state s ++ serial_change empty_state s

  -- the time, the counters, and then a put of each row
  pub from-empty : changes_between empty_state s ≡ Time s.time ∷ counters ++ in_turn (puts_of s)
  from-empty =
      let chain = sound.orderly.access.root_chain in
      made-of empty_state s (id_change empty_state s) (serial_change empty_state s) (puts_of s) refl refl (puts-made s)
      ∙ filled _ s.access.principals chain.root chain.root_there s.time counters _

-- lists that are joined one after the other
joined : (first a b c d e f g h i j k l : List Change) → first ++ a ++ b ++ c ++ d ++ e ++ f ++ g ++ h ++ i ++ j ++ k ++ l ≡ first ++ (a ++ (b ++ (c ++ (d ++ (e ++ (f ++ (g ++ (h ++ (i ++ (j ++ (k ++ l)))))))))))
joined first a b c d e f g h i j k l =
    append_assoc (first ++ a ++ b ++ c ++ d ++ e ++ f ++ g ++ h ++ i ++ j) k l
    ∙ append_assoc (first ++ a ++ b ++ c ++ d ++ e ++ f ++ g ++ h ++ i) j (k ++ l)
    ∙ append_assoc (first ++ a ++ b ++ c ++ d ++ e ++ f ++ g ++ h) i (j ++ (k ++ l))
    ∙ append_assoc (first ++ a ++ b ++ c ++ d ++ e ++ f ++ g) h (i ++ (j ++ (k ++ l)))
    ∙ append_assoc (first ++ a ++ b ++ c ++ d ++ e ++ f) g (h ++ (i ++ (j ++ (k ++ l))))
    ∙ append_assoc (first ++ a ++ b ++ c ++ d ++ e) f (g ++ (h ++ (i ++ (j ++ (k ++ l)))))
    ∙ append_assoc (first ++ a ++ b ++ c ++ d) e (f ++ (g ++ (h ++ (i ++ (j ++ (k ++ l))))))
    ∙ append_assoc (first ++ a ++ b ++ c) d (e ++ (f ++ (g ++ (h ++ (i ++ (j ++ (k ++ l)))))))
    ∙ append_assoc (first ++ a ++ b) c (d ++ (e ++ (f ++ (g ++ (h ++ (i ++ (j ++ (k ++ l))))))))
    ∙ append_assoc (first ++ a) b (c ++ (d ++ (e ++ (f ++ (g ++ (h ++ (i ++ (j ++ (k ++ l)))))))))
    ∙ append_assoc first a (b ++ (c ++ (d ++ (e ++ (f ++ (g ++ (h ++ (i ++ (j ++ (k ++ l))))))))))

-- the list that the code makes
module _ (s : Rows) (sound : IsSound (live_part s)) (head rows members joins grants all : List Change) where
  pub all-made : head ≡ ((Time s.time ∷ []) ++ id_change empty_state s) ++ serial_change empty_state s
      → rows ≡ head ++ map PutPrincipal s.access.principals ++ map PutPrincipalRole s.access.principal_roles ++ map PutCatalog s.content.catalogs ++ map PutCatalogRole s.access.catalog_roles ++ map PutNamespace s.content.namespaces ++ map PutTable s.content.tables ++ map PutView s.content.views
      → members ≡ rows ++ map PutMember (members_in_order s.access.members)
      → joins ≡ members ++ map PutJoin (joins_in_order s.access.joins)
      → grants ≡ joins ++ map PutGrant (grants_in_order s.access.grants)
      → all ≡ (grants ++ map PutSession (live_tokens s).sessions) ++ map PutToken (live_tokens s).tokens
      → all ≡ changes_between empty_state (live_part s)
  all-made heading by_id member_puts join_puts grant_puts token_puts =
      let puts = puts_of (live_part s) in
      token_puts
      ∙ ap (λ (made : List Change). made ++ puts.sessions ++ puts.tokens) (grant_puts
      ∙ ap (λ (made : List Change). made ++ puts.grants) (join_puts
      ∙ ap (λ (made : List Change). made ++ puts.joins) (member_puts
      ∙ ap (λ (made : List Change). made ++ puts.members) (by_id
      ∙ ap (λ (made : List Change). made ++ puts.principals ++ puts.principal_roles ++ puts.catalogs ++ puts.catalog_roles ++ puts.namespaces ++ puts.tables ++ puts.views) heading))))
      ∙ joined (Time s.time ∷ counters (live_part s) sound) puts.principals puts.principal_roles puts.catalogs puts.catalog_roles puts.namespaces puts.tables puts.views puts.members puts.joins puts.grants puts.sessions puts.tokens
      ∙ sym (from-empty (live_part s) sound)
