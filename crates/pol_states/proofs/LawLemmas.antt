-- The changes from the empty state make a sound state anew, and it is sound.
use Rattle.std.proofs.Common.{◌≡◌, ℕ, ◌+◌, ◌==◌, Bool, true, false, cond, List, [], ◌∷◌, ◌++◌, map, refl, sym, ap, ◌∙◌, lit≤}
use Rattle.std.specs.Coded.{Coded}
use Rattle.std.specs.List.{fold, IsDistinct}
use Rattle.std.specs.declared.cmp.Ordering.{Ordering}
use Rattle.std.proofs.lemmas.Bool.{eqb-true}
use Rattle.pol_access.specs.Access.{AccessRows, catalog_role_id, principal_id, principal_role_id}
use Rattle.pol_access.specs.Order.{grant_cmp, grants_in_order, join_cmp, joins_in_order, member_cmp, members_in_order}
use Rattle.pol_access.specs.Sound.{AreFacts, IsGrantOf, IsJoinOf, IsMemberOf}
use Rattle.pol_access.specs.contracts.rows.CatalogRoleRow as catalog_role
use Rattle.pol_access.specs.contracts.rows.GrantRow as grant
use Rattle.pol_access.specs.contracts.rows.JoinRow as join
use Rattle.pol_access.specs.contracts.rows.MemberRow as member
use Rattle.pol_access.specs.contracts.rows.PrincipalRoleRow as principal_role
use Rattle.pol_access.specs.contracts.rows.PrincipalRow as principal
use Rattle.pol_access.specs.declared.rows.CatalogRoleRow.{CatalogRoleRow}
use Rattle.pol_access.specs.declared.rows.GrantRow.{GrantRow}
use Rattle.pol_access.specs.declared.rows.JoinRow.{JoinRow}
use Rattle.pol_access.specs.declared.rows.MemberRow.{MemberRow}
use Rattle.pol_access.specs.declared.rows.PrincipalRoleRow.{PrincipalRoleRow}
use Rattle.pol_access.specs.declared.rows.PrincipalRow.{PrincipalRow}
use Rattle.pol_commands.specs.declared.reply.Quantity.TheVariants as quantity
use Rattle.pol_content.specs.Content.{ContentRows, catalog_id, namespace_id}
use Rattle.pol_content.specs.Ties.{HasAdmin, IsGrantWithin}
use Rattle.pol_content.specs.contracts.rows.CatalogRow as catalog
use Rattle.pol_content.specs.contracts.rows.NamespaceRow as namespace
use Rattle.pol_content.specs.declared.change.Change.{Change}
use Rattle.pol_content.specs.declared.change.Change.TheVariants.{Time, NextId, NextSerial, PutPrincipal, PutPrincipalRole, PutCatalog, PutCatalogRole, PutNamespace, PutTable, PutView, PutMember, PutJoin, PutGrant, PutSession, PutToken}
use Rattle.pol_content.specs.declared.rows.CatalogRow.{CatalogRow}
use Rattle.pol_content.specs.declared.rows.NamespaceRow.{NamespaceRow}
use Rattle.pol_state.specs.Applied.{applied, changed}
use Rattle.pol_state.specs.Bounds.{above, limits, over_limit}
use Rattle.pol_state.specs.Changes.{changes_between, in_turn}
use Rattle.pol_state.specs.Rows.{Rows, empty_state}
use Rattle.pol_state.specs.Sound.{IsSound}
use Rattle.pol_state.proofs.AppliedLemmas.{and_then, Makes}
use Rattle.pol_state.proofs.BoundsLemmas.{each-within, refusal-none}
use Rattle.pol_table_rows.specs.Tables.{table_id}
use Rattle.pol_table_rows.specs.contracts.row.TableRow as table
use Rattle.pol_table_rows.specs.declared.row.TableRow.{TableRow}
use Rattle.pol_tables.specs.Facts.{facts_with, holds}
use Rattle.pol_tables.specs.Order.{in_order}
use Rattle.pol_tables.specs.Rising.{KeysRise}
use Rattle.pol_tables.specs.Same.{same}
use Rattle.pol_tables.specs.Table.{rows_with}
use Rattle.pol_tables.proofs.FactChangesLemmas.{any-in_order}
use Rattle.pol_tables.proofs.ListLemmas.{each-weaken}
use Rattle.pol_tokens.specs.HeldTable.{rows_once}
use Rattle.pol_tokens.specs.Tokens.{serial_of, token_serial}
use Rattle.pol_tokens.specs.declared.session.SessionRow.{SessionRow}
use Rattle.pol_tokens.specs.declared.token.TokenRow.{TokenRow}
use Rattle.pol_view_rows.specs.Views.{view_id}
use Rattle.pol_view_rows.specs.contracts.row.ViewRow as view
use Rattle.pol_view_rows.specs.declared.row.ViewRow.{ViewRow}
use Rattle.pol_states.specs.Whole.{listed_state}
use Rattle.pol_states.proofs.ListingLemmas.{counters, from-empty, puts_of}
use Rattle.pol_states.proofs.LiveLemmas.{all-once}
use Rattle.pol_states.proofs.MadeLemmas.{all-facts-put, all-put, distinct-in_order, each-in_order, length-in_order}

-- changes of one kind touch their own list alone
alone : {R X : Type 0} (holding : List R → Rows) (step : List R → X → List R) (change : X → Change) → ((rows : List R) (x : X) → changed (holding rows) (change x) ≡ holding (step rows x)) → (rows : List R) (xs : List X) → fold changed (holding rows) (map change xs) ≡ holding (fold step rows xs)
alone holding step change acts rows [] = refl
alone holding step change acts rows (x ∷ xs) =
    ap (λ (now : Rows). fold changed now (map change xs)) (acts rows x) ∙ alone holding step change acts (step rows x) xs

-- rows are put, and facts in rising order
rows-put : {R : Type 0} (code : Coded R) (key : R → ℕ) (put : R → Change) (holding : List R → Rows) → ((rows : List R) (row : R) → changed (holding rows) (put row) ≡ holding (rows_with key row rows)) → (rows : List R) → KeysRise key rows → Makes (holding []) (map put rows) (holding rows)
rows-put code key put holding acts rows rise =
    record { is = alone holding (λ kept row. rows_with key row kept) put acts [] rows ∙ ap holding (all-put code key rows rise) }

once-put : {R : Type 0} (key : R → ℕ) (put : R → Change) (holding : List R → Rows) → ((rows : List R) (row : R) → changed (holding rows) (put row) ≡ holding (rows_once key row rows)) → (rows : List R) → KeysRise key rows → Makes (holding []) (map put rows) (holding rows)
once-put key put holding acts rows rise =
    record { is = alone holding (λ kept row. rows_once key row kept) put acts [] rows ∙ ap holding (all-once key rows rise) }

facts-put : {T : Type 0} (code : Coded T) (cmp : T → T → Ordering) (put : T → Change) (holding : List T → Rows) → ((facts : List T) (fact : T) → changed (holding facts) (put fact) ≡ holding (facts_with code fact facts)) → (facts : List T) → IsDistinct (same code) facts → Makes (holding []) (map put (in_order cmp facts)) (holding (in_order cmp facts))
facts-put code cmp put holding acts facts differ =
    record { is = alone holding (λ kept fact. facts_with code fact kept) put acts [] (in_order cmp facts) ∙ ap holding (all-facts-put code cmp facts differ) }

-- a state on the way: these rows, at a time, with counters
abbrev stage : ℕ → ℕ → ℕ → List PrincipalRow → List PrincipalRoleRow → List CatalogRow → List CatalogRoleRow → List NamespaceRow → List TableRow → List ViewRow → List MemberRow → List JoinRow → List GrantRow → List SessionRow → List TokenRow → Rows
stage time id serial principals principal_roles catalogs catalog_roles namespaces tables views members joins grants sessions tokens = record {
  access = record { principals = principals; principal_roles = principal_roles; catalog_roles = catalog_roles; members = members; joins = joins; grants = grants };
  content = record { catalogs = catalogs; namespaces = namespaces; tables = tables; views = views };
  tokens = record { sessions = sessions; tokens = tokens };
  time = time;
  next_id = id;
  next_serial = serial;
  charged = 0;
}

abbrev bare : ℕ → ℕ → ℕ → Rows
bare time id serial = stage time id serial [] [] [] [] [] [] [] [] [] [] [] []

id-set : (time id : ℕ) (b : Bool) → (0 == id) ≡ b → Makes (bare time 0 0) (cond b [] (NextId id ∷ [])) (bare time id 0)
id-set time id true is = record { is = ap (λ next. bare time next 0) (eqb-true 0 id is) }
id-set time id false is = record { is = refl }

serial-set : (time id serial : ℕ) (b : Bool) → (0 == serial) ≡ b → Makes (bare time id 0) (cond b [] (NextSerial serial ∷ [])) (bare time id serial)
serial-set time id serial true is = record { is = ap (bare time id) (eqb-true 0 serial is) }
serial-set time id serial false is = record { is = refl }

module _ (s : Rows) (sound : IsSound s) where
  abbrev a : AccessRows
  a = s.access

  abbrev c : ContentRows
  c = s.content

  -- the rows, one kind after the other
  rows-made : Makes (bare s.time s.next_id s.next_serial) (in_turn (puts_of s)) (stage s.time s.next_id s.next_serial a.principals a.principal_roles c.catalogs a.catalog_roles c.namespaces c.tables c.views (members_in_order a.members) (joins_in_order a.joins) (grants_in_order a.grants) s.tokens.sessions s.tokens.tokens)
  rows-made =
      let t = s.time in
      let i = s.next_id in
      let n = s.next_serial in
      let orderly = sound.orderly in
      let members = members_in_order a.members in
      let joins = joins_in_order a.joins in
      let grants = grants_in_order a.grants in
      and_then (rows-put principal.the_row.coded principal_id PutPrincipal (λ rows. stage t i n rows [] [] [] [] [] [] [] [] [] [] []) (λ rows row. refl) a.principals orderly.access.principals.rise)
      (and_then (rows-put principal_role.the_row.coded principal_role_id PutPrincipalRole (λ rows. stage t i n a.principals rows [] [] [] [] [] [] [] [] [] []) (λ rows row. refl) a.principal_roles orderly.access.principal_roles.rise)
      (and_then (rows-put catalog.the_row.coded catalog_id PutCatalog (λ rows. stage t i n a.principals a.principal_roles rows [] [] [] [] [] [] [] [] []) (λ rows row. refl) c.catalogs orderly.content.catalogs.rise)
      (and_then (rows-put catalog_role.the_row.coded catalog_role_id PutCatalogRole (λ rows. stage t i n a.principals a.principal_roles c.catalogs rows [] [] [] [] [] [] [] []) (λ rows row. refl) a.catalog_roles orderly.access.catalog_roles.rise)
      (and_then (rows-put namespace.the_row.coded namespace_id PutNamespace (λ rows. stage t i n a.principals a.principal_roles c.catalogs a.catalog_roles rows [] [] [] [] [] [] []) (λ rows row. refl) c.namespaces orderly.content.namespaces.rise)
      (and_then (rows-put table.the_row.coded table_id PutTable (λ rows. stage t i n a.principals a.principal_roles c.catalogs a.catalog_roles c.namespaces rows [] [] [] [] [] []) (λ rows row. refl) c.tables orderly.content.tables.numbered.rise)
      (and_then (rows-put view.the_row.coded view_id PutView (λ rows. stage t i n a.principals a.principal_roles c.catalogs a.catalog_roles c.namespaces c.tables rows [] [] [] [] []) (λ rows row. refl) c.views orderly.content.views.numbered.rise)
      (and_then (facts-put member.the_row.coded member_cmp PutMember (λ rows. stage t i n a.principals a.principal_roles c.catalogs a.catalog_roles c.namespaces c.tables c.views rows [] [] [] []) (λ rows row. refl) a.members orderly.access.members.differ)
      (and_then (facts-put join.the_row.coded join_cmp PutJoin (λ rows. stage t i n a.principals a.principal_roles c.catalogs a.catalog_roles c.namespaces c.tables c.views members rows [] [] []) (λ rows row. refl) a.joins orderly.access.joins.differ)
      (and_then (facts-put grant.the_row.coded grant_cmp PutGrant (λ rows. stage t i n a.principals a.principal_roles c.catalogs a.catalog_roles c.namespaces c.tables c.views members joins rows [] []) (λ rows row. refl) a.grants orderly.access.grants.differ)
      (and_then (once-put serial_of PutSession (λ rows. stage t i n a.principals a.principal_roles c.catalogs a.catalog_roles c.namespaces c.tables c.views members joins grants rows []) (λ rows row. refl) s.tokens.sessions orderly.tokens.sessions_rise)
      (once-put token_serial PutToken (λ rows. stage t i n a.principals a.principal_roles c.catalogs a.catalog_roles c.namespaces c.tables c.views members joins grants s.tokens.sessions rows) (λ rows row. refl) s.tokens.tokens orderly.tokens.tokens_rise)))))))))))

  made : Makes empty_state (Time s.time ∷ counters s sound ++ in_turn (puts_of s)) (listed_state s)
  unfolding empty_state listed_state
  made =
      let counted = and_then (id-set s.time s.next_id (0 == s.next_id) refl) (serial-set s.time s.next_id s.next_serial (0 == s.next_serial) refl) in
      record { is = (and_then counted rows-made).is }

  -- with them the empty state has its rows
  pub makes-anew : applied (changes_between empty_state s) s.time 0 empty_state ≡ listed_state s
  unfolding listed_state
  makes-anew =
      ap (λ (changes : List Change). applied changes s.time 0 empty_state) (from-empty s sound)
      ∙ ap (λ (after : Rows). record after { time = s.time; charged = after.charged + 0 }) made.is

  -- facts in rising order are as they should be
  facts-listed : {T : Type 0} (code : Coded T) (cmp : T → T → Ordering) (IsOf : T → Type 0) (facts : List T) → AreFacts code IsOf facts → AreFacts code IsOf (in_order cmp facts)
  facts-listed code cmp IsOf facts are = record {
    differ = distinct-in_order code cmp facts are.differ;
    each = each-in_order cmp IsOf facts are.each;
  }

  still-held : {T : Type 0} (code : Coded T) (cmp : T → T → Ordering) (fact : T) (facts : List T) → holds code fact facts ≡ true → holds code fact (in_order cmp facts) ≡ true
  still-held code cmp fact facts there = any-in_order cmp (same code fact) facts ∙ there

  admin-listed : (id : ℕ) → HasAdmin a id → HasAdmin (listed_state s).access id
  unfolding listed_state
  admin-listed id has = record {
    role = has.role;
    role_there = has.role_there;
    service = has.service;
    service_there = has.service_there;
    joined = still-held join.the_row.coded join_cmp _ a.joins has.joined;
    manages_access = still-held grant.the_row.coded grant_cmp _ a.grants has.manages_access;
    manages_content = still-held grant.the_row.coded grant_cmp _ a.grants has.manages_content;
  }

  within-listed : over_limit (listed_state s) ≡ over_limit s
  unfolding listed_state over_limit
  within-listed =
      let passes = each-within s sound in
      refusal-none (limits (listed_state s)) (
        passes.0,
        (
          passes.1.0,
          (
            passes.1.1.0,
            (
              passes.1.1.1.0,
              (
                ap (λ many. above quantity.Members many) (length-in_order member_cmp a.members) ∙ passes.1.1.1.1.0,
                (
                  ap (λ many. above quantity.Joins many) (length-in_order join_cmp a.joins) ∙ passes.1.1.1.1.1.0,
                  (ap (λ many. above quantity.Grants many) (length-in_order grant_cmp a.grants) ∙ passes.1.1.1.1.1.1.0, passes.1.1.1.1.1.1.1),
                ),
              ),
            ),
          ),
        ),
      )
      ∙ sym sound.within

  pub listed-sound : IsSound (listed_state s)
  unfolding listed_state
  listed-sound =
      let access = sound.orderly.access in
      let ties = sound.orderly.ties in
      record {
        orderly = record {
          access = record {
            principals = access.principals;
            principal_roles = access.principal_roles;
            catalog_roles = access.catalog_roles;
            ids_differ = access.ids_differ;
            names_differ = access.names_differ;
            client_ids_differ = access.client_ids_differ;
            role_names_differ = access.role_names_differ;
            catalog_roles_known = access.catalog_roles_known;
            catalog_role_names_differ = access.catalog_role_names_differ;
            members = facts-listed member.the_row.coded member_cmp (IsMemberOf a.principals a.principal_roles) a.members access.members;
            joins = facts-listed join.the_row.coded join_cmp (IsJoinOf a.principal_roles a.catalog_roles) a.joins access.joins;
            grants = facts-listed grant.the_row.coded grant_cmp (IsGrantOf s.next_id a.catalog_roles) a.grants access.grants;
            root_chain = record {
              root = access.root_chain.root;
              admin = access.root_chain.admin;
              root_there = access.root_chain.root_there;
              admin_there = access.root_chain.admin_there;
              member = still-held member.the_row.coded member_cmp _ a.members access.root_chain.member;
            };
          };
          content = sound.orderly.content;
          ties = record {
            role_catalogs = ties.role_catalogs;
            grants_within = each-in_order grant_cmp (IsGrantWithin (listed_state s).access c) a.grants (each-weaken (IsGrantWithin a c) (IsGrantWithin (listed_state s).access c) a.grants (λ row lies. record { role = lies.role; there = lies.there; within = lies.within }) ties.grants_within);
            catalog_admins = each-weaken (λ row. HasAdmin a row.id) (λ row. HasAdmin (listed_state s).access row.id) c.catalogs (λ row has. admin-listed row.id has) ties.catalog_admins;
            ids_apart = record { catalogs = ties.ids_apart.catalogs; namespaces = ties.ids_apart.namespaces; tables = ties.ids_apart.tables; views = ties.ids_apart.views };
          };
          tokens = sound.orderly.tokens;
          tokens_fit = sound.orderly.tokens_fit;
          time_bound = sound.orderly.time_bound;
          charged_bound = lit≤ tt;
        };
        within = within-listed ∙ sound.within;
      }
