-- How many rows of a kind there are once the changes between two states are made.
use Rattle.std.proofs.Common.{◌≡◌, ℕ, ◌+◌, ◌-◌, ◌==◌, Bool, true, false, not, cond, ◌&&◌, List, [], ◌∷◌, ◌++◌, filter, length, refl, sym, ap, ◌∙◌, arith}
use Rattle.std.specs.List.{count_by, AllByRecursion}
use Rattle.std.proofs.lemmas.List.{append-nil}
use Rattle.std.proofs.lemmas.List.Elements.{filter-append}
use Rattle.std.proofs.lemmas.List.Sums.{length-filter, sum_by-cons}
use denote.Enum.Bare.{sameb}
use Rattle.pol_access.specs.Access.{catalog_role_id, principal_id, principal_role_id}
use Rattle.pol_access.specs.Order.{grant_cmp, join_cmp, member_cmp}
use Rattle.pol_access.specs.Sound.{IsSoundAccess}
use Rattle.pol_access.specs.contracts.rows.CatalogRoleRow as catalog_role
use Rattle.pol_access.specs.contracts.rows.GrantRow as grant
use Rattle.pol_access.specs.contracts.rows.JoinRow as join
use Rattle.pol_access.specs.contracts.rows.MemberRow as member
use Rattle.pol_access.specs.contracts.rows.PrincipalRoleRow as principal_role
use Rattle.pol_access.specs.contracts.rows.PrincipalRow as principal
use Rattle.pol_tables.proofs.CountLemmas.{fact_changes-each, length-changed, length-changed_facts, table_changes-each}
use Rattle.pol_tables.proofs.ListLemmas.{and_false, each-all, each-append, each-map, filter-none}
use Rattle.pol_tables.proofs.RisingLemmas.{IdsDiffer-rising}
use Rattle.pol_tables.specs.Changes.{new_rows}
use Rattle.pol_tables.specs.Table.{knows}
use Rattle.pol_content.specs.Change.{is_kind, puts}
use Rattle.pol_content.specs.Content.{catalog_id, namespace_id}
use Rattle.pol_content.specs.Sound.{IsSoundContent}
use Rattle.pol_content.specs.contracts.change.RowKind.{the_type}
use Rattle.pol_content.specs.contracts.rows.CatalogRow as catalog
use Rattle.pol_content.specs.contracts.rows.NamespaceRow as namespace
use Rattle.pol_content.specs.declared.change.Change.{Change}
use Rattle.pol_content.specs.declared.change.Change.TheVariants.{Time, NextId, NextSerial, PutPrincipal, DropPrincipal, PutPrincipalRole, DropPrincipalRole, PutCatalog, DropCatalog, PutCatalogRole, DropCatalogRole, PutNamespace, DropNamespace, PutTable, DropTable, PutView, DropView, PutMember, DropMember, PutJoin, DropJoin, PutGrant, DropGrant, PutSession, PutToken}
use Rattle.pol_content.specs.declared.change.RowKind.{RowKind}
use Rattle.pol_content.specs.declared.change.RowKind.TheVariants as kind
use Rattle.pol_access.specs.declared.rows.CatalogRoleRow.{CatalogRoleRow}
use Rattle.pol_access.specs.declared.rows.GrantRow.{GrantRow}
use Rattle.pol_access.specs.declared.rows.JoinRow.{JoinRow}
use Rattle.pol_access.specs.declared.rows.MemberRow.{MemberRow}
use Rattle.pol_access.specs.declared.rows.PrincipalRoleRow.{PrincipalRoleRow}
use Rattle.pol_access.specs.declared.rows.PrincipalRow.{PrincipalRow}
use Rattle.pol_content.specs.declared.rows.CatalogRow.{CatalogRow}
use Rattle.pol_content.specs.declared.rows.NamespaceRow.{NamespaceRow}
use Rattle.pol_table_rows.specs.Tables.{table_id}
use Rattle.pol_table_rows.specs.contracts.row.TableRow as table
use Rattle.pol_table_rows.specs.declared.row.TableRow.{TableRow}
use Rattle.pol_view_rows.specs.Views.{view_id}
use Rattle.pol_view_rows.specs.contracts.row.ViewRow as view
use Rattle.pol_view_rows.specs.declared.row.ViewRow.{ViewRow}
use Rattle.pol_tokens.specs.declared.session.SessionRow.{SessionRow}
use Rattle.pol_tokens.specs.declared.token.TokenRow.{TokenRow}
use Rattle.pol_state.specs.Changes.{changes_between, headed, id_change, in_turn, row_changes, serial_change, RowChanges}
use Rattle.pol_state.specs.Rows.{Rows}
use Rattle.pol_tokens.specs.contracts.session.SessionRow as session
use Rattle.pol_tokens.specs.contracts.token.TokenRow as token
use Rattle.pol_bounds.specs.Counted.{count_after, takes, where_known}

-- the rows' changes of one kind
abbrev pub of_kind : RowKind → RowChanges → List Change
of_kind kind.Principal made = made.principals
of_kind kind.PrincipalRole made = made.principal_roles
of_kind kind.Catalog made = made.catalogs
of_kind kind.CatalogRole made = made.catalog_roles
of_kind kind.Namespace made = made.namespaces
of_kind kind.Table made = made.tables
of_kind kind.View made = made.views
of_kind kind.Member made = made.members
of_kind kind.Join made = made.joins
of_kind kind.Grant made = made.grants
of_kind kind.Session made = made.sessions
of_kind kind.Token made = made.tokens

-- the kinds in the order of their changes
abbrev kinds : List RowKind
kinds = kind.Principal ∷ kind.PrincipalRole ∷ kind.Catalog ∷ kind.CatalogRole ∷ kind.Namespace ∷ kind.Table ∷ kind.View ∷ kind.Member ∷ kind.Join ∷ kind.Grant ∷ kind.Session ∷ kind.Token ∷ []

abbrev joined : List RowKind → RowChanges → List Change
joined [] made = []
joined (first ∷ rest) made = of_kind first made ++ joined rest made

in_turn-joined : (made : RowChanges) → joined kinds made ≡ in_turn made
in_turn-joined made =
    ap (λ last. in_turn (record made { tokens = last })) (append-nil made.tokens)

-- a test fails at each change of a kind
abbrev pub Fails : (Change → Bool) → RowKind → Type 0
Fails test kind.Principal = ((row : PrincipalRow) → test (PutPrincipal row) ≡ false) × ((id : ℕ) → test (DropPrincipal id) ≡ false)
Fails test kind.PrincipalRole = ((row : PrincipalRoleRow) → test (PutPrincipalRole row) ≡ false) × ((id : ℕ) → test (DropPrincipalRole id) ≡ false)
Fails test kind.Catalog = ((row : CatalogRow) → test (PutCatalog row) ≡ false) × ((id : ℕ) → test (DropCatalog id) ≡ false)
Fails test kind.CatalogRole = ((row : CatalogRoleRow) → test (PutCatalogRole row) ≡ false) × ((id : ℕ) → test (DropCatalogRole id) ≡ false)
Fails test kind.Namespace = ((row : NamespaceRow) → test (PutNamespace row) ≡ false) × ((id : ℕ) → test (DropNamespace id) ≡ false)
Fails test kind.Table = ((row : TableRow) → test (PutTable row) ≡ false) × ((id : ℕ) → test (DropTable id) ≡ false)
Fails test kind.View = ((row : ViewRow) → test (PutView row) ≡ false) × ((id : ℕ) → test (DropView id) ≡ false)
Fails test kind.Member = ((row : MemberRow) → test (PutMember row) ≡ false) × ((row : MemberRow) → test (DropMember row) ≡ false)
Fails test kind.Join = ((row : JoinRow) → test (PutJoin row) ≡ false) × ((row : JoinRow) → test (DropJoin row) ≡ false)
Fails test kind.Grant = ((row : GrantRow) → test (PutGrant row) ≡ false) × ((row : GrantRow) → test (DropGrant row) ≡ false)
Fails test kind.Session = (row : SessionRow) → test (PutSession row) ≡ false
Fails test kind.Token = (row : TokenRow) → test (PutToken row) ≡ false

module _ (s t : Rows) (test : Change → Bool) where
  quiet : (of : RowKind) → Fails test of → filter test (of_kind of (row_changes s t)) ≡ []
  quiet kind.Principal fails = filter-none test _ (table_changes-each principal_id principal.the_row.coded PutPrincipal DropPrincipal (λ change. test change ≡ false) s.access.principals t.access.principals fails.0 fails.1)
  quiet kind.PrincipalRole fails = filter-none test _ (table_changes-each principal_role_id principal_role.the_row.coded PutPrincipalRole DropPrincipalRole (λ change. test change ≡ false) s.access.principal_roles t.access.principal_roles fails.0 fails.1)
  quiet kind.Catalog fails = filter-none test _ (table_changes-each catalog_id catalog.the_row.coded PutCatalog DropCatalog (λ change. test change ≡ false) s.content.catalogs t.content.catalogs fails.0 fails.1)
  quiet kind.CatalogRole fails = filter-none test _ (table_changes-each catalog_role_id catalog_role.the_row.coded PutCatalogRole DropCatalogRole (λ change. test change ≡ false) s.access.catalog_roles t.access.catalog_roles fails.0 fails.1)
  quiet kind.Namespace fails = filter-none test _ (table_changes-each namespace_id namespace.the_row.coded PutNamespace DropNamespace (λ change. test change ≡ false) s.content.namespaces t.content.namespaces fails.0 fails.1)
  quiet kind.Table fails = filter-none test _ (table_changes-each table_id table.the_row.coded PutTable DropTable (λ change. test change ≡ false) s.content.tables t.content.tables fails.0 fails.1)
  quiet kind.View fails = filter-none test _ (table_changes-each view_id view.the_row.coded PutView DropView (λ change. test change ≡ false) s.content.views t.content.views fails.0 fails.1)
  quiet kind.Member fails = filter-none test _ (fact_changes-each member_cmp member.the_row.coded PutMember DropMember (λ change. test change ≡ false) s.access.members t.access.members fails.0 fails.1)
  quiet kind.Join fails = filter-none test _ (fact_changes-each join_cmp join.the_row.coded PutJoin DropJoin (λ change. test change ≡ false) s.access.joins t.access.joins fails.0 fails.1)
  quiet kind.Grant fails = filter-none test _ (fact_changes-each grant_cmp grant.the_row.coded PutGrant DropGrant (λ change. test change ≡ false) s.access.grants t.access.grants fails.0 fails.1)
  quiet kind.Session fails = filter-none test _ (each-map (λ change. test change ≡ false) PutSession (new_rows session.the_row.coded s.tokens.sessions t.tokens.sessions) (each-all (λ row. test (PutSession row) ≡ false) (new_rows session.the_row.coded s.tokens.sessions t.tokens.sessions) fails))
  quiet kind.Token fails = filter-none test _ (each-map (λ change. test change ≡ false) PutToken (new_rows token.the_row.coded s.tokens.tokens t.tokens.tokens) (each-all (λ row. test (PutToken row) ≡ false) (new_rows token.the_row.coded s.tokens.tokens t.tokens.tokens) fails))

  -- a test that fails at each change of rows
  quiet-joined : ((of : RowKind) → Fails test of) → (ofs : List RowKind) → filter test (joined ofs (row_changes s t)) ≡ []
  quiet-joined fails [] = refl
  quiet-joined fails (first ∷ rest) =
      filter-append test (of_kind first (row_changes s t)) (joined rest (row_changes s t)) ∙ (λ i. quiet first (fails first) i ++ quiet-joined fails rest i)

  pub filter-quiet : ((of : RowKind) → Fails test of) → filter test (in_turn (row_changes s t)) ≡ []
  filter-quiet fails = ap (filter test) (sym (in_turn-joined (row_changes s t))) ∙ quiet-joined fails kinds

  abbrev passed : RowKind → RowKind → List Change
  passed wanted of = cond (sameb the_type of wanted) (filter test (of_kind of (row_changes s t))) []

  abbrev passed_of : RowKind → List RowKind → List Change
  passed_of wanted [] = []
  passed_of wanted (first ∷ rest) = passed wanted first ++ passed_of wanted rest

  passed-wanted : (wanted : RowKind) → passed_of wanted kinds ≡ filter test (of_kind wanted (row_changes s t))
  passed-wanted kind.Principal = append-nil (filter test (of_kind kind.Principal (row_changes s t)))
  passed-wanted kind.PrincipalRole = append-nil (filter test (of_kind kind.PrincipalRole (row_changes s t)))
  passed-wanted kind.Catalog = append-nil (filter test (of_kind kind.Catalog (row_changes s t)))
  passed-wanted kind.CatalogRole = append-nil (filter test (of_kind kind.CatalogRole (row_changes s t)))
  passed-wanted kind.Namespace = append-nil (filter test (of_kind kind.Namespace (row_changes s t)))
  passed-wanted kind.Table = append-nil (filter test (of_kind kind.Table (row_changes s t)))
  passed-wanted kind.View = append-nil (filter test (of_kind kind.View (row_changes s t)))
  passed-wanted kind.Member = append-nil (filter test (of_kind kind.Member (row_changes s t)))
  passed-wanted kind.Join = append-nil (filter test (of_kind kind.Join (row_changes s t)))
  passed-wanted kind.Grant = append-nil (filter test (of_kind kind.Grant (row_changes s t)))
  passed-wanted kind.Session = append-nil (filter test (of_kind kind.Session (row_changes s t)))
  passed-wanted kind.Token = append-nil (filter test (of_kind kind.Token (row_changes s t)))

  module _ (wanted : RowKind) (fails : (of : RowKind) → sameb the_type of wanted ≡ false → Fails test of) where
    passed-one : (of : RowKind) → filter test (of_kind of (row_changes s t)) ≡ passed wanted of
    passed-one of = by (sameb the_type of wanted) refl
      where
        by : (b : Bool) → sameb the_type of wanted ≡ b → filter test (of_kind of (row_changes s t)) ≡ cond b (filter test (of_kind of (row_changes s t))) []
        by true is = refl
        by false apart = quiet of (fails of apart)

    passed-joined : (ofs : List RowKind) → filter test (joined ofs (row_changes s t)) ≡ passed_of wanted ofs
    passed-joined [] = refl
    passed-joined (first ∷ rest) =
        filter-append test (of_kind first (row_changes s t)) (joined rest (row_changes s t)) ∙ (λ i. passed-one first i ++ passed-joined rest i)

    -- a test that fails at the counters and at each change of another kind
    pub filter-alone : ((time : ℕ) → test (Time time) ≡ false) → ((id : ℕ) → test (NextId id) ≡ false) → ((serial : ℕ) → test (NextSerial serial) ≡ false) → filter test (changes_between s t) ≡ filter test (of_kind wanted (row_changes s t))
    unfolding changes_between
    filter-alone time id serial =
        past (in_turn (row_changes s t)) ∙ ap (filter test) (sym (in_turn-joined (row_changes s t))) ∙ passed-joined kinds ∙ passed-wanted wanted
      where
        counter : (b : Bool) (change : Change) → test change ≡ false → AllByRecursion (λ change. test change ≡ false) (cond b [] (change ∷ []))
        counter true change none = tt
        counter false change none = (none, tt)

        counters : List Change
        counters = id_change s t ++ serial_change s t

        none : AllByRecursion (λ change. test change ≡ false) counters
        none = each-append (λ change. test change ≡ false) (id_change s t) (serial_change s t) (counter (s.next_id == t.next_id) (NextId t.next_id) (id t.next_id)) (counter (s.next_serial == t.next_serial) (NextSerial t.next_serial) (serial t.next_serial))

        past : (rows : List Change) → filter test (headed t.time counters rows) ≡ filter test rows
        past [] = refl
        past (change ∷ changes) =
            filter-append test (Time t.time ∷ counters) (change ∷ changes) ∙ ap (λ front. front ++ filter test (change ∷ changes)) (filter-none test (Time t.time ∷ counters) (time t.time, none))

    pub count-alone : ((time : ℕ) → test (Time time) ≡ false) → ((id : ℕ) → test (NextId id) ≡ false) → ((serial : ℕ) → test (NextSerial serial) ≡ false) → count_by test (changes_between s t) ≡ count_by test (of_kind wanted (row_changes s t))
    count-alone time id serial =
        sym (length-filter test (changes_between s t)) ∙ ap length (filter-alone time id serial) ∙ length-filter test (of_kind wanted (row_changes s t))

-- what is put, and what is taken away
known-apart : (wanted of : RowKind) → sameb the_type of wanted ≡ false → (b : Bool) → is_kind wanted (where_known of b) ≡ false
known-apart wanted of apart true = apart
known-apart wanted of apart false = refl

known-own : (wanted : RowKind) → sameb the_type wanted wanted ≡ true → (b : Bool) → is_kind wanted (where_known wanted b) ≡ b
known-own wanted own true = own
known-own wanted own false = refl

puts-fails : (wanted of : RowKind) → sameb the_type of wanted ≡ false → Fails (puts wanted) of
puts-fails wanted kind.Principal apart = (λ row. apart, λ gone. refl)
puts-fails wanted kind.PrincipalRole apart = (λ row. apart, λ gone. refl)
puts-fails wanted kind.Catalog apart = (λ row. apart, λ gone. refl)
puts-fails wanted kind.CatalogRole apart = (λ row. apart, λ gone. refl)
puts-fails wanted kind.Namespace apart = (λ row. apart, λ gone. refl)
puts-fails wanted kind.Table apart = (λ row. apart, λ gone. refl)
puts-fails wanted kind.View apart = (λ row. apart, λ gone. refl)
puts-fails wanted kind.Member apart = (λ row. apart, λ gone. refl)
puts-fails wanted kind.Join apart = (λ row. apart, λ gone. refl)
puts-fails wanted kind.Grant apart = (λ row. apart, λ gone. refl)
puts-fails wanted kind.Session apart = λ row. apart
puts-fails wanted kind.Token apart = λ row. apart

takes-fails : (s : Rows) (wanted of : RowKind) → sameb the_type of wanted ≡ false → Fails (takes wanted s) of
takes-fails s wanted kind.Principal apart = (λ row. known-apart wanted kind.Principal apart (knows principal_id row.id s.access.principals), λ gone. apart)
takes-fails s wanted kind.PrincipalRole apart = (λ row. known-apart wanted kind.PrincipalRole apart (knows principal_role_id row.id s.access.principal_roles), λ gone. apart)
takes-fails s wanted kind.Catalog apart = (λ row. known-apart wanted kind.Catalog apart (knows catalog_id row.id s.content.catalogs), λ gone. apart)
takes-fails s wanted kind.CatalogRole apart = (λ row. known-apart wanted kind.CatalogRole apart (knows catalog_role_id row.id s.access.catalog_roles), λ gone. apart)
takes-fails s wanted kind.Namespace apart = (λ row. known-apart wanted kind.Namespace apart (knows namespace_id row.id s.content.namespaces), λ gone. apart)
takes-fails s wanted kind.Table apart = (λ row. known-apart wanted kind.Table apart (knows table_id row.id s.content.tables), λ gone. apart)
takes-fails s wanted kind.View apart = (λ row. known-apart wanted kind.View apart (knows view_id row.id s.content.views), λ gone. apart)
takes-fails s wanted kind.Member apart = (λ row. refl, λ gone. apart)
takes-fails s wanted kind.Join apart = (λ row. refl, λ gone. apart)
takes-fails s wanted kind.Grant apart = (λ row. refl, λ gone. apart)
takes-fails s wanted kind.Session apart = λ row. refl
takes-fails s wanted kind.Token apart = λ row. refl

-- where some items are put and some taken, and some are both
module _ {X : Type 0} (put taken : X → Bool) where
  abbrev one : (X → Bool) → X → ℕ
  one test x = cond (test x) 1 0

  abbrev added : X → Bool
  added x = put x && not (taken x)

  abbrev dropped : X → Bool
  dropped x = taken x && not (put x)

  both : (a b : Bool) → cond a 1 0 + cond (b && not a) 1 0 ≡ cond (a && not b) 1 0 + cond b 1 0
  both true true = refl
  both true false = refl
  both false true = refl
  both false false = refl

  count-both : (xs : List X) → count_by put xs + count_by dropped xs ≡ count_by added xs + count_by taken xs
  count-both [] = refl
  count-both (x ∷ xs) =
      omega (arith, sum_by-cons (one put) x xs, sum_by-cons (one dropped) x xs, sum_by-cons (one added) x xs, sum_by-cons (one taken) x xs, both (put x) (taken x), count-both xs)

count-settled : (before after more less : ℕ) → after + less ≡ before + more → before + more - less ≡ after
count-settled before after more less is = omega (arith, is)

module _ (s t : Rows) (wanted : RowKind) where
  abbrev changes : List Change
  changes = changes_between s t

  abbrev own : List Change
  own = of_kind wanted (row_changes s t)

  puts-own : count_by (puts wanted) changes ≡ count_by (puts wanted) own
  puts-own = count-alone s t (puts wanted) wanted (puts-fails wanted) (λ time. refl) (λ id. refl) (λ serial. refl)

  takes-own : count_by (takes wanted s) changes ≡ count_by (takes wanted s) own
  takes-own = count-alone s t (takes wanted s) wanted (takes-fails s wanted) (λ time. refl) (λ id. refl) (λ serial. refl)

  -- from the rows' own changes
  count-by_own : (before after : ℕ) → after + count_by (dropped (puts wanted) (takes wanted s)) own ≡ before + count_by (added (puts wanted) (takes wanted s)) own → count_after wanted s changes before ≡ after
  count-by_own before after is =
      count-settled before after (count_by (puts wanted) changes) (count_by (takes wanted s) changes) (omega (arith, puts-own, takes-own, count-both (puts wanted) (takes wanted s) own, is))

module _ (s t : Rows) (old_access : IsSoundAccess s.next_id s.access) (new_access : IsSoundAccess t.next_id t.access) (old_content : IsSoundContent s.next_id s.content) (new_content : IsSoundContent t.next_id t.content) where
  pub count-principals : count_after kind.Principal s (changes_between s t) (length s.access.principals) ≡ length t.access.principals
  count-principals =
      count-by_own s t kind.Principal (length s.access.principals) (length t.access.principals)
      (length-changed principal_id principal.the_row.coded PutPrincipal DropPrincipal (added (puts kind.Principal) (takes kind.Principal s)) (dropped (puts kind.Principal) (takes kind.Principal s)) s.access.principals t.access.principals
      (IdsDiffer-rising principal_id s.access.principals old_access.principals.rise) (IdsDiffer-rising principal_id t.access.principals new_access.principals.rise)
      (λ row. ap not (known-own kind.Principal refl (knows principal_id row.id s.access.principals))) (λ id. refl) (λ row. and_false (is_kind kind.Principal (where_known kind.Principal (knows principal_id row.id s.access.principals)))) (λ id. refl))

  pub count-principal_roles : count_after kind.PrincipalRole s (changes_between s t) (length s.access.principal_roles) ≡ length t.access.principal_roles
  count-principal_roles =
      count-by_own s t kind.PrincipalRole (length s.access.principal_roles) (length t.access.principal_roles)
      (length-changed principal_role_id principal_role.the_row.coded PutPrincipalRole DropPrincipalRole (added (puts kind.PrincipalRole) (takes kind.PrincipalRole s)) (dropped (puts kind.PrincipalRole) (takes kind.PrincipalRole s)) s.access.principal_roles t.access.principal_roles
      (IdsDiffer-rising principal_role_id s.access.principal_roles old_access.principal_roles.rise) (IdsDiffer-rising principal_role_id t.access.principal_roles new_access.principal_roles.rise)
      (λ row. ap not (known-own kind.PrincipalRole refl (knows principal_role_id row.id s.access.principal_roles))) (λ id. refl) (λ row. and_false (is_kind kind.PrincipalRole (where_known kind.PrincipalRole (knows principal_role_id row.id s.access.principal_roles)))) (λ id. refl))

  pub count-catalogs : count_after kind.Catalog s (changes_between s t) (length s.content.catalogs) ≡ length t.content.catalogs
  count-catalogs =
      count-by_own s t kind.Catalog (length s.content.catalogs) (length t.content.catalogs)
      (length-changed catalog_id catalog.the_row.coded PutCatalog DropCatalog (added (puts kind.Catalog) (takes kind.Catalog s)) (dropped (puts kind.Catalog) (takes kind.Catalog s)) s.content.catalogs t.content.catalogs
      (IdsDiffer-rising catalog_id s.content.catalogs old_content.catalogs.rise) (IdsDiffer-rising catalog_id t.content.catalogs new_content.catalogs.rise)
      (λ row. ap not (known-own kind.Catalog refl (knows catalog_id row.id s.content.catalogs))) (λ id. refl) (λ row. and_false (is_kind kind.Catalog (where_known kind.Catalog (knows catalog_id row.id s.content.catalogs)))) (λ id. refl))

  pub count-catalog_roles : count_after kind.CatalogRole s (changes_between s t) (length s.access.catalog_roles) ≡ length t.access.catalog_roles
  count-catalog_roles =
      count-by_own s t kind.CatalogRole (length s.access.catalog_roles) (length t.access.catalog_roles)
      (length-changed catalog_role_id catalog_role.the_row.coded PutCatalogRole DropCatalogRole (added (puts kind.CatalogRole) (takes kind.CatalogRole s)) (dropped (puts kind.CatalogRole) (takes kind.CatalogRole s)) s.access.catalog_roles t.access.catalog_roles
      (IdsDiffer-rising catalog_role_id s.access.catalog_roles old_access.catalog_roles.rise) (IdsDiffer-rising catalog_role_id t.access.catalog_roles new_access.catalog_roles.rise)
      (λ row. ap not (known-own kind.CatalogRole refl (knows catalog_role_id row.id s.access.catalog_roles))) (λ id. refl) (λ row. and_false (is_kind kind.CatalogRole (where_known kind.CatalogRole (knows catalog_role_id row.id s.access.catalog_roles)))) (λ id. refl))

  pub count-namespaces : count_after kind.Namespace s (changes_between s t) (length s.content.namespaces) ≡ length t.content.namespaces
  count-namespaces =
      count-by_own s t kind.Namespace (length s.content.namespaces) (length t.content.namespaces)
      (length-changed namespace_id namespace.the_row.coded PutNamespace DropNamespace (added (puts kind.Namespace) (takes kind.Namespace s)) (dropped (puts kind.Namespace) (takes kind.Namespace s)) s.content.namespaces t.content.namespaces
      (IdsDiffer-rising namespace_id s.content.namespaces old_content.namespaces.rise) (IdsDiffer-rising namespace_id t.content.namespaces new_content.namespaces.rise)
      (λ row. ap not (known-own kind.Namespace refl (knows namespace_id row.id s.content.namespaces))) (λ id. refl) (λ row. and_false (is_kind kind.Namespace (where_known kind.Namespace (knows namespace_id row.id s.content.namespaces)))) (λ id. refl))

  pub count-tables : count_after kind.Table s (changes_between s t) (length s.content.tables) ≡ length t.content.tables
  count-tables =
      count-by_own s t kind.Table (length s.content.tables) (length t.content.tables)
      (length-changed table_id table.the_row.coded PutTable DropTable (added (puts kind.Table) (takes kind.Table s)) (dropped (puts kind.Table) (takes kind.Table s)) s.content.tables t.content.tables
      (IdsDiffer-rising table_id s.content.tables old_content.tables.numbered.rise) (IdsDiffer-rising table_id t.content.tables new_content.tables.numbered.rise)
      (λ row. ap not (known-own kind.Table refl (knows table_id row.id s.content.tables))) (λ id. refl) (λ row. and_false (is_kind kind.Table (where_known kind.Table (knows table_id row.id s.content.tables)))) (λ id. refl))

  pub count-views : count_after kind.View s (changes_between s t) (length s.content.views) ≡ length t.content.views
  count-views =
      count-by_own s t kind.View (length s.content.views) (length t.content.views)
      (length-changed view_id view.the_row.coded PutView DropView (added (puts kind.View) (takes kind.View s)) (dropped (puts kind.View) (takes kind.View s)) s.content.views t.content.views
      (IdsDiffer-rising view_id s.content.views old_content.views.numbered.rise) (IdsDiffer-rising view_id t.content.views new_content.views.numbered.rise)
      (λ row. ap not (known-own kind.View refl (knows view_id row.id s.content.views))) (λ id. refl) (λ row. and_false (is_kind kind.View (where_known kind.View (knows view_id row.id s.content.views)))) (λ id. refl))

  pub count-members : count_after kind.Member s (changes_between s t) (length s.access.members) ≡ length t.access.members
  count-members =
      count-by_own s t kind.Member (length s.access.members) (length t.access.members)
      (length-changed_facts member_cmp member.the_row.coded PutMember DropMember (added (puts kind.Member) (takes kind.Member s)) (dropped (puts kind.Member) (takes kind.Member s)) s.access.members t.access.members
      old_access.members.differ new_access.members.differ (λ row. refl) (λ row. refl) (λ row. refl) (λ row. refl))

  pub count-joins : count_after kind.Join s (changes_between s t) (length s.access.joins) ≡ length t.access.joins
  count-joins =
      count-by_own s t kind.Join (length s.access.joins) (length t.access.joins)
      (length-changed_facts join_cmp join.the_row.coded PutJoin DropJoin (added (puts kind.Join) (takes kind.Join s)) (dropped (puts kind.Join) (takes kind.Join s)) s.access.joins t.access.joins
      old_access.joins.differ new_access.joins.differ (λ row. refl) (λ row. refl) (λ row. refl) (λ row. refl))

  pub count-grants : count_after kind.Grant s (changes_between s t) (length s.access.grants) ≡ length t.access.grants
  count-grants =
      count-by_own s t kind.Grant (length s.access.grants) (length t.access.grants)
      (length-changed_facts grant_cmp grant.the_row.coded PutGrant DropGrant (added (puts kind.Grant) (takes kind.Grant s)) (dropped (puts kind.Grant) (takes kind.Grant s)) s.access.grants t.access.grants
      old_access.grants.differ new_access.grants.differ (λ row. refl) (λ row. refl) (λ row. refl) (λ row. refl))
