-- Setting up makes no tables, no views, no sessions and no storage tokens.
use Rattle.std.proofs.Common.{◌≡◌, ℕ, List, [], ◌∷◌, ◌++◌, map, filter, Option, Some, None, refl, sym, ap, ◌∙◌}
use Rattle.std.specs.List.{AllByRecursion, flat_map}
use Rattle.pol_access.specs.Names.{principal_role_named}
use Rattle.std.specs.Prelude.{codes, false}
use Rattle.pol_commands.specs.declared.command.Action.{Action}
use Rattle.pol_commands.specs.declared.command.Action.TheVariants.{AddJoin, AddMember, CreateCatalog, CreateCatalogRole, CreatePrincipal, CreatePrincipalRole}
use Rattle.pol_commands.specs.declared.command.Command.{Command}
use Rattle.pol_commands.specs.declared.reply.Refusal.{Refusal}
use Rattle.pol_content.specs.Content.{catalog_named}
use Rattle.pol_content_actions.specs.Catalogs.{new_catalog, with_catalog}
use Rattle.pol_declaration.specs.declared.declaration.Declaration.{Declaration}
use Rattle.pol_grant_actions.specs.CatalogRoles.{with_role_in}
use Rattle.pol_grant_actions.specs.Grants.{with_grant}
use Rattle.pol_grant_actions.specs.Joins.{with_join}
use Rattle.pol_machine.specs.Machine.{acting, next_by, next_state, rules_within}
use Rattle.pol_principal_actions.specs.Members.{with_member}
use Rattle.pol_rules.specs.AccessRules.{grant_of, join_of, member_of}
use Rattle.pol_rules.specs.Acting.{done, rows_by, stamped}
use Rattle.pol_rules.specs.Live.{is_live, is_unexpired, live_part}
use Rattle.pol_rules.specs.Rules.{run_full}
use Rattle.pol_setup.specs.Setup as setup
use Rattle.pol_setup.specs.Setup.{by_setup}
use Rattle.pol_state.specs.Bounds.{first_refusal}
use Rattle.pol_state.specs.Rows.{Rows, fresh_state}
use Rattle.pol_tables.proofs.ListLemmas.{each-all, each-append, each-map}
use Rattle.pol_init.specs.Prepared.{state_declared}
use Rattle.pol_init.specs.SetUp.{state_after}

-- a state without tables, views, sessions and storage tokens
pub record IsBare (s : Rows) : Type 0 where
  pub tables : s.content.tables ≡ []
  pub views : s.content.views ≡ []
  pub sessions : s.tokens.sessions ≡ []
  pub tokens : s.tokens.tokens ≡ []

fresh-bare : (secret : List ℕ) → IsBare (fresh_state secret)
unfolding fresh_state
fresh-bare secret = record { tables = refl; views = refl; sessions = refl; tokens = refl }

-- nothing in such a state isn't live
pub live-bare : (s : Rows) → IsBare s → live_part s ≡ s
live-bare s bare =
    let sessions = ap (filter (is_live s)) bare.sessions ∙ sym bare.sessions in
    let tokens = ap (filter (is_unexpired s)) bare.tokens ∙ sym bare.tokens in
    λ i. record s { tokens = record { sessions = sessions i; tokens = tokens i } }

bare-rows : (why : Option Refusal) (s after : Rows) → IsBare s → IsBare after → IsBare (rows_by why s after)
bare-rows None s after bare also = also
bare-rows (Some why) s after bare also = bare

bare-by : (why : Option Refusal) (s next : Rows) → IsBare s → IsBare next → IsBare (next_by why s next)
bare-by None s next bare also = also
bare-by (Some why) s next bare also = bare

bare-done : {A : Type 0} (s : Rows) (found : Option A) (after : A → Rows) → IsBare s → ((one : A) → IsBare (after one)) → IsBare (done s found after)
bare-done s None after bare also = bare
bare-done s (Some one) after bare also = also one

-- the state after a command is so where that after its action is
bare-next : (s : Rows) (command : Command) → IsBare s → IsBare (acting s command command.action).after → IsBare (next_state s command)
unfolding next_state
bare-next s command bare after =
    let action = acting s command command.action in
    let rows = bare-rows (first_refusal (rules_within action)) s action.after bare after in
    bare-by (run_full s command.charge) s (stamped s command (rows_by (first_refusal (rules_within action)) s action.after)) bare
    (record { tables = rows.tables; views = rows.views; sessions = rows.sessions; tokens = rows.tokens })

-- an action that keeps a state so
abbrev Keeps : Action → Type 0
Keeps action = (s : Rows) (moment : ℕ) → IsBare s → IsBare (acting s (by_setup moment action) action).after

-- as one does that alters rows of access alone
same : (s t : Rows) → IsBare s → t.content.tables ≡ s.content.tables → t.content.views ≡ s.content.views → t.tokens ≡ s.tokens → IsBare t
same s t bare tables views tokens = record {
  tables = tables ∙ bare.tables;
  views = views ∙ bare.views;
  sessions = ap (λ rows. rows.sessions) tokens ∙ bare.sessions;
  tokens = ap (λ rows. rows.tokens) tokens ∙ bare.tokens;
}

principal_role-keeps : (name : List ℕ) → Keeps (CreatePrincipalRole name)
principal_role-keeps name s moment bare = same s _ bare refl refl refl

principal-keeps : (name client secret : List ℕ) → Keeps (CreatePrincipal name (Some client) (Some secret))
principal-keeps name client secret s moment bare = same s _ bare refl refl refl

member-keeps : (principal role : List ℕ) → Keeps (AddMember principal role)
member-keeps principal role s moment bare =
    bare-done s (member_of s principal role) (with_member s) bare (λ row. same s (with_member s row) bare refl refl refl)

catalog-keeps : (name base : List ℕ) (allowed : List (List ℕ)) → Keeps (CreateCatalog name base allowed [] false)
catalog-keeps name base allowed s moment bare =
    let row = new_catalog s name base allowed [] in
    bare-done s (principal_role_named (codes "service_admin") s.access) (with_catalog s row) bare (λ service. same s (with_catalog s row service) bare refl refl refl)

catalog_role-keeps : (catalog name : List ℕ) → Keeps (CreateCatalogRole catalog name)
catalog_role-keeps catalog name s moment bare =
    bare-done s (catalog_named catalog s.content) (with_role_in s name) bare (λ row. same s (with_role_in s name row) bare refl refl refl)

join-keeps : (catalog role catalog_role : List ℕ) → Keeps (AddJoin catalog role catalog_role)
join-keeps catalog role catalog_role s moment bare =
    bare-done s (join_of s catalog role catalog_role) (with_join s) bare (λ row. same s (with_join s row) bare refl refl refl)

grant-keeps : (one : _) → Keeps (setup.add_grant one)
grant-keeps one s moment bare =
    bare-done s (grant_of s one.catalog one.catalog_role one.grant) (with_grant s) bare (λ row. same s (with_grant s row) bare refl refl refl)

each-flat_map : {X Y : Type 0} (P : Y → Type 0) (f : X → List Y) (xs : List X) → ((x : X) → AllByRecursion P (f x)) → AllByRecursion P (flat_map f xs)
each-flat_map P f [] every = tt
each-flat_map P f (x ∷ xs) every = each-append P (f x) (flat_map f xs) (every x) (each-flat_map P f xs every)

each-of : {X : Type 0} (f : X → Action) (xs : List X) → ((x : X) → Keeps (f x)) → AllByRecursion Keeps (map f xs)
each-of f xs every = each-map Keeps f xs (each-all (λ x. Keeps (f x)) xs every)

-- all actions of a declaration do
all-keep : (d : Declaration) (words : List ℕ) → AllByRecursion Keeps (setup.actions d words)
all-keep d words =
    let roles = map setup.create_principal_role d.principal_roles in
    let principals = flat_map setup.principal_actions (setup.principals d words) in
    let catalogs = map setup.create_catalog d.catalogs in
    let catalog_roles = flat_map setup.catalog_role_actions d.catalog_roles in
    let grants = map setup.add_grant d.grants in
    each-append Keeps (roles ++ principals ++ catalogs ++ catalog_roles) grants
    (each-append Keeps (roles ++ principals ++ catalogs) catalog_roles
    (each-append Keeps (roles ++ principals) catalogs
    (each-append Keeps roles principals
    (each-of setup.create_principal_role d.principal_roles (λ role. principal_role-keeps role.name))
    (each-flat_map Keeps setup.principal_actions (setup.principals d words) (λ one. (principal-keeps one.name one.client_id one.secret, each-of (setup.add_member one.name) one.roles (λ role. member-keeps one.name role)))))
    (each-of setup.create_catalog d.catalogs (λ one. catalog-keeps one.name one.base one.allowed)))
    (each-flat_map Keeps setup.catalog_role_actions d.catalog_roles (λ one. (catalog_role-keeps one.catalog one.name, each-of (setup.add_join one.catalog one.name) one.principal_roles (λ role. join-keeps one.catalog role one.name)))))
    (each-of setup.add_grant d.grants grant-keeps)

after-bare : (actions : List Action) (moment : ℕ) (s : Rows) → AllByRecursion Keeps actions → IsBare s → IsBare (state_after s (map (by_setup moment) actions))
unfolding state_after
after-bare [] moment s all bare = bare
after-bare (action ∷ actions) moment s all bare =
    after-bare actions moment (next_state s (by_setup moment action)) all.1 (bare-next s (by_setup moment action) bare (all.0 s moment bare))

-- so the state that a declaration sets up is one
pub set-up-bare : (d : Declaration) (moment : ℕ) (words : List ℕ) → IsBare (state_declared d moment words)
set-up-bare d moment words =
    after-bare (setup.actions d words) moment (fresh_state d.root_secret) (all-keep d words) (fresh-bare d.root_secret)
