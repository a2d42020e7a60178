-- What a declaration does: the commands that set a catalogue up, and the lines that tell the drawn secrets.
use Rattle.std.specs.Prelude.{ℕ, ◌+◌, ◌*◌, List, [], ◌∷◌, ◌++◌, map, count_by, slice_index, Bool, false, is_none, if◌then◌else◌, Option, Some, None, codes}
use Rattle.std.specs.List.{flat_map}
use Rattle.pol_commands.specs.declared.command.Action.{Action}
use Rattle.pol_commands.specs.declared.command.Action.TheVariants.{CreateCatalog, CreatePrincipal, AddMember, CreatePrincipalRole, AddJoin, CreateCatalogRole, AddGrant}
use Rattle.pol_commands.specs.declared.command.Caller.TheVariants.{Setup as by}
use Rattle.pol_commands.specs.declared.command.Command.{Command}
use Rattle.pol_commands.specs.declared.command.Words4.{Words4}
use Rattle.pol_tokens.specs.Text.{word_digits}
use Rattle.pol_declaration.specs.declared.declaration.Declaration.{Declaration}
use Rattle.pol_setup.specs.declared.principals.KeyedPrincipal.{KeyedPrincipal}
use Rattle.pol_declaration.specs.declared.tables.NewCatalog.{NewCatalog}
use Rattle.pol_declaration.specs.declared.tables.NewCatalogRole.{NewCatalogRole}
use Rattle.pol_declaration.specs.declared.tables.NewGrant.{NewGrant}
use Rattle.pol_declaration.specs.declared.tables.NewPrincipal.{NewPrincipal}
use Rattle.pol_declaration.specs.declared.tables.NewPrincipalRole.{NewPrincipalRole}

-- whether a principal's secret is to be drawn
abbrev pub is_drawn : NewPrincipal → Bool
is_drawn principal = is_none principal.secret

-- two words for each of these
abbrev pub words_needed : Declaration → ℕ
words_needed d = 2 * count_by is_drawn d.principals

-- the secret that is drawn of two words: 32 hexadecimal digits
abbrev pub digits : ℕ → ℕ → List ℕ
digits high low = word_digits high ++ word_digits low

-- the drawn secret of that place
abbrev pub drawn_at : List ℕ → ℕ → List ℕ
drawn_at words place = digits (slice_index words (2 * place)) (slice_index words (2 * place + 1))

-- the secret that is given, or else the drawn one of that place
abbrev pub secret_or : Option (List ℕ) → List ℕ → ℕ → List ℕ
secret_or None words place = drawn_at words place
secret_or (Some secret) words place = secret

-- a principal with its secret
abbrev pub with_secret : List ℕ → ℕ → NewPrincipal → KeyedPrincipal
with_secret words place principal = record {
  name = principal.name;
  client_id = principal.client_id;
  secret = secret_or principal.secret words place;
  is_drawn = is_drawn principal;
  roles = principal.roles;
}

-- principals with their secrets, of which the first drawn one has that place
abbrev pub keyed : List ℕ → ℕ → List NewPrincipal → List KeyedPrincipal
keyed words place [] = []
keyed words place (principal ∷ others) =
    with_secret words place principal ∷ keyed words (if is_drawn principal then place + 1 else place) others

-- the line that tells a principal's secret
unfoldable pub line : KeyedPrincipal → List ℕ
line principal =
    codes "principal " ++ principal.name ++ codes " client-id " ++ principal.client_id ++ codes " secret " ++ principal.secret ++ codes "\n"

-- only a secret that was drawn is told
abbrev pub line_of : KeyedPrincipal → List ℕ
line_of principal = if principal.is_drawn then line principal else []

-- what each table of a declaration does
abbrev pub create_principal_role : NewPrincipalRole → Action
create_principal_role role = CreatePrincipalRole role.name

abbrev pub add_member : List ℕ → List ℕ → Action
add_member principal role = AddMember principal role

abbrev pub principal_actions : KeyedPrincipal → List Action
principal_actions principal =
    CreatePrincipal principal.name (Some principal.client_id) (Some principal.secret) ∷ map (add_member principal.name) principal.roles

abbrev pub create_catalog : NewCatalog → Action
create_catalog catalog = CreateCatalog catalog.name catalog.base catalog.allowed [] false

abbrev pub add_join : List ℕ → List ℕ → List ℕ → Action
add_join catalog catalog_role role = AddJoin catalog role catalog_role

abbrev pub catalog_role_actions : NewCatalogRole → List Action
catalog_role_actions role =
    CreateCatalogRole role.catalog role.name ∷ map (add_join role.catalog role.name) role.principal_roles

abbrev pub add_grant : NewGrant → Action
add_grant one = AddGrant one.catalog one.catalog_role one.grant

-- no command takes a random word: each secret is given
abbrev pub no_words : Words4
no_words = record { a = 0; b = 0; c = 0; d = 0 }

-- a command of the setting up, which is charged nothing
abbrev pub by_setup : ℕ → Action → Command
by_setup moment action = record {
  caller = by;
  moment = moment;
  words = no_words;
  charge = 0;
  action = action;
}

-- the principals of a declaration with their secrets
abbrev pub principals : Declaration → List ℕ → List KeyedPrincipal
principals d words = keyed words 0 d.principals

-- what a declaration does, in order
abbrev pub actions : Declaration → List ℕ → List Action
actions d words =
    map create_principal_role d.principal_roles
    ++ flat_map principal_actions (principals d words)
    ++ map create_catalog d.catalogs
    ++ flat_map catalog_role_actions d.catalog_roles
    ++ map add_grant d.grants

abbrev pub commands : Declaration → ℕ → List ℕ → List Command
commands d moment words = map (by_setup moment) (actions d words)

-- the lines that tell the drawn secrets
abbrev pub lines : Declaration → List ℕ → List ℕ
lines d words = flat_map line_of (principals d words)
