-- The actions on principals.
use Rattle.std.specs.Prelude.{ℕ, ◌+◌, List, [], ◌∷◌, ◌++◌, Option, codes, unwrap_or, Some, option_map}
use Rattle.pol_access.specs.Access.{principal_dropped, principal_id, principal_name}
use Rattle.pol_access.specs.Names.{principal_named, principal_of_client}
use Rattle.pol_access.specs.Order.{by_name}
use Rattle.pol_access.specs.declared.rows.PrincipalRow.{PrincipalRow}
use Rattle.pol_tables.specs.Table.{rows_with}
use Rattle.pol_tokens.specs.Text.{word_digits}
use Rattle.pol_rules.specs.AccessRules.{in_realm, no_principal, reserved}
use Rattle.pol_rules.specs.Acting.{Acting, done, reading}
use Rattle.pol_rules.specs.Rules.{name_taken}
use Rattle.pol_state.specs.Rows.{Rows, digest_of}
use Rattle.pol_commands.specs.declared.command.Command.{Command}
use Rattle.pol_commands.specs.declared.reply.Answer.TheVariants.{PrincipalsListed, PrincipalCreated, PrincipalLoaded, PrincipalDropped, SecretRotated}

-- listing all principals
abbrev pub list_principals : Rows → Command → Acting
list_principals s command = reading s (in_realm s command []) (Some (PrincipalsListed (by_name principal_name s.access.principals)))

-- the client id that is given, or the digits of a word, and the secret that is given, or those of two words
abbrev pub client_id_or : Option (List ℕ) → ℕ → List ℕ
client_id_or client_id word = unwrap_or client_id (word_digits word)

abbrev pub secret_or : Option (List ℕ) → ℕ → ℕ → List ℕ
secret_or secret high low = unwrap_or secret (word_digits high ++ word_digits low)

-- the principal that is created, under the next id
abbrev pub new_principal : Rows → List ℕ → List ℕ → List ℕ → PrincipalRow
new_principal s name client_id secret = record { id = s.next_id; name = name; client_id = client_id; digest = digest_of secret }

-- the rows with a principal that is new or altered, and with one that takes the next id
abbrev pub with_principal : Rows → PrincipalRow → Rows
with_principal s row = record s { access = record s.access { principals = rows_with principal_id row s.access.principals } }

abbrev pub with_new_principal : Rows → PrincipalRow → Rows
with_new_principal s row = record (with_principal s row) { next_id = s.next_id + 1 }

-- creating a principal
abbrev pub create_principal : Rows → Command → List ℕ → Option (List ℕ) → Option (List ℕ) → Acting
create_principal s command name client_id secret =
    let client = client_id_or client_id command.words.a in
    let opens = secret_or secret command.words.b command.words.c in
    record {
      rules = in_realm s command (name_taken (principal_named name s.access) name ∷ name_taken (principal_of_client client s.access) client ∷ []);
      after = with_new_principal s (new_principal s name client opens);
      answer = Some (PrincipalCreated name client opens);
    }

-- showing a principal
abbrev pub get_principal : Rows → Command → List ℕ → Acting
get_principal s command name = reading s (in_realm s command (no_principal s name ∷ [])) (option_map PrincipalLoaded (principal_named name s.access))

-- the rows without a principal and its memberships
abbrev pub without_principal : Rows → PrincipalRow → Rows
without_principal s row = record s { access = principal_dropped row.id s.access }

-- dropping a principal
abbrev pub drop_principal : Rows → Command → List ℕ → Acting
drop_principal s command name = record {
  rules = in_realm s command (no_principal s name ∷ reserved (codes "root") name ∷ []);
  after = done s (principal_named name s.access) (without_principal s);
  answer = Some PrincipalDropped;
}

-- a principal with another secret
abbrev pub rotated : Rows → List ℕ → PrincipalRow → Rows
rotated s secret row = with_principal s (record row { digest = digest_of secret })

-- giving a principal another secret
abbrev pub rotate : Rows → Command → List ℕ → Option (List ℕ) → Acting
rotate s command name secret =
    let opens = secret_or secret command.words.a command.words.b in
    record {
      rules = in_realm s command (no_principal s name ∷ []);
      after = done s (principal_named name s.access) (rotated s opens);
      answer = option_map (λ row. SecretRotated row.name row.client_id opens) (principal_named name s.access);
    }
