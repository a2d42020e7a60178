-- The JSON of answers on tables (Iceberg REST OpenAPI).
use Rattle.std.specs.Prelude.{ℕ, Bool, true, List, [], ◌∷◌, ◌++◌, Option, Some, None, decimal, codes}
use Rattle.serde_json.specs.Data.{Data, Members, member, no_members, object, string}
use Rattle.serde_json.specs.Written.{compact_text, members_text}
use Rattle.pol_json_texts.specs.Objects.{named_text}
use Rattle.pol_locations.specs.Location.{location_text}
use Rattle.pol_meta.specs.declared.metadata.TableMetadata.{TableMetadata}
use Rattle.pol_metaprint.specs.Metadata.{table_json}
use Rattle.pol_names.specs.declared.identifier.Identifier.{Identifier}
use Rattle.pol_tokens.specs.Text.{text_of_token}
use Rattle.pol_tokens.specs.declared.token.TokenRow.{TokenRow}
use Rattle.pol_answers.specs.Json.{list_json, texts_json}

-- an identifier (TableIdentifier)
abbrev pub identifier_json : Identifier → Data
identifier_json identifier =
    object (member (codes "name") (string identifier.name) (member (codes "namespace") (texts_json identifier.namespace) no_members))

-- a list of them (ListTablesResponse)
abbrev pub identifiers_json : List Identifier → Data
identifiers_json identifiers = object (member (codes "identifiers") (list_json identifier_json identifiers) no_members)

-- what a client is to speak to storage with: the text of a storage token, and when it expires, in milliseconds
abbrev pub token_object : List ℕ → List ℕ → Data
token_object expires token =
    object (member (codes "lake.expires-at-ms") (string expires) (member (codes "lake.token") (string token) no_members))

abbrev pub token_config : TokenRow → Data
token_config row = token_object (decimal row.expires) (text_of_token row.serial row.word_a row.word_b)

abbrev pub config_of : Option TokenRow → Data
config_of None = object no_members
config_of (Some row) = token_config row

-- the locations that a storage token opens: its own (StorageCredential)
abbrev pub credential_json : TokenRow → Data
credential_json row =
    object (member (codes "config") (token_config row) (member (codes "prefix") (string (location_text row.location)) no_members))

abbrev pub tokens_given : Option TokenRow → List TokenRow
tokens_given None = []
tokens_given (Some row) = row ∷ []

abbrev pub credentials_of : Option TokenRow → Data
credentials_of token = list_json credential_json (tokens_given token)

-- a storage token (LoadCredentialsResponse)
abbrev pub credentials_json : TokenRow → Data
credentials_json row = object (member (codes "storage-credentials") (list_json credential_json (row ∷ [])) no_members)

-- a table with its metadata, which is at this place, and with a storage token where one was issued (LoadTableResult)
abbrev pub loaded_object : List ℕ → Data → Data → Data → Data
loaded_object place meta config credentials =
    object (member (codes "config") config
    (member (codes "metadata") meta
    (member (codes "metadata-location") (string place)
    (member (codes "storage-credentials") credentials no_members))))

abbrev pub loaded_json : List ℕ → TableMetadata → Option TokenRow → Data
loaded_json place meta token = loaded_object place (table_json meta) (config_of token) (credentials_of token)

-- what stands in it before the metadata, and behind it
abbrev pub loaded_front : Option TokenRow → Members
loaded_front token = member (codes "config") (config_of token) no_members

abbrev pub loaded_back : List ℕ → Option TokenRow → Members
loaded_back place token =
    member (codes "metadata-location") (string place) (member (codes "storage-credentials") (credentials_of token) no_members)

-- the text of the member that is the metadata, and of what stands behind it up to the end
abbrev pub metadata_text : Bool → TableMetadata → Members → List ℕ
metadata_text later meta rest = named_text later (codes "metadata") ++ (compact_text (table_json meta) ++ members_text true rest)

-- the same after a commit to it (CommitTableResponse)
abbrev pub committed_object : List ℕ → Data → Data
committed_object place meta =
    object (member (codes "metadata") meta (member (codes "metadata-location") (string place) no_members))

abbrev pub committed_json : List ℕ → TableMetadata → Data
committed_json place meta = committed_object place (table_json meta)
