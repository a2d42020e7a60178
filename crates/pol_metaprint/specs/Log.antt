-- The tokens of the metadata log.
use Rattle.std.specs.Prelude.{List}
use Rattle.json.specs.Token.{Token}
use Rattle.json.specs.Tree.{json_tokens}
use Rattle.serde_json.specs.Written.{outline}
use Rattle.pol_meta.specs.declared.log.MetadataLogEntry.{MetadataLogEntry}
use Rattle.pol_metaprint.specs.Json.{metadata_log_entry_json}

-- the tokens of an entry's JSON
abbrev pub entry_tokens : MetadataLogEntry → List Token
entry_tokens entry = json_tokens (outline (metadata_log_entry_json entry))
