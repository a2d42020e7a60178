-- No answer's JSON on tables has a float.
use Rattle.std.proofs.Common.{◌≡◌, ◌++◌, ℕ, Bool, List, Option, Some, None, true, false, codes, refl, sym, ap, ◌∙◌, append_assoc}
use Rattle.serde_json.specs.Data.{Data, Members, member, no_members, string}
use Rattle.serde_json.specs.Written.{compact_text, has_float, members_have_float, members_text}
use Rattle.pol_json_texts.specs.Objects.{named_text, opened_text}
use Rattle.pol_json_texts.proofs.ObjectLemmas.{joined_text}
use Rattle.pol_meta.specs.declared.metadata.TableMetadata.{TableMetadata}
use Rattle.pol_metaprint.specs.Metadata.{table_json}
use Rattle.pol_http.specs.declared.answer.Body.TheVariants.{Json}
use Rattle.pol_json_answers.specs.JsonAnswers.{answer_with, json_answer}
use Rattle.pol_names.specs.declared.identifier.Identifier.{Identifier}
use Rattle.pol_answers.specs.TableJson.{committed_json, committed_object, identifier_json, identifiers_json, loaded_back, loaded_front, loaded_json, config_of, credential_json, credentials_json, credentials_of, tokens_given}
use Rattle.pol_answers.specs.TableJson as spec
use Rattle.pol_tokens.specs.declared.token.TokenRow.{TokenRow}
use Rattle.pol_answers.proofs.JsonLemmas.{list_whole, texts_whole}

identifier_whole : (identifier : Identifier) → has_float (identifier_json identifier) ≡ false
identifier_whole identifier = rw (texts_whole identifier.namespace) refl

pub identifiers_whole : (identifiers : List Identifier) → has_float (identifiers_json identifiers) ≡ false
identifiers_whole identifiers = rw (list_whole identifier_json identifier_whole identifiers) refl

credential_whole : (row : TokenRow) → has_float (credential_json row) ≡ false
credential_whole row = refl

config_whole : (token : Option TokenRow) → has_float (config_of token) ≡ false
config_whole None = refl
config_whole (Some row) = refl

list_of_whole : (token : Option TokenRow) → has_float (credentials_of token) ≡ false
list_of_whole token = list_whole credential_json credential_whole (tokens_given token)

pub front_whole : (token : Option TokenRow) → members_have_float (loaded_front token) ≡ false
front_whole token = rw (config_whole token) refl

pub credentials_whole : (row : TokenRow) → has_float (credentials_json row) ≡ false
credentials_whole row = rw (list_of_whole (Some row)) refl

pub committed_whole : (place : List ℕ) (meta : Data) → has_float meta ≡ false → has_float (committed_object place meta) ≡ false
committed_whole place meta whole = rw whole refl

-- the text of a table's metadata is put in its place, behind what was opened and before what is closed
pub metadata_text : (text : List ℕ) (later : Bool) (meta : TableMetadata) (rest : Members) → ((text ++ named_text later (codes "metadata")) ++ compact_text (table_json meta)) ++ members_text true rest ≡ text ++ spec.metadata_text later meta rest
metadata_text text later meta rest =
    append_assoc (text ++ named_text later (codes "metadata")) _ _ ∙ append_assoc text (named_text later (codes "metadata")) _

pub loaded_text : (place : List ℕ) (meta : TableMetadata) (token : Option TokenRow) → opened_text (loaded_front token) ++ spec.metadata_text true meta (loaded_back place token) ≡ compact_text (loaded_json place meta token)
loaded_text place meta token = sym (joined_text (loaded_front token) (codes "metadata") (table_json meta) (loaded_back place token))

pub committed_text : (place : List ℕ) (meta : TableMetadata) → opened_text no_members ++ spec.metadata_text false meta (member (codes "metadata-location") (string place) no_members) ≡ compact_text (committed_json place meta)
committed_text place meta = sym (joined_text no_members (codes "metadata") (table_json meta) (member (codes "metadata-location") (string place) no_members))

pub answered : (text : List ℕ) (json : Data) → text ≡ compact_text json → answer_with 200 (Json text) ≡ json_answer 200 json
unfolding json_answer
answered text json same = ap (λ content. answer_with 200 (Json content)) same
