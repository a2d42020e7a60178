-- The answers to replies and refusals: statuses and JSON texts.
use Rattle.std.specs.Prelude.{ℕ, ◌/◌, List, ◌++◌, Option, Some, None, codes}
use Rattle.serde_json.specs.Data.{Data, number, unsigned, string, object, member, no_members}
use Rattle.serde_json.specs.Written.{compact_text}
use Rattle.pol_http.specs.declared.answer.Answer.{Answer}
use Rattle.pol_http.specs.declared.answer.Body.TheVariants.{Nothing, Json, Token}
use Rattle.pol_http.specs.declared.head.HeadRefused.{HeadRefused}
use Rattle.pol_http.specs.declared.head.HeadRefused.TheVariants.{BadHead, LengthNeeded, BodyTooLong}
use Rattle.pol_commands.specs.declared.reply.Answer.{Answer as Done}
use Rattle.pol_commands.specs.declared.reply.Answer.TheVariants.{SessionOpened, ConfigTold, CatalogsListed, CatalogCreated, CatalogLoaded, CatalogDropped, NamespacesListed, NamespaceCreated, NamespaceLoaded, NamespaceThere, NamespaceDropped, PropertiesUpdated, TablesListed, TableLoaded, TableThere, TableDropped, MetricsReported, TableCommitted, TransactionCommitted, TableRenamed, ViewsListed, ViewLoaded, ViewThere, ViewDropped, ViewRenamed, PrincipalsListed, PrincipalCreated, PrincipalLoaded, PrincipalDropped, SecretRotated, RolesListed, RoleCreated, RoleLoaded, RoleDropped, MemberAdded, MemberEnded, JoinAdded, JoinEnded, GrantsListed, GrantAdded, GrantRevoked, CredentialsLoaded, AccessAllowed}
use Rattle.pol_commands.specs.declared.reply.Refusal.{Refusal}
use Rattle.pol_commands.specs.declared.reply.Reply.{Reply}
use Rattle.pol_commands.specs.declared.reply.Reply.TheVariants.{Answered, Refused}
use Rattle.pol_requests.specs.declared.refused.RouteRefused.{RouteRefused}
use Rattle.pol_requests.specs.declared.refused.RouteRefused.TheVariants.{NoRoute, WrongMethod, Unreadable, InvalidRequest, GrantType}
use Rattle.pol_answers.specs.Json.{catalog_json, catalogs_json, config_json, namespace_json, namespaces_json, updated_json}
use Rattle.pol_answers.specs.ManagementJson.{credentials_json, grants_json, principal_json, principals_json, role_json, roles_json}
use Rattle.pol_answers.specs.Refusals.{kind_of, message_of, status_of}
use Rattle.pol_answers.specs.TableJson as table_json
use Rattle.pol_answers.specs.TableJson.{committed_json, identifiers_json, loaded_json}
use Rattle.pol_answers.specs.ViewJson.{shown_json}
use Rattle.pol_json_answers.specs.JsonAnswers.{answer_with, error_answer, json_answer}
use Rattle.pol_tokens.specs.declared.session.TheConstants.{SESSION_LIFE}
use Rattle.pol_tokens.specs.Text.{text_of_token}

-- the JSON of an access token (RFC 6749, section 5.1; RFC 8693, section 2.2.1), which lasts so many seconds
abbrev pub token_json : List ℕ → Data
token_json text =
    object (member (codes "access_token") (string text)
    (member (codes "expires_in") (number (unsigned (SESSION_LIFE / 1000)))
    (member (codes "issued_token_type") (string (codes "urn:ietf:params:oauth:token-type:access_token"))
    (member (codes "token_type") (string (codes "bearer")) no_members))))

-- the answer that gives a session's token
unfoldable pub session_answer : List ℕ → Answer
session_answer text = answer_with 200 (Token (compact_text (token_json text)))

-- the JSON of a refused token request (RFC 6749, section 5.2)
abbrev pub token_error_json : List ℕ → Data
token_error_json error = object (member (codes "error") (string error) no_members)

-- the answer to a refused token request
unfoldable pub token_error : ℕ → List ℕ → Answer
token_error code error = answer_with code (Json (compact_text (token_error_json error)))

-- the answer to what is refused with that status and message: a refused token request has no type of error
abbrev pub told_answer : ℕ → List ℕ → Option (List ℕ) → Answer
told_answer code message None = token_error code message
told_answer code message (Some kind) = error_answer code message kind

-- the answer to a command that is refused
abbrev pub refused_answer : Refusal → Answer
refused_answer why = told_answer (status_of why) (message_of why) (kind_of why)

-- the answer to a command that is done; of what has ended or is there nothing is told. That an access is allowed is told to
-- nobody: what was asked for by it is done then, and answered
abbrev pub done_answer : Done → Answer
done_answer (SessionOpened serial word_a word_b) = session_answer (text_of_token serial word_a word_b)
done_answer (ConfigTold catalog) = json_answer 200 (config_json catalog)
done_answer (CatalogsListed rows) = json_answer 200 (catalogs_json rows)
done_answer (CatalogCreated row) = json_answer 201 (catalog_json row)
done_answer (CatalogLoaded row) = json_answer 200 (catalog_json row)
done_answer CatalogDropped = answer_with 204 Nothing
done_answer (NamespacesListed namespaces) = json_answer 200 (namespaces_json namespaces)
done_answer (NamespaceCreated namespace properties) = json_answer 200 (namespace_json namespace properties)
done_answer (NamespaceLoaded namespace properties) = json_answer 200 (namespace_json namespace properties)
done_answer NamespaceThere = answer_with 204 Nothing
done_answer NamespaceDropped = answer_with 204 Nothing
done_answer (PropertiesUpdated missing removed updated) = json_answer 200 (updated_json missing removed updated)
done_answer (TablesListed identifiers) = json_answer 200 (identifiers_json identifiers)
done_answer (TableLoaded place meta token) = json_answer 200 (loaded_json place meta token)
done_answer (CredentialsLoaded token) = json_answer 200 (table_json.credentials_json token)
done_answer TableThere = answer_with 204 Nothing
done_answer TableDropped = answer_with 204 Nothing
done_answer MetricsReported = answer_with 204 Nothing
done_answer (TableCommitted place meta) = json_answer 200 (committed_json place meta)
done_answer TransactionCommitted = answer_with 204 Nothing
done_answer TableRenamed = answer_with 204 Nothing
done_answer (ViewsListed identifiers) = json_answer 200 (identifiers_json identifiers)
done_answer (ViewLoaded place meta) = json_answer 200 (shown_json place meta)
done_answer ViewThere = answer_with 204 Nothing
done_answer ViewDropped = answer_with 204 Nothing
done_answer ViewRenamed = answer_with 204 Nothing
done_answer (PrincipalsListed rows) = json_answer 200 (principals_json rows)
done_answer (PrincipalCreated name client_id word) = json_answer 201 (credentials_json client_id word name)
done_answer (PrincipalLoaded row) = json_answer 200 (principal_json row)
done_answer PrincipalDropped = answer_with 204 Nothing
done_answer (SecretRotated name client_id word) = json_answer 200 (credentials_json client_id word name)
done_answer (RolesListed names) = json_answer 200 (roles_json names)
done_answer RoleCreated = answer_with 201 Nothing
done_answer (RoleLoaded name) = json_answer 200 (role_json name)
done_answer RoleDropped = answer_with 204 Nothing
done_answer MemberAdded = answer_with 201 Nothing
done_answer MemberEnded = answer_with 204 Nothing
done_answer JoinAdded = answer_with 201 Nothing
done_answer JoinEnded = answer_with 204 Nothing
done_answer (GrantsListed grants) = json_answer 200 (grants_json grants)
done_answer GrantAdded = answer_with 201 Nothing
done_answer GrantRevoked = answer_with 201 Nothing
done_answer AccessAllowed = answer_with 204 Nothing

-- the answer to a reply
unfoldable pub answer_of : Reply → Answer
answer_of (Answered done) = done_answer done
answer_of (Refused refusal) = refused_answer refusal

-- the answer to a request with a field that can't be read
abbrev pub unreadable_answer : List ℕ → Answer
unreadable_answer field = error_answer 400 (codes "Unreadable: " ++ field) (codes "BadRequestException")

-- the answer to a request that has no plan
unfoldable pub refusal_answer : RouteRefused → Answer
refusal_answer NoRoute = error_answer 404 (codes "No route") (codes "NotFoundException")
refusal_answer WrongMethod = error_answer 405 (codes "Wrong method") (codes "BadRequestException")
refusal_answer (Unreadable field) = unreadable_answer field
refusal_answer InvalidRequest = token_error 400 (codes "invalid_request")
refusal_answer GrantType = token_error 400 (codes "unsupported_grant_type")

-- the answer where no random word could be drawn
unfoldable pub draw_fault_answer : Answer
draw_fault_answer = error_answer 503 (codes "DrawFault") (codes "ServiceUnavailableException")

-- the answer to a head that is refused
unfoldable pub head_refused_answer : HeadRefused → Answer
head_refused_answer BadHead = error_answer 400 (codes "BadHead") (codes "BadRequestException")
head_refused_answer LengthNeeded = error_answer 411 (codes "LengthNeeded") (codes "BadRequestException")
head_refused_answer BodyTooLong = error_answer 413 (codes "BodyTooLong") (codes "BadRequestException")
