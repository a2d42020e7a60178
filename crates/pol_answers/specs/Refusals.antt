-- The status, the message and the type of each refusal of a command.
use Rattle.std.specs.Prelude.{ℕ, List, ◌∷◌, ◌++◌, Option, Some, None, decimal, codes}
use Rattle.pol_locations.specs.Location.{location_text}
use Rattle.pol_locations.specs.LocationRefused.{word_of}
use Rattle.pol_meta.specs.Why as why_refused
use Rattle.pol_commands.specs.declared.reply.Refusal.{Refusal}
use Rattle.pol_commands.specs.declared.reply.Refusal.TheVariants.{RunFull, InvalidClient, InvalidScope, Unauthenticated, NoCatalogue, Forbidden, NoNamespace, NoTable, NoView, NoSuchRole, NameTaken, NotEmpty, KeyTwice, TableTwice, RequirementFailed, UpdateRefused, BadLocation, LocationOutside, LocationOverlap, Unsupported, Limit, Reserved, TooManyTokens, TokenUnknown, NotCovered, NotWritable}
use Rattle.pol_access.specs.Privilege.{text_of}
use Rattle.pol_commands.specs.Reply.{option_text, quantity_text}
use Rattle.pol_commands.specs.Securables.{securable_text}
use Rattle.pol_names.specs.Namespace.{dotted}
use Rattle.pol_names.specs.declared.identifier.Identifier.{Identifier}

-- the status of the answer to a refusal
abbrev pub status_of : Refusal → ℕ
status_of (RunFull charged charge) = 503
status_of InvalidClient = 401
status_of InvalidScope = 400
status_of Unauthenticated = 401
status_of (NoCatalogue name) = 404
status_of (Forbidden privilege securable) = 403
status_of (NoNamespace namespace) = 404
status_of (NoTable identifier) = 404
status_of (NoView identifier) = 404
status_of (NoSuchRole name) = 404
status_of (NameTaken name) = 409
status_of (NotEmpty name) = 409
status_of (KeyTwice key) = 422
status_of (TableTwice first second) = 400
status_of (RequirementFailed table requirement) = 409
status_of (UpdateRefused table update why) = 400
status_of (BadLocation place why) = 400
status_of (LocationOutside location) = 400
status_of (LocationOverlap location other) = 400
status_of (TooManyTokens live) = 429
status_of (Unsupported name) = 406
status_of (Limit quantity bound) = 400
status_of (Reserved name) = 400
status_of TokenUnknown = 401
status_of NotCovered = 403
status_of NotWritable = 403

-- the type of the error (Iceberg REST OpenAPI, ErrorModel), unless a token request is refused
abbrev pub kind_of : Refusal → Option (List ℕ)
kind_of (RunFull charged charge) = Some (codes "ServiceUnavailableException")
kind_of InvalidClient = None
kind_of InvalidScope = None
kind_of Unauthenticated = Some (codes "NotAuthorizedException")
kind_of (NoCatalogue name) = Some (codes "NotFoundException")
kind_of (Forbidden privilege securable) = Some (codes "ForbiddenException")
kind_of (NoNamespace namespace) = Some (codes "NoSuchNamespaceException")
kind_of (NoTable identifier) = Some (codes "NoSuchTableException")
kind_of (NoView identifier) = Some (codes "NoSuchViewException")
kind_of (NoSuchRole name) = Some (codes "NotFoundException")
kind_of (NameTaken name) = Some (codes "AlreadyExistsException")
kind_of (NotEmpty name) = Some (codes "NamespaceNotEmptyException")
kind_of (KeyTwice key) = Some (codes "UnprocessableEntityException")
kind_of (TableTwice first second) = Some (codes "BadRequestException")
kind_of (RequirementFailed table requirement) = Some (codes "CommitFailedException")
kind_of (UpdateRefused table update why) = Some (codes "BadRequestException")
kind_of (BadLocation place why) = Some (codes "BadRequestException")
kind_of (LocationOutside location) = Some (codes "BadRequestException")
kind_of (LocationOverlap location other) = Some (codes "BadRequestException")
kind_of (TooManyTokens live) = Some (codes "TooManyRequestsException")
kind_of (Unsupported name) = Some (codes "UnsupportedOperationException")
kind_of (Limit quantity bound) = Some (codes "BadRequestException")
kind_of (Reserved name) = Some (codes "BadRequestException")
kind_of TokenUnknown = Some (codes "NotAuthorizedException")
kind_of NotCovered = Some (codes "ForbiddenException")
kind_of NotWritable = Some (codes "ForbiddenException")

-- an identifier as it is shown: its namespace, a dot, and its name
abbrev pub identifier_text : Identifier → List ℕ
identifier_text identifier = dotted identifier.namespace ++ 0x2E ∷ identifier.name

-- the message that tells a refusal
abbrev pub message_of : Refusal → List ℕ
message_of (RunFull charged charge) = codes "RunFull: " ++ (decimal charged ++ (codes " and " ++ decimal charge))
message_of InvalidClient = codes "invalid_client"
message_of InvalidScope = codes "invalid_scope"
message_of Unauthenticated = codes "Unauthenticated"
message_of (NoCatalogue name) = codes "NoCatalogue: " ++ name
message_of (Forbidden privilege securable) = codes "Forbidden: " ++ (text_of privilege ++ (codes " on " ++ securable_text securable))
message_of (NoNamespace namespace) = codes "NoNamespace: " ++ dotted namespace
message_of (NoTable identifier) = codes "NoTable: " ++ identifier_text identifier
message_of (NoView identifier) = codes "NoView: " ++ identifier_text identifier
message_of (NoSuchRole name) = codes "NoSuchRole: " ++ name
message_of (NameTaken name) = codes "NameTaken: " ++ name
message_of (NotEmpty name) = codes "NotEmpty: " ++ name
message_of (KeyTwice key) = codes "KeyTwice: " ++ key
message_of (TableTwice first second) = codes "TableTwice: " ++ (decimal first ++ (codes " and " ++ decimal second))
message_of (RequirementFailed table requirement) =
    codes "Requirement " ++ (decimal requirement ++ (codes " of table " ++ (decimal table ++ codes " failed")))
message_of (UpdateRefused table update why) =
    codes "Update " ++ (decimal update ++ (codes " of table " ++ (decimal table ++ (codes " refused: " ++ why_refused.word_of why))))
message_of (BadLocation place why) = codes "BadLocation of table " ++ (decimal place ++ (codes ": " ++ word_of why))
message_of (LocationOutside location) = codes "LocationOutside: " ++ location_text location
message_of (LocationOverlap location other) =
    codes "LocationOverlap: " ++ (location_text location ++ (codes " and " ++ location_text other))
message_of (TooManyTokens live) = codes "TooManyTokens: " ++ decimal live
message_of (Unsupported name) = codes "Unsupported: " ++ option_text name
message_of (Limit quantity bound) = codes "Limit: " ++ (quantity_text quantity ++ (codes " " ++ decimal bound))
message_of (Reserved name) = codes "Reserved: " ++ name
message_of TokenUnknown = codes "TokenUnknown"
message_of NotCovered = codes "NotCovered"
message_of NotWritable = codes "NotWritable"
