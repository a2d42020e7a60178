-- Answers by their status and their body, those of JSON and those to errors.
use Rattle.std.specs.Prelude.{ℕ, List, false, codes}
use Rattle.serde_json.specs.Data.{Data, number, unsigned, string, object, member, no_members}
use Rattle.serde_json.specs.Written.{compact_text}
use Rattle.pol_http.specs.declared.answer.Answer.{Answer}
use Rattle.pol_http.specs.declared.answer.Body.{Body}
use Rattle.pol_http.specs.declared.answer.Body.TheVariants.{Json}

-- an answer that leaves the connection open
abbrev pub answer_with : ℕ → Body → Answer
answer_with code content = record { status = code; body = content; close = false; head_only = false }

-- an answer of JSON
unfoldable pub json_answer : ℕ → Data → Answer
json_answer code json = answer_with code (Json (compact_text json))

-- the JSON of an error (Iceberg REST OpenAPI, IcebergErrorResponse)
abbrev pub error_json : ℕ → List ℕ → List ℕ → Data
error_json code message kind =
    object (member (codes "error") (object (member (codes "code") (number (unsigned code))
    (member (codes "message") (string message) (member (codes "type") (string kind) no_members)))) no_members)

-- the answer to an error
unfoldable pub error_answer : ℕ → List ℕ → List ℕ → Answer
error_answer code message kind = json_answer code (error_json code message kind)
