-- The text of an answer (RFC 9112, section 4).
use Rattle.std.specs.Prelude.{ℕ, Bool, true, false, ◌&&◌, ◌||◌, not, List, [], ◌++◌, length, nat_lt, nat_le, ◌==◌, if◌then◌else◌, unwrap_or, decimal, codes}
use Rattle.http.specs.StatusCode.{reason_phrase}
use Rattle.pol_http.specs.declared.answer.Answer.{Answer}
use Rattle.pol_http.specs.declared.answer.Body.{Body}
use Rattle.pol_http.specs.declared.answer.Body.TheVariants.{Nothing, Json, Token, Object, Length}

-- the phrase of a status code, which is empty where it has none
unfoldable pub phrase : ℕ → List ℕ
phrase status = if nat_le 100 status && nat_lt status 1000 then unwrap_or (reason_phrase status) [] else []

-- status-line
unfoldable pub status_line : ℕ → List ℕ
status_line status = codes "HTTP/1.1 " ++ (decimal status ++ (codes " " ++ (phrase status ++ codes "\r\n")))

-- the bytes of a body
abbrev pub bytes_of : Body → List ℕ
bytes_of Nothing = []
bytes_of (Json bytes) = bytes
bytes_of (Token bytes) = bytes
bytes_of (Object bytes) = bytes
bytes_of (Length n) = []

-- the length that is said of a body
abbrev pub length_of : Body → ℕ
length_of Nothing = 0
length_of (Json bytes) = length bytes
length_of (Token bytes) = length bytes
length_of (Object bytes) = length bytes
length_of (Length n) = n

-- the type of the content, where there is some (RFC 9110, section 8.3)
unfoldable pub type_field : Body → List ℕ
type_field Nothing = []
type_field (Json bytes) = codes "content-type: application/json\r\n"
type_field (Token bytes) = codes "content-type: application/json\r\n"
type_field (Object bytes) = codes "content-type: application/octet-stream\r\n"
type_field (Length n) = []

-- the length of the content (RFC 9110, section 8.6)
unfoldable pub length_field : Body → List ℕ
length_field body = codes "content-length: " ++ (decimal (length_of body) ++ codes "\r\n")

-- no cache stores a token (RFC 6749, section 5.1)
unfoldable pub cache_fields : Body → List ℕ
cache_fields Nothing = []
cache_fields (Json bytes) = []
cache_fields (Token bytes) = codes "cache-control: no-store\r\npragma: no-cache\r\n"
cache_fields (Object bytes) = []
cache_fields (Length n) = []

-- the body is the length of an object
abbrev pub is_length : Body → Bool
is_length Nothing = false
is_length (Json bytes) = false
is_length (Token bytes) = false
is_length (Object bytes) = false
is_length (Length n) = true

-- nothing is said of a body: 204 (RFC 9110, section 15.3.5), or HEAD (section 9.3.2) but for an object's length
abbrev pub is_bare : Answer → Bool
is_bare answer = answer.status == 204 || (answer.head_only && not (is_length answer.body))

-- the fields that speak of the body
unfoldable pub body_fields : Answer → List ℕ
body_fields answer =
    if is_bare answer then []
    else type_field answer.body ++ (length_field answer.body ++ cache_fields answer.body)

-- the connection ends after the answer (RFC 9112, section 9.6)
unfoldable pub close_field : Bool → List ℕ
close_field close = if close then codes "connection: close\r\n" else []

-- what follows the head
unfoldable pub content : Answer → List ℕ
content answer = if is_bare answer then [] else bytes_of answer.body

-- the bytes of the answer
unfoldable pub answer_text : Answer → List ℕ
answer_text answer =
    status_line answer.status ++ (body_fields answer ++ (close_field answer.close ++ (codes "\r\n" ++ content answer)))
