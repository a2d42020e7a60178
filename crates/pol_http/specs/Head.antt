-- A whole head, judged (RFC 9112, sections 6.3 and 9.6; RFC 9110, section 10.1.1).
use Rattle.std.specs.Prelude.{◌≡◌, ℕ, ◌≤◌, Bool, false, ◌&&◌, ◌||◌, List, map, length, take, nat_lt, ◌==◌, if◌then◌else◌, Result, Ok, Err, codes, All}
use Rattle.httparse.specs.Grammar.{RequestHead, print_request}
use Rattle.httparse.specs.Spans.{name_and_value, span_bytes, AreFieldsAt, IsWithin, IsHeaderWithin}
use Rattle.pol_http.specs.declared.head.Head.{Head}
use Rattle.pol_http.specs.declared.head.HeadRefused.{HeadRefused}
use Rattle.pol_http.specs.declared.head.HeadRefused.TheVariants.{BadHead}
use Rattle.pol_http.specs.declared.head.TheConstants.{HEAD_LIMIT, FIELD_LIMIT}
use Rattle.pol_http.specs.Fields.{lists, announced_length}

-- the head's fields: each name, and its value without the white space around it
abbrev pub fields_of : RequestHead → List (List ℕ × List ℕ)
fields_of head = map name_and_value head.fields

-- the head has more bytes or more fields than it may have
abbrev pub passes_limit : RequestHead → Bool
passes_limit head = nat_lt HEAD_LIMIT (length (print_request head)) || nat_lt FIELD_LIMIT (length head.fields)

-- the length of the body that follows the head, or why the head is refused
unfoldable pub body_length : RequestHead → Result ℕ HeadRefused
body_length head = if passes_limit head then Err BadHead else announced_length (fields_of head)

-- the connection ends after the answer: HTTP/1.0, or the option `close`
unfoldable pub closes : RequestHead → Bool
closes head = head.minor == 0 || lists (codes "connection") (codes "close") (fields_of head)

-- there is a body
abbrev pub has_body : Result ℕ HeadRefused → Bool
has_body (Ok n) = nat_lt 0 n
has_body (Err why) = false

-- the sender waits for `100 Continue`: HTTP/1.1, the expectation, and a body
unfoldable pub asks : RequestHead → Bool
asks head = head.minor == 1 && lists (codes "expect") (codes "100-continue") (fields_of head) && has_body (body_length head)

-- what was read has the parts of the head, as ranges of the bytes
pub record IsHeadOf (bytes : List ℕ) (read : Head) (head : RequestHead) : Type 0 where
  pub method : span_bytes bytes read.method ≡ head.method
  pub target : span_bytes bytes read.target ≡ head.target
  pub minor : read.minor ≡ head.minor
  pub fields : AreFieldsAt bytes read.fields read.count head.fields
  pub closes : read.closes ≡ closes head
  pub asks : read.asks ≡ asks head

-- the ranges of what was read lie in the first taken bytes
pub record IsHeadWithin (taken : ℕ) (read : Head) : Type 0 where
  pub method : IsWithin taken read.method
  pub target : IsWithin taken read.target
  pub count : read.count ≤ FIELD_LIMIT
  pub fields : All (IsHeaderWithin taken) (take read.count read.fields)
