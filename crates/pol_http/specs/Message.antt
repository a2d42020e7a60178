-- The messages of a byte stream (RFC 9112, section 2).
use Rattle.std.specs.Prelude.{◌≡◌, ℕ, ◌<◌, ◌⊎◌, List, length, take, ◌++◌, All, IsTrue, Ok, Err}
use Rattle.std.specs.List.{flat_map}
use Rattle.httparse.specs.Grammar.{RequestHead, IsRequestHead, print_request, ReadsRequest, HasNoRequest, NeverHasRequest}
use Rattle.pol_http.specs.declared.head.HeadRefused.{HeadRefused}
use Rattle.pol_http.specs.declared.head.HeadRefused.TheVariants.{BadHead}
use Rattle.pol_http.specs.declared.head.TheConstants.{HEAD_LIMIT}
use Rattle.pol_http.specs.Head.{body_length, asks}

-- a head and the body that follows it
pub record Message : Type 0 where
  pub head : RequestHead
  pub body : List ℕ

-- the bytes of a message
unfoldable pub print_message : Message → List ℕ
print_message message = print_request message.head ++ message.body

-- the head is not refused, and the body has the length that it announces (RFC 9112, section 6.3)
pub record IsMessage (message : Message) : Type 0 where
  pub head : IsRequestHead message.head
  pub body : body_length message.head ≡ Ok (length message.body)

-- bytes is the message and then rest
pub record ReadsMessage (bytes : List ℕ) (message : Message) (rest : List ℕ) : Type 0 where
  pub whole : IsMessage message
  pub bytes_are : bytes ≡ print_message message ++ rest

-- no message stands at the front of bytes
abbrev pub HasNoMessage : List ℕ → Type 0
HasNoMessage bytes = (message : Message) (rest : List ℕ) → ¬ (ReadsMessage bytes message rest)

-- bytes is these messages, and a rest that begins with none
pub record Messages (bytes : List ℕ) (messages : List Message) (rest : List ℕ) : Type 0 where
  pub whole : All IsMessage messages
  pub bytes_are : bytes ≡ flat_map print_message messages ++ rest
  pub last : HasNoMessage rest

-- no bytes can follow that make a head, or no head ends within the limit
abbrev pub HasNoHead : List ℕ → Type 0
HasNoHead bytes = NeverHasRequest bytes ⊎ ((HEAD_LIMIT < length bytes) × HasNoRequest (take HEAD_LIMIT bytes))

-- the whole head at the front is refused
abbrev pub HasRefusedHead : List ℕ → HeadRefused → Type 0
HasRefusedHead bytes why =
    (head : RequestHead) × (rest : List ℕ) × ReadsRequest bytes head rest × (body_length head ≡ Err why)

-- bytes is a rest that is refused with that cause
abbrev pub IsRefusedAs : List ℕ → HeadRefused → Type 0
IsRefusedAs bytes why = ((why ≡ BadHead) × HasNoHead bytes) ⊎ HasRefusedHead bytes why

-- no cause refuses bytes
abbrev pub IsNotRefused : List ℕ → Type 0
IsNotRefused bytes = (why : HeadRefused) → ¬ (IsRefusedAs bytes why)

-- the whole head at the front waits for `100 Continue`
abbrev pub HasAskingHead : List ℕ → Type 0
HasAskingHead bytes = (head : RequestHead) × (rest : List ℕ) × ReadsRequest bytes head rest × IsTrue (asks head)
