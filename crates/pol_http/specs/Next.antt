-- What the reader answers, and what it tells of the bytes.
use Rattle.std.specs.Prelude.{◌≡◌, ℕ, ◌<◌, ◌≤◌, Bool, true, false, IsTrue, List, length, drop, ⊤, Ok}
use Rattle.httparse.specs.Grammar.{RequestHead, print_request, ReadsRequest}
use Rattle.httparse.specs.Spans.{span_bytes, IsWithin}
use Rattle.httparse.specs.declared.spans.Span.{Span}
use Rattle.pol_http.specs.declared.head.Head.{Head}
use Rattle.pol_http.specs.declared.next.Next.{Next}
use Rattle.pol_http.specs.declared.next.Next.TheVariants.{Whole, Continue, Partial, Refused}
use Rattle.pol_http.specs.Head.{IsHeadOf, IsHeadWithin, body_length, asks}
use Rattle.pol_http.specs.Message.{Message, print_message, ReadsMessage, HasNoMessage, HasAskingHead, IsNotRefused, IsRefusedAs}

-- the answer is Whole
abbrev pub is_whole : Next → Bool
is_whole (Whole head body taken) = true
is_whole (Continue taken) = false
is_whole Partial = false
is_whole (Refused why) = false

-- the answer is Continue
abbrev pub is_continue : Next → Bool
is_continue (Whole head body taken) = false
is_continue (Continue taken) = true
is_continue Partial = false
is_continue (Refused why) = false

-- P of the message that was read
abbrev pub IfWhole : Next → (Head → Span → ℕ → Type 0) → Type 0
IfWhole (Whole head body taken) P = P head body taken
IfWhole (Continue taken) P = ⊤
IfWhole Partial P = ⊤
IfWhole (Refused why) P = ⊤

-- P of the length of the head that asks
abbrev pub IfContinue : Next → (ℕ → Type 0) → Type 0
IfContinue (Whole head body taken) P = ⊤
IfContinue (Continue taken) P = P taken
IfContinue Partial P = ⊤
IfContinue (Refused why) P = ⊤

-- the first taken bytes are the message, and the ranges cover its parts
pub record IsMessageAt (bytes : List ℕ) (head : Head) (body : Span) (taken : ℕ) (message : Message) : Type 0 where
  pub reads : ReadsMessage bytes message (drop taken bytes)
  pub length_is : taken ≡ length (print_message message)
  pub head_is : IsHeadOf bytes head message.head
  pub body_is : span_bytes bytes body ≡ message.body

-- the ranges of a message of taken bytes lie in the bytes, those of its head before its body, which ends the message
pub record LiesWithin (bytes : List ℕ) (head : Head) (body : Span) (taken : ℕ) : Type 0 where
  pub head_range : IsHeadWithin body.start head
  pub body_range : IsWithin taken body
  pub ends : body.end ≡ taken
  pub some : 0 < taken
  pub fits : taken ≤ length bytes

-- a message stands at the front of bytes
abbrev pub BeginsWithMessage : List ℕ → Type 0
BeginsWithMessage bytes = (message : Message) × (rest : List ℕ) × ReadsMessage bytes message rest

-- no message is there and none is refused, and a whole head asks
pub record Awaits (bytes : List ℕ) : Type 0 where
  pub no_message : HasNoMessage bytes
  pub not_refused : IsNotRefused bytes
  pub asking : HasAskingHead bytes

-- no message is there, none is refused, and no whole head asks
pub record IsUnfinished (bytes : List ℕ) : Type 0 where
  pub no_message : HasNoMessage bytes
  pub not_refused : IsNotRefused bytes
  pub not_asking : ¬ (HasAskingHead bytes)

-- the first taken bytes are a head that asks
abbrev pub AsksWithin : List ℕ → ℕ → Type 0
AsksWithin bytes taken =
    (head : RequestHead) × ReadsRequest bytes head (drop taken bytes) × (taken ≡ length (print_request head)) × IsTrue (asks head)

-- a whole head is there and is not refused, so that the length of the message is known
abbrev pub KnowsLength : List ℕ → Type 0
KnowsLength bytes =
    (head : RequestHead) × (rest : List ℕ) × (body : ℕ) × ReadsRequest bytes head rest × (body_length head ≡ Ok body)

-- what each answer tells of the bytes
abbrev pub Tells : List ℕ → Next → Type 0
Tells bytes (Whole head body taken) =
    ((message : Message) × IsMessageAt bytes head body taken message) × LiesWithin bytes head body taken
Tells bytes (Continue taken) = Awaits bytes × AsksWithin bytes taken
Tells bytes Partial = IsUnfinished bytes
Tells bytes (Refused why) = IsRefusedAs bytes why
