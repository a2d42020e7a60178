-- What stands at the front of the bytes, before its body is looked at.
use Rattle.std.specs.Prelude.{◌≡◌, ℕ, ◌≤◌, List, ◌++◌, length, drop, Ok}
use Rattle.httparse.specs.Grammar.{RequestHead, print_request, ReadsRequest, HasNoRequest}
use Rattle.pol_http.specs.declared.head.Head.{Head}
use Rattle.pol_http.specs.declared.head.Front.{Front}
use Rattle.pol_http.specs.declared.head.Front.TheVariants.{Whole, Partial, Refused}
use Rattle.pol_http.specs.declared.head.TheConstants.{HEAD_LIMIT}
use Rattle.pol_http.specs.Head.{IsHeadOf, IsHeadWithin, body_length}
use Rattle.pol_http.specs.Message.{HasRefusedHead, IsRefusedAs}

-- some bytes can follow that make a head
abbrev pub CanHaveRequest : List ℕ → Type 0
CanHaveRequest bytes = (more : List ℕ) × (head : RequestHead) × (rest : List ℕ) × ReadsRequest (bytes ++ more) head rest

-- the first taken bytes are the head, which announces a body of that length, and read has its parts
pub record IsFrontAt (bytes : List ℕ) (read : Head) (taken body : ℕ) (head : RequestHead) : Type 0 where
  pub reads : ReadsRequest bytes head (drop taken bytes)
  pub length_is : taken ≡ length (print_request head)
  pub within : taken ≤ length bytes
  pub announces : body_length head ≡ Ok body
  pub parts : IsHeadOf bytes read head
  pub ranges : IsHeadWithin taken read

-- no whole head is there, some bytes can follow that make one, and the limit is not passed
pub record IsOpen (bytes : List ℕ) : Type 0 where
  pub none : HasNoRequest bytes
  pub some : CanHaveRequest bytes
  pub short : length bytes ≤ HEAD_LIMIT

-- what the front tells of the bytes
abbrev pub ReadsFront : List ℕ → Front → Type 0
ReadsFront bytes (Whole read taken body) = (head : RequestHead) × IsFrontAt bytes read taken body head
ReadsFront bytes Partial = IsOpen bytes
ReadsFront bytes (Refused why) = IsRefusedAs bytes why

-- a whole head is there, and is judged
abbrev pub Judges : List ℕ → Front → Type 0
Judges bytes (Whole read taken body) = (head : RequestHead) × IsFrontAt bytes read taken body head
Judges bytes Partial = ⊥
Judges bytes (Refused why) = HasRefusedHead bytes why
