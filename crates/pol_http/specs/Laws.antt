-- Laws of messages, refusals and fixed texts.
use Rattle.std.specs.Prelude.{◌≡◌, ℕ, List, [], ◌++◌}
use Rattle.pol_http.specs.declared.head.HeadRefused.{HeadRefused}
use Rattle.pol_http.specs.Message.{Message, print_message, IsMessage, Messages, ReadsMessage, IsRefusedAs}

-- bytes are cut into messages and a rest in one way
abbrev pub CutInOneWay : Type 0
CutInOneWay = (bytes : List ℕ) (messages others : List Message) (rest other_rest : List ℕ)
    → Messages bytes messages rest → Messages bytes others other_rest → (messages ≡ others) × (rest ≡ other_rest)

-- a message that begins with another is that message
abbrev pub BeginsNoOther : Type 0
BeginsNoOther = (message other : Message) (more : List ℕ) → IsMessage message → IsMessage other
    → print_message other ≡ print_message message ++ more → (message ≡ other) × (more ≡ [])

-- bytes are refused with one cause at most, and not where they begin with a message
abbrev pub RefusedInOneWay : Type 0
RefusedInOneWay = (bytes : List ℕ) (why : HeadRefused) → IsRefusedAs bytes why
    → ((other : HeadRefused) → IsRefusedAs bytes other → why ≡ other)
    × ((message : Message) (rest : List ℕ) → ¬ (ReadsMessage bytes message rest))

-- what is refused stays so
abbrev pub StaysRefused : Type 0
StaysRefused = (bytes more : List ℕ) (why : HeadRefused) → IsRefusedAs bytes why → IsRefusedAs (bytes ++ more) why
