-- A link while it is served: what is seen at a moment, and what went on between two moments.
use Rattle.std.specs.Prelude.{◌≡◌, ◌≢◌, ◌<◌, ◌≤◌, ◌+◌, ◌*◌, ◌-◌, ◌^◌, ◌⊎◌, ⊤, ℕ, Bool, true, List, [], ◌++◌, length, map, Option, Some, None, is_some, MatchOption, if◌then◌else◌}
use Rattle.std.specs.List.{flat_map, AllByRecursion}
use Rattle.std.specs.Io.KnownBytes.{Appends, Consumes, IsAtEnd}
use Rattle.pol_http.specs.Message.{HasAskingHead, IsMessage, print_message}
use Rattle.pol_http.specs.declared.answer.TheConstants.{CONTINUE}
use Rattle.pol_wire.specs.Faults.{Rises}
use Rattle.pol_wire.specs.Streams.{IsShifted}
use Rattle.pol_server.specs.Ends.{Ends}
use Rattle.pol_server.specs.Link.{EndsLastText, IsRefusedRest, IsRestWithoutMemory, IsUnfinishedRest, MayBeGiven}
use Rattle.pol_server.specs.Both.{HasSeenBoth, SeenBoth}
use Rattle.pol_server.specs.Turn.{AreMarked, AreOrdered, IsAnswered, LastCloses, NoneCloses, Turn, failed_draws, output_of, place_of}
use Rattle.pol_server.specs.declared.connection.Connection.{Connection}
use Rattle.pol_server.specs.declared.connection.Stop.{Stop}
use Rattle.pol_server.specs.declared.connection.Stop.TheVariants as stop
use Rattle.pol_server.specs.declared.served.Ending.{Ending}
use Rattle.pol_server.specs.declared.served.Ending.TheVariants.{Ended, Cut, Closed, ReadFault, WriteFault, Spent, NoMemory}
use Rattle.pol_server.specs.declared.served.Place.{Place}

-- what is seen while a link is served
pub record Standing : Type 0 where
  pub ends : Ends
  pub seen : SeenBoth
  pub places : List Place
  pub buffer : List ℕ
  pub budget : ℕ
  pub told : Bool

abbrev pub standing : Ends → SeenBoth → Connection → Standing
standing ends seen connection = record {
  ends = ends;
  seen = seen;
  places = connection.places.items;
  buffer = connection.buffer.items;
  budget = connection.budget;
  told = connection.told;
}

-- what was given already for the message at the front of the buffer
abbrev pub told_text : Bool → List ℕ
told_text told = if told then CONTINUE.now else []

-- where the message at the front was told to go on, its head asks for it
abbrev pub IsToldAsked : Bool → List ℕ → Type 0
IsToldAsked told buffer = told ≡ true → HasAskingHead buffer

-- from one moment to another these turns were taken, these bytes taken, and these given
pub record Goes (a b : Standing) (turns : List Turn) (taken out : List ℕ) : Type 0 where
  pub bytes : Consumes a.ends.left b.ends.left taken
  pub output : Appends a.ends.given b.ends.given out
  pub moments : IsShifted a.ends.moments b.ends.moments (flat_map (λ turn. turn.moments) turns)
  pub words : IsShifted a.ends.words b.ends.words (flat_map (λ turn. turn.words) turns)
  pub source_faults : a.ends.source_faults ≤ b.ends.source_faults
  pub sink_faults : a.ends.sink_faults ≤ b.ends.sink_faults
  pub draw_faults : a.ends.draw_faults ≤ b.ends.draw_faults
  pub draws : b.ends.draw_faults < 2 ^ 64 - 1 → a.ends.draw_faults + failed_draws turns ≤ b.ends.draw_faults
  pub stores : HasSeenBoth a.seen b.seen (map place_of turns)
  pub cut : a.buffer ++ taken ≡ flat_map (λ turn. print_message turn.message) turns ++ b.buffer
  pub places : b.places ≡ a.places ++ map place_of turns
  pub budget : b.budget + length taken ≡ a.budget
  pub whole : AllByRecursion (λ turn. IsMessage turn.message) turns
  pub answered : AllByRecursion (IsAnswered b.seen) turns
  pub ordered : AreOrdered a.seen b.seen turns
  pub marked : AreMarked a.seen b.seen turns

-- the link goes on
pub record Continues (a b : Standing) : Type 0 where
  pub turns : List Turn
  pub taken : List ℕ
  pub out : List ℕ
  pub goes : Goes a b turns taken out
  pub said : told_text a.told ++ out ≡ flat_map output_of turns ++ told_text b.told
  pub open_ : NoneCloses turns

-- how the turns and the rest stand to an ending, apart from what has caused it
abbrev pub FitsEnding : Ending → List Turn → List ℕ → List ℕ → Type 0
FitsEnding Ended turns rest text = NoneCloses turns × (rest ≡ []) × (text ≡ [])
FitsEnding Cut turns rest text = NoneCloses turns × (rest ≢ []) × IsUnfinishedRest rest text
FitsEnding Closed turns rest text = (LastCloses turns × (text ≡ [])) ⊎ (NoneCloses turns × IsRefusedRest rest text)
FitsEnding ReadFault turns rest text = NoneCloses turns × IsUnfinishedRest rest text
FitsEnding WriteFault turns rest text = ((LastCloses turns ⊎ NoneCloses turns) × (text ≡ [])) ⊎ (NoneCloses turns × MayBeGiven rest text)
FitsEnding Spent turns rest text = NoneCloses turns × IsUnfinishedRest rest text
FitsEnding NoMemory turns rest text = NoneCloses turns × IsRestWithoutMemory rest text

-- the link ended
pub record Finishes (ending : Ending) (a b : Standing) : Type 0 where
  pub turns : List Turn
  pub taken : List ℕ
  pub out : List ℕ
  pub missing : List ℕ
  pub text : List ℕ
  pub goes : Goes a b turns taken out
  pub said : told_text a.told ++ (out ++ missing) ≡ flat_map output_of turns ++ text
  pub complete : ending ≢ WriteFault → missing ≡ []
  pub left_out : EndsLastText turns text missing
  pub fits : FitsEnding ending turns b.buffer text
  pub caused : ending ≡ WriteFault → Rises a.ends.sink_faults b.ends.sink_faults

-- a text was given to the end, or the sink failed
pub record Says (old new : Ends) (text : List ℕ) (done result : Option Ending) : Type 0 where
  pub given : List ℕ
  pub missing : List ℕ
  pub same : new ≡ record old { given = new.given; sink_faults = new.sink_faults }
  pub kept : old.sink_faults ≤ new.sink_faults
  pub bytes_are : text ≡ given ++ missing
  pub gives : Appends old.given new.given given
  pub outcome : ((result ≡ done) × (missing ≡ [])) ⊎ ((result ≡ Some WriteFault) × Rises old.sink_faults new.sink_faults)

-- the link goes on, or ended
abbrev pub Moves : Option Ending → Standing → Standing → Type 0
Moves None a b = Continues a b
Moves (Some ending) a b = Finishes ending a b

-- what a stop of the source tells of the ends since a moment, and of the bytes that may still be taken: while there are
-- none, it is not asked
abbrev pub StopsBy : Stop → Ends → Ends → ℕ → Type 0
StopsBy stop.AtEnd before now budget = IsAtEnd now.left × (0 < budget)
StopsBy stop.Failed before now budget = Rises before.source_faults now.source_faults × (0 < budget)
StopsBy stop.Spent before now budget = budget ≡ 0
StopsBy stop.NoMemory before now budget = ⊤

abbrev pub IsStopped : Option Stop → Ends → Ends → ℕ → Type 0
IsStopped None before now budget = ⊤
IsStopped (Some why) before now budget = StopsBy why before now budget

-- the source was called, and gave some bytes or stopped
pub record ReadsOn (before after : Ends) (old new : Connection) : Type 0 where
  pub taken : List ℕ
  pub same : after ≡ record before { left = after.left; source_faults = after.source_faults }
  pub bytes : Consumes before.left after.left taken
  pub kept : before.source_faults ≤ after.source_faults
  pub buffer : new.buffer.items ≡ old.buffer.items ++ taken
  pub places : new.places.items ≡ old.places.items
  pub budget : new.budget + length taken ≡ old.budget
  pub told : new.told ≡ old.told
  pub goes_on : MatchOption new.stop (0 < length taken) (λ why. (taken ≡ []) × StopsBy why before after new.budget)

-- the source was not called
pub record IsUnread (before after : Ends) (old new : Connection) : Type 0 where
  pub stop : new.stop ≡ old.stop
  pub budget : new.budget ≡ old.budget
  pub left : after.left ≡ before.left
  pub source_faults : after.source_faults ≡ before.source_faults

-- the source was not called, or it had not stopped before
abbrev pub KeepsStop : Ends → Ends → Connection → Connection → Type 0
KeepsStop before after old new = IsUnread before after old new ⊎ ((old.stop ≡ None) × IsStopped new.stop before after new.budget)

-- the endings that follow from a stop
abbrev pub IsEndingOf : Option Stop → Ending → Type 0
IsEndingOf why Ended = why ≡ Some stop.AtEnd
IsEndingOf why Cut = why ≡ Some stop.AtEnd
IsEndingOf why Closed = ⊤
IsEndingOf why ReadFault = why ≡ Some stop.Failed
IsEndingOf why WriteFault = ⊤
IsEndingOf why Spent = why ≡ Some stop.Spent
IsEndingOf why NoMemory = ⊤

-- the endings that no stop of the source is needed for
abbrev pub IsOwnEnding : Ending → Type 0
IsOwnEnding Ended = ⊥
IsOwnEnding Cut = ⊥
IsOwnEnding Closed = ⊤
IsOwnEnding ReadFault = ⊥
IsOwnEnding WriteFault = ⊤
IsOwnEnding Spent = ⊥
IsOwnEnding NoMemory = ⊤

-- what there is still to do
abbrev pub work_of : Connection → ℕ
work_of connection = 2 * connection.budget + length connection.buffer.items + (if is_some connection.stop then 0 else 1)
