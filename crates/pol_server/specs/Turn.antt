-- Turns of a served link: one for each message that was handled, with what was read for it and how it was answered.
use Rattle.std.specs.Prelude.{◌≡◌, ◌≢◌, ◌<◌, ◌≤◌, ◌+◌, ◌^◌, ◌-◌, ◌⊎◌, ⊤, ℕ, min, Bool, true, false, List, [], ◌∷◌, ◌++◌, length, take, slice_get, slice_index, Some, Ok, Err, codes, if◌then◌else◌}
use Rattle.std.specs.List.{AllByRecursion}
use Rattle.std.specs.Str.{bytes_eq}
use Rattle.pol_http.specs.Answer.{answer_text}
use Rattle.pol_http.specs.Head.{asks, closes}
use Rattle.pol_http.specs.Message.{Message}
use Rattle.pol_http.specs.declared.answer.Answer.{Answer}
use Rattle.pol_http.specs.declared.answer.TheConstants.{CONTINUE, INSUFFICIENT_STORAGE}
use Rattle.pol_shared_objects.specs.Machine.{reply_of}
use Rattle.pol_commands.specs.declared.command.Action.TheVariants.{Access}
use Rattle.pol_commands.specs.declared.command.Command.{Command}
use Rattle.pol_commands.specs.declared.command.Words4.{Words4}
use Rattle.pol_commands.specs.declared.reply.Refusal.TheVariants as refusal
use Rattle.pol_commands.specs.declared.reply.Reply.{Reply}
use Rattle.pol_commands.specs.declared.reply.Reply.TheVariants.{Refused}
use Rattle.pol_requests.specs.declared.refused.RouteRefused.{RouteRefused}
use Rattle.pol_answers.specs.Texts.{answer_of, refusal_answer, draw_fault_answer}
use Rattle.pol_objects.specs.Machine.{object_reply}
use Rattle.pol_objects.specs.declared.action.ObjectAction.{ObjectAction}
use Rattle.pol_objects.specs.declared.reply.ObjectReply.{ObjectReply}
use Rattle.pol_object_answers.specs.ObjectAnswers.{object_answer_of}
use Rattle.pol_object_store.specs.ObjectHistory.{object_state_at}
use Rattle.pol_object_store.specs.ObjectRecords.{object_changes, object_end_after, object_end_with}
use Rattle.pol_json_answers.specs.JsonAnswers.{error_answer}
use Rattle.pol_records.specs.declared.unwritten.Unwritten.{Unwritten}
use Rattle.pol_records.specs.declared.unwritten.Unwritten.TheVariants.{JournalFull, Unknown, DiskFault}
use Rattle.pol_routes.specs.Plan.{plan_of, command_of}
use Rattle.pol_routes.specs.Verbs.{verb_act}
use Rattle.pol_routes.specs.declared.plans.Planned.{Planned}
use Rattle.pol_routes.specs.declared.verb.Verb.{Verb}
use Rattle.pol_shared_objects.specs.Accessed.{access_allowed}
use Rattle.pol_shared_objects.specs.Stepped.{HasSpace}
use Rattle.pol_shared_objects.specs.Acted.{HasObjectSpace}
use Rattle.pol_shared_objects.specs.History.{changes_of, end_after, end_with, state_at}
use Rattle.pol_shared_objects.specs.Entry.{Entry}
use Rattle.pol_server.specs.Actions.{action_by, tells_change}
use Rattle.pol_server.specs.declared.served.Place.{Place}
use Rattle.pol_server.specs.declared.served.Place.TheVariants.{Catalogue, Object, NoEntry}
use Rattle.pol_server.specs.Both.{SeenBoth}

-- how a message was answered
pub data Case : Type 0 where
  -- its plan was refused
  unplanned : Case
  -- a word for it could not be drawn
  undrawn : Case
  -- by the reply at this place of the catalogue's history
  stepped : ℕ → Case
  -- the run was full after so many entries of it
  full : ℕ → Case
  -- after so many entries of it the command has changes, which for this reason weren't written
  unwritten : Unwritten → ℕ → Case
  -- an access at the first place, of the catalogue's history, was allowed: by the reply to the action at the second place,
  -- of the objects' history
  acted : ℕ → ℕ → Case
  -- the same, and memory was wanting for the answer
  untold : ℕ → ℕ → Case
  -- the access at this place was allowed, and memory was wanting for the action, which wasn't entered
  unacted : ℕ → Case
  -- the access at the first place was allowed, and after so many entries of the objects' history the action makes a
  -- change, which for this reason wasn't written
  unstored : Unwritten → ℕ → ℕ → Case
  -- memory was wanting, and nothing was entered
  without_memory : Case

-- a message with the moments and words that were read for it, how it was answered, and the bytes of its answer
pub record Turn : Type 0 where
  pub message : Message
  pub moments : List ℕ
  pub words : List ℕ
  pub case : Case
  pub answer : List ℕ

-- the request is a HEAD request (RFC 9110, section 9.3.2)
abbrev pub is_head : Message → Bool
is_head message = bytes_eq message.head.method (codes "HEAD")

-- an answer after which the connection ends or not, to a HEAD request or another
abbrev pub framed : Bool → Bool → Answer → Answer
framed close head_only answer = record answer { close = close; head_only = head_only }

-- the bytes of an answer to a message
abbrev pub text_of : Message → Answer → List ℕ
text_of message answer = answer_text (framed (closes message.head) (is_head message) answer)

-- four words of those that were drawn, with 0 for each that was not
abbrev pub four_words : List ℕ → Words4
four_words words = record { a = slice_index words 0; b = slice_index words 1; c = slice_index words 2; d = slice_index words 3 }

-- the plan of the message is refused
pub record IsUnplanned (turn : Turn) : Type 0 where
  pub why : RouteRefused
  pub refused : plan_of turn.message ≡ Err why
  pub moments : turn.moments ≡ []
  pub words : turn.words ≡ []
  pub answer : turn.answer ≡ text_of turn.message (refusal_answer why)

-- one moment was read, and then fewer words than the plan asks for, since a draw failed; the answer says so, unless memory
-- was wanting for it
pub record IsUndrawn (turn : Turn) : Type 0 where
  pub plan : Planned
  pub planned : plan_of turn.message ≡ Ok plan
  pub moments : length turn.moments ≡ 1
  pub words : length turn.words < plan.words
  pub answer : (turn.answer ≡ text_of turn.message draw_fault_answer) ⊎ (turn.answer ≡ INSUFFICIENT_STORAGE.now)

-- the message's plan, with the moment and the words that were read for its command
pub record IsRead (turn : Turn) (plan : Planned) (moment : ℕ) : Type 0 where
  pub planned : plan_of turn.message ≡ Ok plan
  pub moments : turn.moments ≡ moment ∷ []
  pub words : length turn.words ≡ plan.words

-- what was read is nothing, or one moment and the words that the plan asks for
pub record IsWithoutMemory (turn : Turn) : Type 0 where
  pub reads : ((turn.moments ≡ []) × (turn.words ≡ []))
      ⊎ ((plan : Planned) × (moment : ℕ) × IsRead turn plan moment)
  pub answer : turn.answer ≡ INSUFFICIENT_STORAGE.now

-- the answer to a request whose change wasn't written. Where the disk failed while it was written, whether it is there is
-- unknown (Iceberg REST OpenAPI, CommitStateUnknownException)
unfoldable pub unwritten_answer : Unwritten → Answer
unwritten_answer (JournalFull end wanted) = error_answer 503 (codes "JournalFull") (codes "ServiceUnavailableException")
unwritten_answer Unknown = error_answer 500 (codes "Unknown") (codes "CommitStateUnknownException")
unwritten_answer DiskFault = error_answer 503 (codes "DiskFault") (codes "ServiceUnavailableException")

-- a journal is full where it ends here and with the change would reach beyond its bound, and what was to be written is
-- unknown only where it would not; a disk may fail at any change
abbrev pub IsFullAs : Unwritten → ℕ → ℕ → Type 0
IsFullAs (JournalFull end wanted) now reached = (end ≡ now) × (wanted ≡ min reached (2 ^ 64 - 1)) × (2 ^ 40 < reached)
IsFullAs Unknown now reached = reached ≤ 2 ^ 40
IsFullAs DiskFault now reached = ⊤

-- the pass of the catalogue and that of the objects, with what they have seen
module _ (seen : SeenBoth) where
  -- the reply to a command at a place of the catalogue's history
  abbrev pub reply_at : ℕ → Command → Reply
  reply_at place command = reply_of (state_at seen.catalogue.base (take place seen.catalogue.front)) command

  -- the command of a turn's plan stands at this place of the catalogue's history, and the run wasn't full there
  pub record IsEnteredAt (turn : Turn) (place : ℕ) : Type 0 where
    pub plan : Planned
    pub moment : ℕ
    pub entry : Entry
    pub read : IsRead turn plan moment
    pub entry_is : entry ≡ record { number = seen.catalogue.number; command = command_of plan moment (four_words turn.words) }
    pub there : slice_get seen.catalogue.front place ≡ Some entry
    pub has_room : (state_at seen.catalogue.base (take place seen.catalogue.front)).charged + plan.charge ≤ 2 ^ 30
    pub has_space : HasSpace seen.catalogue (take place seen.catalogue.front) entry.command

  -- the answer is the reply to the command at its place, which allows no access where the request is for objects
  pub record IsStepped (turn : Turn) (place : ℕ) : Type 0 where
    pub entered : IsEnteredAt turn place
    pub other : (verb : Verb) → entered.plan.verb ≡ Some verb → reply_at place entered.entry.command ≢ access_allowed
    pub answer : turn.answer ≡ text_of turn.message (answer_of (reply_at place entered.entry.command))

  -- after so many entries the charges of the run and the message's charge are above 2^30 together
  pub record IsFullAt (turn : Turn) (count : ℕ) : Type 0 where
    pub plan : Planned
    pub moment : ℕ
    pub charged : ℕ
    pub read : IsRead turn plan moment
    pub within : count ≤ length seen.catalogue.front
    pub charged_is : charged ≡ (state_at seen.catalogue.base (take count seen.catalogue.front)).charged
    pub full : 2 ^ 30 < charged + plan.charge
    pub answer : turn.answer ≡ text_of turn.message (answer_of (Refused (refusal.RunFull charged plan.charge)))

  -- after so many entries the command has changes, which weren't written
  pub record IsUnwritten (turn : Turn) (why : Unwritten) (count : ℕ) : Type 0 where
    pub plan : Planned
    pub moment : ℕ
    pub command : Command
    pub read : IsRead turn plan moment
    pub command_is : command ≡ command_of plan moment (four_words turn.words)
    pub within : count ≤ length seen.catalogue.front
    pub some : changes_of (state_at seen.catalogue.base (take count seen.catalogue.front)) command ≢ []
    pub full : IsFullAs why (end_after seen.catalogue.opened seen.catalogue.base (take count seen.catalogue.front))
        (end_with seen.catalogue.opened seen.catalogue.base (take count seen.catalogue.front) command)
    pub answer : turn.answer ≡ text_of turn.message (unwritten_answer why)

  -- the request is for objects, and its access at this place was allowed
  pub record IsAllowedAt (turn : Turn) (access : ℕ) : Type 0 where
    pub entered : IsEnteredAt turn access
    pub verb : Verb
    pub path : List (List ℕ)
    pub verb_is : entered.plan.verb ≡ Some verb
    pub asked : entered.plan.action ≡ Access path (verb_act verb)
    pub allowed : reply_at access entered.entry.command ≡ access_allowed

  -- and its action stands at this place of the objects' history, which names that access
  pub record IsDoneAt (turn : Turn) (access entry : ℕ) : Type 0 where
    pub allowed : IsAllowedAt turn access
    pub action : ObjectAction
    pub action_is : action ≡ action_by allowed.verb allowed.path turn.message.body
    pub there : slice_get seen.objects.front entry ≡ Some (record { number = seen.objects.number; access = access; action = action })
    pub has_space : HasObjectSpace seen.objects (take entry seen.objects.front) action

  -- the reply to an action at a place of the objects' history
  abbrev pub object_reply_at : ℕ → ObjectAction → ObjectReply
  object_reply_at entry action = object_reply (object_state_at seen.objects.base (take entry seen.objects.front)) action

  -- the answer is the reply to the action at its place
  pub record IsActed (turn : Turn) (access entry : ℕ) : Type 0 where
    pub done : IsDoneAt turn access entry
    pub answer : turn.answer ≡ text_of turn.message (object_answer_of (object_reply_at entry done.action))

  -- memory was wanting for the answer, whose reply tells no change of the objects
  pub record IsUntold (turn : Turn) (access entry : ℕ) : Type 0 where
    pub done : IsDoneAt turn access entry
    pub unchanged : tells_change (object_reply_at entry done.action) ≡ false
    pub answer : turn.answer ≡ INSUFFICIENT_STORAGE.now

  -- memory was wanting for the action, and it was not entered
  pub record IsUnacted (turn : Turn) (access : ℕ) : Type 0 where
    pub allowed : IsAllowedAt turn access
    pub answer : turn.answer ≡ INSUFFICIENT_STORAGE.now

  -- after so many entries of the objects' history the action makes a change, which wasn't written
  pub record IsUnstored (turn : Turn) (why : Unwritten) (access count : ℕ) : Type 0 where
    pub allowed : IsAllowedAt turn access
    pub action : ObjectAction
    pub action_is : action ≡ action_by allowed.verb allowed.path turn.message.body
    pub within : count ≤ length seen.objects.front
    pub some : object_changes (object_state_at seen.objects.base (take count seen.objects.front)) action ≢ []
    pub full : IsFullAs why (object_end_after seen.objects.opened seen.objects.base (take count seen.objects.front))
        (object_end_with seen.objects.opened seen.objects.base (take count seen.objects.front) action)
    pub answer : turn.answer ≡ text_of turn.message (unwritten_answer why)

  -- the turn is as its case says
  abbrev pub AnsweredAs : Case → Turn → Type 0
  AnsweredAs unplanned turn = IsUnplanned turn
  AnsweredAs undrawn turn = IsUndrawn turn
  AnsweredAs (stepped place) turn = IsStepped turn place
  AnsweredAs (full count) turn = IsFullAt turn count
  AnsweredAs (unwritten why count) turn = IsUnwritten turn why count
  AnsweredAs (acted access entry) turn = IsActed turn access entry
  AnsweredAs (untold access entry) turn = IsUntold turn access entry
  AnsweredAs (unacted access) turn = IsUnacted turn access
  AnsweredAs (unstored why access count) turn = IsUnstored turn why access count
  AnsweredAs without_memory turn = IsWithoutMemory turn

  abbrev pub IsAnswered : Turn → Type 0
  IsAnswered turn = AnsweredAs turn.case turn

-- the place of a case
abbrev pub place_by : Case → Place
place_by unplanned = NoEntry
place_by undrawn = NoEntry
place_by (stepped place) = Catalogue place
place_by (full count) = NoEntry
place_by (unwritten why count) = NoEntry
place_by (acted access entry) = Object access entry
place_by (untold access entry) = Object access entry
place_by (unacted access) = Catalogue access
place_by (unstored why access count) = Catalogue access
place_by without_memory = NoEntry

abbrev pub place_of : Turn → Place
place_of turn = place_by turn.case

-- where a case stands in one history: nowhere, at the place of an entry, or behind so many entries
pub data Spot : Type 0 where
  nowhere : Spot
  entry_at : ℕ → Spot
  behind : ℕ → Spot

-- in the catalogue's history
abbrev pub catalogue_spot : Case → Spot
catalogue_spot unplanned = nowhere
catalogue_spot undrawn = nowhere
catalogue_spot (stepped place) = entry_at place
catalogue_spot (full count) = behind count
catalogue_spot (unwritten why count) = behind count
catalogue_spot (acted access entry) = entry_at access
catalogue_spot (untold access entry) = entry_at access
catalogue_spot (unacted access) = entry_at access
catalogue_spot (unstored why access count) = entry_at access
catalogue_spot without_memory = nowhere

-- in the objects' history
abbrev pub object_spot : Case → Spot
object_spot unplanned = nowhere
object_spot undrawn = nowhere
object_spot (stepped place) = nowhere
object_spot (full count) = nowhere
object_spot (unwritten why count) = nowhere
object_spot (acted access entry) = entry_at entry
object_spot (untold access entry) = entry_at entry
object_spot (unacted access) = nowhere
object_spot (unstored why access count) = behind count
object_spot without_memory = nowhere

-- the number of a spot is not below the earlier ones
abbrev pub IsFrom : ℕ → Spot → Type 0
IsFrom low nowhere = ⊤
IsFrom low (entry_at place) = low ≤ place
IsFrom low (behind count) = low ≤ count

-- what the numbers of later spots are not below
abbrev pub low_after : ℕ → Spot → ℕ
low_after low nowhere = low
low_after low (entry_at place) = place + 1
low_after low (behind count) = count

-- in one history places rise, and each number is above the earlier places and not above the later ones
abbrev pub IsOrdered : (Case → Spot) → ℕ → List Turn → ℕ → Type 0
IsOrdered spot low [] high = low ≤ high
IsOrdered spot low (turn ∷ turns) high = IsFrom low (spot turn.case) × IsOrdered spot (low_after low (spot turn.case)) turns high

-- so it is in both, behind what was seen before: accesses rise, and so do the actions that they allow
pub record AreOrdered (old new : SeenBoth) (turns : List Turn) : Type 0 where
  pub catalogue : IsOrdered catalogue_spot (length old.catalogue.front) turns (length new.catalogue.front)
  pub objects : IsOrdered object_spot (length old.objects.front) turns (length new.objects.front)

-- the text that a message is told before its body
abbrev pub told_before : Message → List ℕ
told_before message = if asks message.head then CONTINUE.now else []

-- what is written for a turn
abbrev pub output_of : Turn → List ℕ
output_of turn = told_before turn.message ++ turn.answer

-- no turn's message closes the connection
abbrev pub NoneCloses : List Turn → Type 0
NoneCloses turns = AllByRecursion (λ turn. closes turn.message.head ≡ false) turns

-- the last turn's message alone closes the connection
abbrev pub LastCloses : List Turn → Type 0
LastCloses turns =
    (front : List Turn) × (last : Turn) × (turns ≡ front ++ last ∷ []) × NoneCloses front × (closes last.message.head ≡ true)

-- the number of draws that failed
abbrev pub failed_in : Case → ℕ
failed_in unplanned = 0
failed_in undrawn = 1
failed_in (stepped place) = 0
failed_in (full count) = 0
failed_in (unwritten why count) = 0
failed_in (acted access entry) = 0
failed_in (untold access entry) = 0
failed_in (unacted access) = 0
failed_in (unstored why access count) = 0
failed_in without_memory = 0

-- and of the calls of the catalogue, and of the objects, that a disk failed
abbrev pub marks_by : Unwritten → ℕ
marks_by (JournalFull end wanted) = 0
marks_by Unknown = 1
marks_by DiskFault = 1

abbrev pub catalogue_marks_in : Case → ℕ
catalogue_marks_in unplanned = 0
catalogue_marks_in undrawn = 0
catalogue_marks_in (stepped place) = 0
catalogue_marks_in (full count) = 0
catalogue_marks_in (unwritten why count) = marks_by why
catalogue_marks_in (acted access entry) = 0
catalogue_marks_in (untold access entry) = 0
catalogue_marks_in (unacted access) = 0
catalogue_marks_in (unstored why access count) = 0
catalogue_marks_in without_memory = 0

abbrev pub object_marks_in : Case → ℕ
object_marks_in unplanned = 0
object_marks_in undrawn = 0
object_marks_in (stepped place) = 0
object_marks_in (full count) = 0
object_marks_in (unwritten why count) = 0
object_marks_in (acted access entry) = 0
object_marks_in (untold access entry) = 0
object_marks_in (unacted access) = 0
object_marks_in (unstored why access count) = marks_by why
object_marks_in without_memory = 0

-- how often something failed in turns
abbrev pub total_of : (Case → ℕ) → List Turn → ℕ
total_of count [] = 0
total_of count (turn ∷ turns) = count turn.case + total_of count turns

abbrev pub failed_draws : List Turn → ℕ
failed_draws turns = total_of failed_in turns

-- each call of these turns that a disk failed is a mark of its pass
pub record AreMarked (old new : SeenBoth) (turns : List Turn) : Type 0 where
  pub catalogue : old.catalogue.failed + total_of catalogue_marks_in turns ≤ new.catalogue.failed
  pub objects : old.objects.failed + total_of object_marks_in turns ≤ new.objects.failed
