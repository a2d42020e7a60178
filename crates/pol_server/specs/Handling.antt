-- One message handled: what came of its command, and of the action on objects that it allows.
use Rattle.std.specs.Prelude.{◌≡◌, ◌≢◌, ◌<◌, ◌≤◌, ◌+◌, ◌-◌, ◌^◌, ◌⊎◌, ⊤, ℕ, Vec, Bool, true, false, List, [], ◌∷◌, Option, Some, None, IfSome}
use Rattle.pol_http.specs.Answer.{answer_text}
use Rattle.pol_http.specs.Message.{Message}
use Rattle.pol_http.specs.declared.answer.TheConstants.{INSUFFICIENT_STORAGE}
use Rattle.pol_commands.specs.declared.command.Command.{Command}
use Rattle.pol_commands.specs.declared.reply.Reply.{Reply}
use Rattle.pol_objects.specs.declared.action.ObjectAction.{ObjectAction}
use Rattle.pol_objects.specs.declared.reply.ObjectReply.{ObjectReply}
use Rattle.pol_object_answers.specs.ObjectAnswers.{object_answer_of}
use Rattle.pol_object_store.specs.declared.acted.Acted.{Acted}
use Rattle.pol_object_store.specs.declared.acted.Acted.TheVariants as acted
use Rattle.pol_answers.specs.Texts.{answer_of, refusal_answer}
use Rattle.pol_records.specs.declared.unwritten.Unwritten.{Unwritten}
use Rattle.pol_records.specs.declared.unwritten.Unwritten.TheVariants.{JournalFull, Unknown, DiskFault}
use Rattle.pol_requests.specs.declared.refused.Unplanned.{Unplanned}
use Rattle.pol_requests.specs.declared.refused.Unplanned.TheVariants as unplanned
use Rattle.pol_routes.specs.declared.verb.Verb.{Verb}
use Rattle.pol_object_store.specs.ObjectRecords.{object_end_with}
use Rattle.pol_shared_objects.specs.KeptStepped.{Stepped}
use Rattle.pol_shared_objects.specs.KeptStepped.TheVariants as stepped
use Rattle.pol_shared_objects.specs.Accessed.{IsAllowedIn, access_allowed}
use Rattle.pol_shared_objects.specs.Permits.{Permitted}
use Rattle.pol_shared_objects.specs.Seen.{HasSeen, Seen}
use Rattle.pol_shared_objects.specs.Stepped.{IsDoneIn, IsFullIn, IsJournalFullIn, IsMarkedIn, IsUnknownIn}
use Rattle.pol_shared_objects.specs.Acted.{IsActedIn, IsObjectJournalFullIn, IsObjectMarkedIn}
use Rattle.pol_shared_objects.specs.SeenObjects.{HasSeenObjects, SeenObjects}
use Rattle.pol_wire.specs.Streams.{IsShifted}
use Rattle.pol_server.specs.Actions.{action_by, tells_change}
use Rattle.pol_server.specs.Both.{HasSeenBoth, SeenBoth}
use Rattle.pol_server.specs.Ends.{Ends}
use Rattle.pol_server.specs.Turn.{AreMarked, AreOrdered, IsAnswered, Turn, failed_in, framed, place_of, unwritten_answer}
use Rattle.pol_server.specs.declared.served.Place.{Place}
use Rattle.pol_server.specs.declared.served.Place.TheVariants.{Catalogue, Object, NoEntry}

-- the bytes of an answer that was made, or of the one that needs no memory
abbrev pub text_by : Option (List ℕ) → List ℕ
text_by (Some text) = text
text_by None = INSUFFICIENT_STORAGE.now

-- a message was handled
pub record Handles (old new : Ends) (before after : SeenBoth) (message : Message) (place : Place) (text : Option (List ℕ)) : Type 0 where
  pub turn : Turn
  pub message_is : turn.message ≡ message
  pub same : new ≡ record old { moments = new.moments; words = new.words; draw_faults = new.draw_faults }
  pub moments : IsShifted old.moments new.moments turn.moments
  pub words : IsShifted old.words new.words turn.words
  pub kept : old.draw_faults ≤ new.draw_faults
  pub draws : new.draw_faults < 2 ^ 64 - 1 → old.draw_faults + failed_in turn.case ≤ new.draw_faults
  pub stores : HasSeenBoth before after (place_of turn ∷ [])
  pub answered : IsAnswered after turn
  pub ordered : AreOrdered before after (turn ∷ [])
  pub marked : AreMarked before after (turn ∷ [])
  pub place_is : place ≡ place_of turn
  pub text_is : text_by text ≡ turn.answer

-- how a message is answered that has no plan: by its refusal, unless memory was wanting
abbrev pub IsUnplannedAs : Unplanned → Bool → Bool → Place → Option (List ℕ) → Type 0
IsUnplannedAs (unplanned.Refused why) close head_only place text = (place ≡ NoEntry) × IfSome text (λ bytes. bytes ≡ answer_text (framed close head_only (refusal_answer why)))
IsUnplannedAs unplanned.OutOfMemory close head_only place text = (place ≡ NoEntry) × (text ≡ None)

-- the text of a reply, and more that is known of the reply
abbrev pub IsTextOf : (Reply → Type 0) → Bool → Bool → Reply → List ℕ → Type 0
IsTextOf Also close head_only reply text = Also reply × (text ≡ answer_text (framed close head_only (answer_of reply)))

-- the text of an answer that tells why a change wasn't written
abbrev pub IsUnwrittenText : Bool → Bool → Unwritten → List ℕ → Type 0
IsUnwrittenText close head_only why text = text ≡ answer_text (framed close head_only (unwritten_answer why))

-- the changes of a command weren't written
abbrev pub IsUnwrittenIn : Seen → Seen → Command → Unwritten → Type 0
IsUnwrittenIn before after command (JournalFull end wanted) = IsJournalFullIn before after command end wanted
IsUnwrittenIn before after command Unknown = IsUnknownIn before after command
IsUnwrittenIn before after command DiskFault = IsMarkedIn before after command

-- how a command that came to this is answered. That it is unknown whether its changes were written is told whatever memory
-- there is
abbrev pub IsSteppedTo : {A : Type 0} → Stepped (Vec ℕ A) → Bool → Bool → Place → Option (List ℕ) → Type 0
IsSteppedTo (stepped.Done place out) close head_only answered text = (answered ≡ Catalogue place) × (text ≡ Some out.items)
IsSteppedTo (stepped.RunFull charged charge out) close head_only answered text = (answered ≡ NoEntry) × (text ≡ Some out.items)
IsSteppedTo (stepped.JournalFull end wanted) close head_only answered text =
    (answered ≡ NoEntry) × IfSome text (IsUnwrittenText close head_only (JournalFull end wanted))
IsSteppedTo stepped.Unknown close head_only answered text =
    (answered ≡ NoEntry) × (text ≡ Some (answer_text (framed close head_only (unwritten_answer Unknown))))
IsSteppedTo stepped.DiskFault close head_only answered text =
    (answered ≡ NoEntry) × IfSome text (IsUnwrittenText close head_only DiskFault)
IsSteppedTo stepped.OutOfMemory close head_only answered text = (answered ≡ NoEntry) × (text ≡ None)

-- what came of a command: it was entered and its reply rendered; or the run was full; or its changes weren't written; or
-- memory was wanting
abbrev pub IsEntered : (Reply → Type 0) → Seen → Seen → Command → Bool → Bool → Place → Option (List ℕ) → Type 0
IsEntered Also before after command close head_only (Catalogue place) (Some text) =
    IsDoneIn (IsTextOf Also close head_only) before after command place text
IsEntered Also before after command close head_only (Catalogue place) None = ⊥
IsEntered Also before after command close head_only (Object access entry) text = ⊥
IsEntered Also before after command close head_only NoEntry (Some text) =
    ((charged : ℕ) × (charge : ℕ) × IsFullIn (IsTextOf Also close head_only) before after command charged charge text)
    ⊎ ((why : Unwritten) × IsUnwrittenIn before after command why × IsUnwrittenText close head_only why text)
IsEntered Also before after command close head_only NoEntry None = HasSeen before after []

-- a reply that doesn't allow an access
abbrev pub IsOther : Reply → Type 0
IsOther reply = reply ≢ access_allowed

-- the answer to an action that was done: the text of its reply, or none where that tells no change and memory was wanting
abbrev pub IsTold : Bool → Bool → ObjectReply → Option (List ℕ) → Type 0
IsTold close head_only reply (Some text) = text ≡ answer_text (framed close head_only (object_answer_of reply))
IsTold close head_only reply None = tells_change reply ≡ false

-- an action that came to this only looked at the objects
abbrev pub OnlyLooks : Acted → Type 0
OnlyLooks (acted.Done entry reply) = tells_change reply ≡ false
OnlyLooks (acted.JournalFull end wanted) = ⊥
OnlyLooks acted.Unknown = ⊥
OnlyLooks acted.DiskFault = ⊥
OnlyLooks acted.OutOfMemory = ⊤

-- a text that is ready is that of the reply, where an action that came to this has changed the objects
abbrev pub IsReadyFor : Acted → Bool → Bool → List ℕ → Type 0
IsReadyFor (acted.Done entry reply) close head_only ready = tells_change reply ≡ true → ready ≡ answer_text (framed close head_only (object_answer_of reply))
IsReadyFor (acted.JournalFull end wanted) close head_only ready = ⊤
IsReadyFor acted.Unknown close head_only ready = ⊤
IsReadyFor acted.DiskFault close head_only ready = ⊤
IsReadyFor acted.OutOfMemory close head_only ready = ⊤

-- how an action that came to this, and that an access at this place allowed, is answered. That it is unknown whether a
-- change was written is told whatever memory there is
abbrev pub IsAnsweredBy : Acted → ℕ → Bool → Bool → Place → Option (List ℕ) → Type 0
IsAnsweredBy (acted.Done entry reply) access close head_only place text = (place ≡ Object access entry) × IsTold close head_only reply text
IsAnsweredBy (acted.JournalFull end wanted) access close head_only place text =
    (place ≡ Catalogue access) × IfSome text (IsUnwrittenText close head_only (JournalFull end wanted))
IsAnsweredBy acted.Unknown access close head_only place text =
    (place ≡ Catalogue access) × (text ≡ Some (answer_text (framed close head_only (unwritten_answer Unknown))))
IsAnsweredBy acted.DiskFault access close head_only place text =
    (place ≡ Catalogue access) × IfSome text (IsUnwrittenText close head_only DiskFault)
IsAnsweredBy acted.OutOfMemory access close head_only place text = (place ≡ Catalogue access) × (text ≡ None)

-- the change of an action wasn't written
abbrev pub IsUnstoredIn : SeenObjects → SeenObjects → ObjectAction → Unwritten → Type 0
IsUnstoredIn before after action (JournalFull end wanted) = IsObjectJournalFullIn before after action end wanted
IsUnstoredIn before after action Unknown =
    IsObjectMarkedIn before after action × (object_end_with after.opened after.base after.front action ≤ 2 ^ 40)
IsUnstoredIn before after action DiskFault = IsObjectMarkedIn before after action

-- what came of an action that an access allowed: it was done; or its change wasn't written; or memory was wanting
abbrev pub HasActed : SeenObjects → SeenObjects → ℕ → ObjectAction → Bool → Bool → Place → Option (List ℕ) → Type 0
HasActed before after access action close head_only (Catalogue place) (Some text) =
    (place ≡ access) × (why : Unwritten) × IsUnstoredIn before after action why × IsUnwrittenText close head_only why text
HasActed before after access action close head_only (Catalogue place) None = (place ≡ access) × HasSeenObjects before after []
HasActed before after access action close head_only (Object named entry) text =
    (named ≡ access) × (reply : ObjectReply) × IsActedIn before after access action entry reply × IsTold close head_only reply text
HasActed before after access action close head_only NoEntry text = ⊥

-- what came of a request for objects: its access wasn't allowed, or it was and its action was tried
abbrev pub HasAccessed : SeenBoth → SeenBoth → Command → Verb → List ℕ → Bool → Bool → Place → Option (List ℕ) → Type 0
HasAccessed before after command verb body close head_only place text =
    (IsEntered IsOther before.catalogue after.catalogue command close head_only place text × (after.objects ≡ before.objects))
    ⊎ ((permit : Permitted) × IsAllowedIn before.catalogue after.catalogue command permit
    × HasActed before.objects after.objects permit.place (action_by verb permit.path body) close head_only place text)
