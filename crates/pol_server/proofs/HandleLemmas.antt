-- One message: what was read for it, and how it was answered.
use Rattle.std.proofs.Common.{◌≡◌, ◌≢◌, ◌<◌, ◌≤◌, ◌+◌, ◌-◌, ◌^◌, ◌⊎◌, ℕ, Bool, List, [], ◌∷◌, ◌++◌, length, take, Option, Some, None, Result, Ok, Err, Vec, Global, refl, sym, ap, subst, ◌∙◌, inl, inr, arith, length-append}
use Rattle.std.specs.Prelude.{⊤, IfOk, IfSome, slice_get}
use Rattle.std.specs.Option.{option_map}
use Rattle.std.specs.Result.{result_ok}
use Rattle.std.proofs.Math.Seq.{get_or-append_seam, take-append_seam, take-length}
use Rattle.std.proofs.lemmas.Option.{slice_get-get_or}
use Rattle.pol_http.specs.Answer.{answer_text}
use Rattle.pol_http.specs.Head.{closes}
use Rattle.pol_http.specs.Message.{Message}
use Rattle.pol_http.specs.declared.answer.Answer.{Answer}
use Rattle.pol_http.specs.declared.answer.TheConstants.{INSUFFICIENT_STORAGE}
use Rattle.pol_shared_objects.specs.Machine.{reply_of}
use Rattle.pol_commands.specs.declared.command.Command.{Command}
use Rattle.pol_commands.specs.declared.command.Words4.{Words4}
use Rattle.pol_commands.specs.declared.reply.Refusal.TheVariants as refusal
use Rattle.pol_commands.specs.declared.reply.Reply.{Reply}
use Rattle.pol_commands.specs.declared.reply.Reply.TheVariants.{Refused}
use Rattle.pol_records.specs.declared.unwritten.Unwritten.{Unwritten}
use Rattle.pol_records.specs.declared.unwritten.Unwritten.TheVariants.{JournalFull, Unknown, DiskFault}
use Rattle.pol_requests.specs.Refused.{Meets}
use Rattle.pol_requests.specs.declared.refused.RouteRefused.{RouteRefused}
use Rattle.pol_requests.specs.declared.refused.Unplanned.{Unplanned}
use Rattle.pol_requests.specs.declared.refused.Unplanned.TheVariants as plan
use Rattle.pol_answers.specs.Texts.{answer_of, draw_fault_answer, refusal_answer}
use Rattle.pol_routes.specs.Plan.{command_of, plan_of}
use Rattle.pol_routes.specs.Verbs.{AsksFor}
use Rattle.pol_routes.specs.declared.plans.Planned.{Planned}
use Rattle.pol_routes.specs.declared.verb.Verb.{Verb}
use Rattle.pol_shared_objects.specs.Accessed.{access_allowed}
use Rattle.pol_tokens.specs.declared.token.Act.{Act}
use Rattle.pol_shared_objects.specs.History.{changes_of, end_after, end_with, state_at}
use Rattle.pol_shared_objects.specs.Seen.{HasSeen, Seen, entry_number}
use Rattle.pol_shared_objects.specs.Stepped.{HasSpace}
use Rattle.pol_shared_objects.specs.Entry.{Entry}
use Rattle.pol_shared_objects.proofs.SeenLemmas.{seen-push, seen-same, seen-trans}
use Rattle.pol_shared_objects.specs.SeenObjects.{HasSeenObjects, SeenObjects, object_entry_number}
use Rattle.pol_wire.proofs.StreamsLemmas.{IsShifted-nil}
use Rattle.pol_wire.specs.Streams.{IsShifted}
use Rattle.pol_server.specs.Ends.{Ends, Reads}
use Rattle.pol_server.specs.Calls.{DrawsWords}
use Rattle.pol_server.specs.Handling.{Handles, IsEntered, IsUnplannedAs, IsUnwrittenIn, text_by}
use Rattle.pol_server.specs.Both.{HasSeenBoth, SeenBoth}
use Rattle.pol_server.specs.Turn.{AreMarked, AreOrdered, Case, IsAnswered, IsEnteredAt, IsFullAs, Turn, failed_in, four_words, framed, full, is_head, marks_by, place_by, stepped, text_of, undrawn, unplanned, unwritten, unwritten_answer, without_memory}
use Rattle.pol_server.specs.declared.served.Place.{Place}
use Rattle.pol_server.specs.declared.served.Place.TheVariants.{Catalogue, Object, NoEntry}
use Rattle.pol_server.proofs.BothLemmas.{seen-longer}

-- what holds of the bytes of a result holds of those that it keeps
pub kept-text : {E : Type 0} (message : Message) (answer : Answer) (close head_only : Bool) (result : Result (Vec ℕ Global) E) → close ≡ closes message.head → head_only ≡ is_head message
    → IfOk result (λ bytes. bytes.items ≡ answer_text (framed close head_only answer)) → IfSome (option_map (λ bytes. bytes.items) (result_ok result)) (λ bytes. bytes ≡ text_of message answer)
kept-text message answer close head_only (Ok bytes) closing heading is =
    is ∙ ap (λ close. answer_text (framed close head_only answer)) closing ∙ ap (λ head_only. answer_text (framed (closes message.head) head_only answer)) heading
kept-text message answer close head_only (Err error) closing heading is = tt

-- a text that was made, or the one that needs no memory
made-or-not : (text : Option (List ℕ)) (bytes : List ℕ) → IfSome text (λ made. made ≡ bytes) → (text_by text ≡ bytes) ⊎ (text_by text ≡ INSUFFICIENT_STORAGE.now)
made-or-not None bytes is = inr refl
made-or-not (Some made) bytes is = inl is

-- the moment of a plan's command
moment-command : (planned : Planned) (moment : ℕ) (words : Words4) → (command_of planned moment words).moment ≡ moment
unfolding command_of
moment-command planned moment words = refl

pub action-command : (planned : Planned) (moment : ℕ) (words : Words4) → (command_of planned moment words).action ≡ planned.action
unfolding command_of
action-command planned moment words = refl

charge-command : (planned : Planned) (moment : ℕ) (words : Words4) → (command_of planned moment words).charge ≡ planned.charge
unfolding command_of
charge-command planned moment words = refl

-- a command that is a plan's, of these words
module _ (planned : Planned) (moment : ℕ) (four : Words4) (command : Command) (is : command ≡ command_of planned moment four) where
  pub moment-within : moment ≤ 2 ^ 62 → command.moment ≤ 2 ^ 62
  moment-within within = omega (arith, within, ap (λ command. command.moment) is, moment-command planned moment four)

  pub asks-command : (act : Act) → AsksFor act planned.action → AsksFor act command.action
  asks-command act asks = (asks.0, ap (λ command. command.action) is ∙ action-command planned moment four ∙ asks.1)

  pub command-by : (words : List ℕ) → four ≡ four_words words → command ≡ command_of planned moment (four_words words)
  command-by words four_is = is ∙ ap (command_of planned moment) four_is

-- no access is asked for where there is no verb
pub no-verb : (asked : Option Verb) → asked ≡ None → (reply : Reply) → ⊤ → (verb : Verb) → asked ≡ Some verb → reply ≢ access_allowed
no-verb None is reply also verb some told = cc
no-verb (Some other) is reply also verb some told = cc

-- nothing was entered
pub seen-nowhere : (before after : SeenBoth) → HasSeen before.catalogue after.catalogue [] → HasSeenObjects before.objects after.objects [] → HasSeenBoth before after (NoEntry ∷ [])
seen-nowhere before after catalogue objects = record { catalogue = catalogue; objects = objects }

quiet : (seen : SeenBoth) → HasSeenBoth seen seen (NoEntry ∷ [])
quiet seen = seen-nowhere seen seen (seen-same entry_number seen.catalogue) (seen-same object_entry_number seen.objects)

module _ (ends : Ends) (seen : SeenBoth) (message : Message) where
  -- memory was wanting before the clock was read
  pub handles-nothing : Handles ends ends seen seen message NoEntry None
  handles-nothing = record {
    turn = record { message = message; moments = []; words = []; case = without_memory; answer = INSUFFICIENT_STORAGE.now };
    message_is = refl;
    same = refl;
    moments = IsShifted-nil ends.moments;
    words = IsShifted-nil ends.words;
    kept = omega arith;
    draws = λ below. omega arith;
    stores = quiet seen;
    answered = record { reads = inl (refl, refl); answer = refl };
    ordered = record { catalogue = (tt, omega arith); objects = (tt, omega arith) };
    marked = record { catalogue = omega arith; objects = omega arith };
    place_is = refl;
    text_is = refl;
  }

  -- the plan was refused
  pub handles-refused : (why : RouteRefused) (text : Option (List ℕ)) → plan_of message ≡ Err why → IfSome text (λ bytes. bytes ≡ text_of message (refusal_answer why)) → Handles ends ends seen seen message NoEntry text
  handles-refused why None refused text_is = handles-nothing
  handles-refused why (Some bytes) refused text_is = record {
    turn = record { message = message; moments = []; words = []; case = unplanned; answer = bytes };
    message_is = refl;
    same = refl;
    moments = IsShifted-nil ends.moments;
    words = IsShifted-nil ends.words;
    kept = omega arith;
    draws = λ below. omega arith;
    stores = quiet seen;
    answered = record { why = why; refused = refused; moments = refl; words = refl; answer = text_is };
    ordered = record { catalogue = (tt, omega arith); objects = (tt, omega arith) };
    marked = record { catalogue = omega arith; objects = omega arith };
    place_is = refl;
    text_is = refl;
  }

  -- there is no plan
  framed-some : (close head_only : Bool) (answer : Answer) (text : Option (List ℕ)) → close ≡ closes message.head → head_only ≡ is_head message
      → IfSome text (λ bytes. bytes ≡ answer_text (framed close head_only answer)) → IfSome text (λ bytes. bytes ≡ text_of message answer)
  framed-some close head_only answer None closing heading is = tt
  framed-some close head_only answer (Some bytes) closing heading is =
      is ∙ ap (λ close. answer_text (framed close head_only answer)) closing ∙ ap (λ head_only. answer_text (framed (closes message.head) head_only answer)) heading

  pub handles-unplanned : (why : Unplanned) (close head_only : Bool) (place : Place) (text : Option (List ℕ)) → Meets (plan_of message) (Err why) → close ≡ closes message.head → head_only ≡ is_head message
      → IsUnplannedAs why close head_only place text → Handles ends ends seen seen message place text
  handles-unplanned (plan.Refused why) close head_only place text refused closing heading is =
      subst (λ place. Handles ends ends seen seen message place text) (sym is.0) (handles-refused why text refused (framed-some close head_only (refusal_answer why) text closing heading is.1))
  handles-unplanned plan.OutOfMemory close head_only place text refused closing heading is =
      subst (λ place. Handles ends ends seen seen message place text) (sym is.0) (subst (λ text. Handles ends ends seen seen message NoEntry text) (sym is.1) handles-nothing)

-- reading the clock leaves the draw
pub reads-draws : (old now : Ends) (moment : ℕ) → Reads old now moment → now.draw_faults ≡ old.draw_faults
reads-draws old now moment reads = ap (λ ends. ends.draw_faults) reads.same

-- the clock was read, and words were drawn
pub record IsReadFor (old new : Ends) (moment : ℕ) (words : List ℕ) : Type 0 where
  pub same : new ≡ record old { moments = new.moments; words = new.words; draw_faults = new.draw_faults }
  pub moments : IsShifted old.moments new.moments (moment ∷ [])
  pub words_are : IsShifted old.words new.words words
  pub kept : old.draw_faults ≤ new.draw_faults

module _ (old now new : Ends) (moment : ℕ) where
  abbrev as_read : Ends → Ends
  as_read ends = record ends { moments = new.moments; words = new.words; draw_faults = new.draw_faults }

  abbrev as_of : Option (ℕ → ℕ) → Ends
  as_of moments = record now { moments = moments; words = new.words; draw_faults = new.draw_faults }

  pub read-for : {E : Type 0} (count : ℕ) (result : Result Words4 E) → Reads old now moment → (draws : DrawsWords now new count result) → IsReadFor old new moment draws.words
  read-for count result reads draws = record {
    same = same-both reads.same draws.same;
    moments = subst (λ moments. IsShifted old.moments moments (moment ∷ [])) (sym (ap (λ ends. ends.moments) draws.same)) reads.shifted;
    words_are = subst (λ words. IsShifted words new.words draws.words) (ap (λ ends. ends.words) reads.same) draws.shifted;
    kept = omega (arith, draws.kept, ap (λ ends. ends.draw_faults) reads.same);
  }
    where
      same-both : now ≡ record old { moments = now.moments } → new ≡ record now { words = new.words; draw_faults = new.draw_faults }
          → new ≡ record old { moments = new.moments; words = new.words; draw_faults = new.draw_faults }
      same-both first second = second ∙ sym (ap as_of (ap (λ ends. ends.moments) second)) ∙ ap as_read first

module _ (old new : Ends) (seen : SeenBoth) (message : Message) (plan : Planned) (moment : ℕ) (words : List ℕ) (planned : plan_of message ≡ Ok plan) (read : IsReadFor old new moment words) where
  -- the message's turn, by how it was answered
  abbrev pub turn-as : Case → List ℕ → Turn
  turn-as case answer = record { message = message; moments = moment ∷ []; words = words; case = case; answer = answer }

  -- a message for which no draw failed
  pub handles-as : (after : SeenBoth) (case : Case) (answer : List ℕ) (text : Option (List ℕ)) → failed_in case ≡ 0 → text_by text ≡ answer → HasSeenBoth seen after (place_by case ∷ [])
      → IsAnswered after (turn-as case answer) → AreOrdered seen after (turn-as case answer ∷ []) → AreMarked seen after (turn-as case answer ∷ []) → Handles old new seen after message (place_by case) text
  handles-as after case answer text drawn text_is more answered ordered marked = record {
    turn = turn-as case answer;
    message_is = refl;
    same = read.same;
    moments = read.moments;
    words = read.words_are;
    kept = read.kept;
    draws = λ below. omega (arith, read.kept, drawn);
    stores = more;
    answered = answered;
    ordered = ordered;
    marked = marked;
    place_is = refl;
    text_is = text_is;
  }

  -- a draw failed
  pub handles-undrawn : (text : Option (List ℕ)) → length words < plan.words → (new.draw_faults < 2 ^ 64 - 1 → old.draw_faults + 1 ≤ new.draw_faults)
      → IfSome text (λ bytes. bytes ≡ text_of message draw_fault_answer) → Handles old new seen seen message NoEntry text
  handles-undrawn text few draws text_is = record {
    turn = turn-as undrawn (text_by text);
    message_is = refl;
    same = read.same;
    moments = read.moments;
    words = read.words_are;
    kept = read.kept;
    draws = draws;
    stores = quiet seen;
    answered = record { plan = plan; planned = planned; moments = refl; words = few; answer = made-or-not text _ text_is };
    ordered = record { catalogue = (tt, omega arith); objects = (tt, omega arith) };
    marked = record { catalogue = omega arith; objects = omega arith };
    place_is = refl;
    text_is = refl;
  }

  module _ (drawn : length words ≡ plan.words) where
    abbrev pub command : Command
    command = command_of plan moment (four_words words)

    abbrev pub entry : Entry
    entry = record { number = seen.catalogue.number; command = command }

    -- the catalogue with the command behind what was seen of it then
    abbrev pub with-entry : List Entry → Seen
    with-entry front = record seen.catalogue { front = front ++ entry ∷ [] }

    pub there : (front : List Entry) → slice_get (front ++ entry ∷ []) (length front) ≡ Some entry
    there front =
        let within : length front < length (front ++ entry ∷ []) = omega (arith, length-append front (entry ∷ [])) in
        slice_get-get_or (front ++ entry ∷ []) (length front) entry within
        ∙ ap (λ found. Some found) (get_or-append_seam front entry [] entry)

    pub reply-there : (front : List Entry) → reply_of (state_at seen.catalogue.base (take (length front) (front ++ entry ∷ []))) command ≡ reply_of (state_at seen.catalogue.base front) command
    reply-there front = ap (λ front. reply_of (state_at seen.catalogue.base front) command) (take-append_seam front (entry ∷ []))

    pub room-there : (front : List Entry) → (state_at seen.catalogue.base front).charged + command.charge ≤ 2 ^ 30
        → (state_at seen.catalogue.base (take (length front) (front ++ entry ∷ []))).charged + plan.charge ≤ 2 ^ 30
    room-there front room =
        subst (λ front. (state_at seen.catalogue.base front).charged + plan.charge ≤ 2 ^ 30) (sym (take-append_seam front (entry ∷ [])))
        (subst (λ charge. (state_at seen.catalogue.base front).charged + charge ≤ 2 ^ 30) (charge-command plan moment (four_words words)) room)

    pub space-there : (front : List Entry) → HasSpace seen.catalogue front command → HasSpace (with-entry front) (take (length front) (front ++ entry ∷ [])) command
    space-there front space = subst (λ front. HasSpace seen.catalogue front command) (sym (take-append_seam front (entry ∷ []))) space

    -- the command was entered behind what was seen then
    abbrev pub entered-at : (objects : SeenObjects) (front : List Entry) (case : Case) (answer : List ℕ) → (state_at seen.catalogue.base front).charged + command.charge ≤ 2 ^ 30 → HasSpace seen.catalogue front command
        → IsEnteredAt (record { catalogue = with-entry front; objects = objects }) (turn-as case answer) (length front)
    entered-at objects front case answer room space = record {
      plan = plan;
      moment = moment;
      entry = entry;
      read = record { planned = planned; moments = refl; words = drawn };
      entry_is = refl;
      there = there front;
      has_room = room-there front room;
      has_space = space-there front space;
    }

    pub seen-entry : (front : List Entry) → HasSeen seen.catalogue (record seen.catalogue { front = front }) [] → HasSeen seen.catalogue (with-entry front) (length front ∷ [])
    seen-entry front more =
        seen-trans entry_number seen.catalogue (record seen.catalogue { front = front }) (with-entry front) [] (length front ∷ []) more
        (seen-push entry_number (record seen.catalogue { front = front }) entry refl)

    -- and so it is in order behind what was seen before
    pub entry-low : (front : List Entry) → HasSeen seen.catalogue (record seen.catalogue { front = front }) [] → length seen.catalogue.front ≤ length front
    entry-low front more = seen-longer entry_number seen.catalogue (record seen.catalogue { front = front }) [] more

    pub entry-high : (front : List Entry) → length front + 1 ≤ length (front ++ entry ∷ [])
    entry-high front = omega (arith, length-append front (entry ∷ []))

    -- memory was wanting
    wanting : (after : SeenBoth) → HasSeen seen.catalogue after.catalogue [] → after.objects ≡ seen.objects → Handles old new seen after message NoEntry None
    wanting after more same =
        let none : HasSeenObjects seen.objects after.objects [] = subst (λ objects. HasSeenObjects seen.objects objects []) (sym same) (seen-same object_entry_number seen.objects) in
        handles-as after without_memory INSUFFICIENT_STORAGE.now None refl refl (seen-nowhere seen after more none)
        (record { reads = inr (plan, moment, record { planned = planned; moments = refl; words = drawn }); answer = refl })
        (record {
          catalogue = (tt, seen-longer entry_number seen.catalogue after.catalogue [] more);
          objects = (tt, seen-longer object_entry_number seen.objects after.objects [] none);
        })
        (record { catalogue = omega (arith, more.kept); objects = omega (arith, none.kept) })

    -- the command was entered, and answered by its reply
    handles-done : (front : List Entry) (bytes : List ℕ) → HasSeen seen.catalogue (record seen.catalogue { front = front }) [] → (state_at seen.catalogue.base front).charged + command.charge ≤ 2 ^ 30 → HasSpace seen.catalogue front command
        → ((verb : Verb) → plan.verb ≡ Some verb → reply_of (state_at seen.catalogue.base front) command ≢ access_allowed)
        → bytes ≡ text_of message (answer_of (reply_of (state_at seen.catalogue.base front) command)) → Handles old new seen (record seen { catalogue = with-entry front }) message (Catalogue (length front)) (Some bytes)
    handles-done front bytes more room space other text_is =
        handles-as (record seen { catalogue = with-entry front }) (stepped (length front)) bytes (Some bytes) refl refl
        (record { catalogue = seen-entry front more; objects = seen-same object_entry_number seen.objects })
        (record {
          entered = entered-at seen.objects front (stepped (length front)) bytes room space;
          other = λ verb some. subst (λ reply. reply ≢ access_allowed) (sym (reply-there front)) (other verb some);
          answer = text_is ∙ ap (λ reply. text_of message (answer_of reply)) (sym (reply-there front));
        })
        (record { catalogue = (entry-low front more, entry-high front); objects = (tt, omega arith) })
        (record { catalogue = omega arith; objects = omega arith })

    -- the run was full
    handles-full : (after : Seen) (charged : ℕ) (bytes : List ℕ) → HasSeen seen.catalogue after [] → charged ≡ (state_at after.base after.front).charged → 2 ^ 30 < charged + command.charge
        → bytes ≡ text_of message (answer_of (Refused (refusal.RunFull charged command.charge))) → Handles old new seen (record seen { catalogue = after }) message NoEntry (Some bytes)
    handles-full after charged bytes more charged_is over text_is =
        handles-as (record seen { catalogue = after }) (full (length after.front)) bytes (Some bytes) refl refl
        (record { catalogue = more; objects = seen-same object_entry_number seen.objects })
        (record {
          plan = plan;
          moment = moment;
          charged = charged;
          read = record { planned = planned; moments = refl; words = drawn };
          within = omega arith;
          charged_is = charged_is ∙ ap (λ front. (state_at after.base front).charged) (sym (take-length after.front));
          full = subst (λ charge. 2 ^ 30 < charged + charge) (charge-command plan moment (four_words words)) over;
          answer = text_is ∙ ap (λ charge. text_of message (answer_of (Refused (refusal.RunFull charged charge)))) (charge-command plan moment (four_words words));
        })
        (record { catalogue = (seen-longer entry_number seen.catalogue after [] more, omega arith); objects = (tt, omega arith) })
        (record { catalogue = omega (arith, more.kept); objects = omega arith })

    -- its changes weren't written
    handles-unwritten : (after : Seen) (why : Unwritten) (bytes : List ℕ) → HasSeen seen.catalogue after [] → changes_of (state_at after.base after.front) command ≢ []
        → IsFullAs why (end_after after.opened after.base after.front) (end_with after.opened after.base after.front command) → seen.catalogue.failed + marks_by why ≤ after.failed
        → bytes ≡ text_of message (unwritten_answer why) → Handles old new seen (record seen { catalogue = after }) message NoEntry (Some bytes)
    handles-unwritten after why bytes more some reached marks text_is =
        let all : take (length after.front) after.front ≡ after.front = take-length after.front in
        handles-as (record seen { catalogue = after }) (unwritten why (length after.front)) bytes (Some bytes) refl refl
        (record { catalogue = more; objects = seen-same object_entry_number seen.objects })
        (record {
          plan = plan;
          moment = moment;
          command = command;
          read = record { planned = planned; moments = refl; words = drawn };
          command_is = refl;
          within = omega arith;
          some = subst (λ front. changes_of (state_at after.base front) command ≢ []) (sym all) some;
          full = subst (λ front. IsFullAs why (end_after after.opened after.base front) (end_with after.opened after.base front command)) (sym all) reached;
          answer = text_is;
        })
        (record { catalogue = (seen-longer entry_number seen.catalogue after [] more, omega arith); objects = (tt, omega arith) })
        (record { catalogue = omega (arith, marks); objects = omega arith })

    handles-unwritten-by : (after : Seen) (why : Unwritten) (bytes : List ℕ) → IsUnwrittenIn seen.catalogue after command why → bytes ≡ text_of message (unwritten_answer why)
        → Handles old new seen (record seen { catalogue = after }) message NoEntry (Some bytes)
    handles-unwritten-by after (JournalFull end wanted) bytes is text_is =
        handles-unwritten after (JournalFull end wanted) bytes is.stays.seen is.some (is.end_is, is.wanted_is, is.above) (omega (arith, is.stays.seen.kept)) text_is
    handles-unwritten-by after Unknown bytes is text_is = handles-unwritten after Unknown bytes is.seen is.some is.within (omega (arith, is.marked)) text_is
    handles-unwritten-by after DiskFault bytes is text_is = handles-unwritten after DiskFault bytes is.seen is.some tt (omega (arith, is.marked)) text_is

    -- the text of a reply, framed as the message asks
    framed-as : (close head_only : Bool) (answer : Answer) (text : List ℕ) → close ≡ closes message.head → head_only ≡ is_head message → text ≡ answer_text (framed close head_only answer) → text ≡ text_of message answer
    framed-as close head_only answer text closing heading is =
        is ∙ ap (λ close. answer_text (framed close head_only answer)) closing ∙ ap (λ head_only. answer_text (framed (closes message.head) head_only answer)) heading

    -- what came of the command, where the objects stayed as they were
    pub handles-entered : (Also : Reply → Type 0) (after : SeenBoth) (close head_only : Bool) (place : Place) (text : Option (List ℕ)) → close ≡ closes message.head → head_only ≡ is_head message
        → ((reply : Reply) → Also reply → (verb : Verb) → plan.verb ≡ Some verb → reply ≢ access_allowed) → after.objects ≡ seen.objects
        → IsEntered Also seen.catalogue after.catalogue command close head_only place text → Handles old new seen after message place text
    handles-entered Also after close head_only (Catalogue place) (Some bytes) closing heading other same is =
        let text_is = framed-as close head_only (answer_of (reply_of (state_at seen.catalogue.base is.before) command)) bytes closing heading is.rendered.1 in
        let enters = is.enters in
        let after_is : after ≡ record seen { catalogue = with-entry is.before } = λ i. record { catalogue = enters i; objects = same i } in
        subst (λ place. Handles old new seen after message (Catalogue place) (Some bytes)) (sym is.place_is)
        (subst (λ after. Handles old new seen after message (Catalogue (length is.before)) (Some bytes)) (sym after_is)
        (handles-done is.before bytes is.seen is.has_room is.has_space (λ verb some. other (reply_of (state_at seen.catalogue.base is.before) command) is.rendered.0 verb some) text_is))
    handles-entered Also after close head_only (Catalogue place) None closing heading other same is = absurd is
    handles-entered Also after close head_only (Object access place) text closing heading other same is = absurd is
    handles-entered Also after close head_only NoEntry (Some bytes) closing heading other same (inl (charged, charge, is)) =
        let rendered : bytes ≡ answer_text (framed close head_only (answer_of (Refused (refusal.RunFull charged command.charge)))) =
        is.rendered.1 ∙ ap (λ charge. answer_text (framed close head_only (answer_of (Refused (refusal.RunFull charged charge))))) is.charge_is in
        let after_is : after ≡ record seen { catalogue = after.catalogue } = λ i. record { catalogue = after.catalogue; objects = same i } in
        subst (λ after. Handles old new seen after message NoEntry (Some bytes)) (sym after_is)
        (handles-full after.catalogue charged bytes is.stays.seen is.charged_is (subst (λ charge. 2 ^ 30 < charged + charge) is.charge_is is.full)
        (framed-as close head_only (answer_of (Refused (refusal.RunFull charged command.charge))) bytes closing heading rendered))
    handles-entered Also after close head_only NoEntry (Some bytes) closing heading other same (inr (why, is, told)) =
        let after_is : after ≡ record seen { catalogue = after.catalogue } = λ i. record { catalogue = after.catalogue; objects = same i } in
        subst (λ after. Handles old new seen after message NoEntry (Some bytes)) (sym after_is)
        (handles-unwritten-by after.catalogue why bytes is (framed-as close head_only (unwritten_answer why) bytes closing heading told))
    handles-entered Also after close head_only NoEntry None closing heading other same is = wanting after is same
