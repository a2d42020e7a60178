-- A request for objects: its access, and the action that this allows.
use Rattle.std.proofs.Common.{◌≡◌, ◌≢◌, ◌<◌, ◌≤◌, ◌+◌, ◌^◌, ℕ, Bool, false, List, [], ◌∷◌, ◌++◌, length, take, Option, Some, None, Ok, refl, sym, ap, subst, ◌∙◌, inl, inr, arith, length-append}
use Rattle.std.specs.Prelude.{slice_get}
use Rattle.std.proofs.Math.Seq.{get_or-append_seam, take-append_seam, take-length}
use Rattle.std.proofs.lemmas.Option.{slice_get-get_or}
use Rattle.pol_http.specs.Answer.{answer_text}
use Rattle.pol_http.specs.Head.{closes}
use Rattle.pol_http.specs.Message.{Message}
use Rattle.pol_http.specs.declared.answer.TheConstants.{INSUFFICIENT_STORAGE}
use Rattle.pol_shared_objects.specs.Machine.{reply_of}
use Rattle.pol_commands.specs.declared.command.Action.TheVariants.{Access}
use Rattle.pol_commands.specs.declared.command.Command.{Command}
use Rattle.pol_objects.specs.Machine.{object_reply}
use Rattle.pol_objects.specs.declared.action.ObjectAction.{ObjectAction}
use Rattle.pol_object_answers.specs.ObjectAnswers.{object_answer_of}
use Rattle.pol_object_store.specs.ObjectHistory.{object_state_at}
use Rattle.pol_object_store.specs.ObjectRecords.{object_changes, object_end_after, object_end_with}
use Rattle.pol_object_store.specs.declared.entry.ObjectEntry.{ObjectEntry}
use Rattle.pol_records.specs.declared.unwritten.Unwritten.{Unwritten}
use Rattle.pol_records.specs.declared.unwritten.Unwritten.TheVariants.{JournalFull, Unknown, DiskFault}
use Rattle.pol_routes.specs.Plan.{command_of, plan_of}
use Rattle.pol_routes.specs.Verbs.{AsksFor, verb_act}
use Rattle.pol_routes.specs.declared.plans.Planned.{Planned}
use Rattle.pol_routes.specs.declared.verb.Verb.{Verb}
use Rattle.pol_tokens.specs.declared.token.Act.{Act}
use Rattle.pol_shared_objects.specs.Accessed.{access_allowed}
use Rattle.pol_shared_objects.specs.History.{state_at}
use Rattle.pol_shared_objects.specs.Seen.{HasSeen, Seen}
use Rattle.pol_shared_objects.specs.Stepped.{HasSpace}
use Rattle.pol_shared_objects.specs.Entry.{Entry}
use Rattle.pol_shared_objects.proofs.SeenLemmas.{seen-push, seen-trans}
use Rattle.pol_shared_objects.specs.Acted.{HasObjectSpace}
use Rattle.pol_shared_objects.specs.SeenObjects.{HasSeenObjects, SeenObjects, object_entry_number}
use Rattle.pol_server.specs.Actions.{action_by, tells_change}
use Rattle.pol_server.specs.Ends.{Ends}
use Rattle.pol_server.specs.Handling.{Handles, HasAccessed, HasActed, IsOther, IsUnstoredIn}
use Rattle.pol_server.specs.Both.{HasSeenBoth, SeenBoth}
use Rattle.pol_server.specs.Turn.{Case, IsAllowedAt, IsDoneAt, IsFullAs, Turn, acted, four_words, framed, is_head, marks_by, text_of, unacted, unstored, untold, unwritten_answer}
use Rattle.pol_server.specs.declared.served.Place.{Place}
use Rattle.pol_server.specs.declared.served.Place.TheVariants.{Catalogue, Object, NoEntry}
use Rattle.pol_server.proofs.HandleLemmas.{IsReadFor, action-command, entered-at, entry-high, entry-low, handles-as, handles-entered, reply-there, seen-entry, turn-as, with-entry}
use Rattle.pol_server.proofs.BothLemmas.{seen-longer}

-- a path that is asked for is that of the action
access-path : (path other : List (List ℕ)) (act what : Act) → Access path act ≡ Access other what → path ≡ other
access-path path other act what is = cc

module _ (old new : Ends) (seen : SeenBoth) (message : Message) (plan : Planned) (moment : ℕ) (words : List ℕ) (planned : plan_of message ≡ Ok plan) (read : IsReadFor old new moment words) (drawn : length words ≡ plan.words)
    (verb : Verb) (verb_is : plan.verb ≡ Some verb) (asks : AsksFor (verb_act verb) plan.action) where
  abbrev asked : Command
  asked = command_of plan moment (four_words words)

  abbrev turns : Case → List ℕ → Turn
  turns = turn-as old new seen message plan moment words planned read

  abbrev catalogue-with : List Entry → Seen
  catalogue-with = with-entry old new seen message plan moment words planned read drawn

  -- the plan asks for the path of the permit
  asks-for : (path : List (List ℕ)) (act : Act) → asked.action ≡ Access path act → plan.action ≡ Access path (verb_act verb)
  asks-for path act is =
      let same : Access (asks.0) (verb_act verb) ≡ Access path act = sym asks.1 ∙ sym (action-command plan moment (four_words words)) ∙ is in
      asks.1 ∙ ap (λ path. Access path (verb_act verb)) (access-path asks.0 path (verb_act verb) act same)

  -- the access was allowed
  abbrev allowed-at : (objects : SeenObjects) (front : List Entry) (case : Case) (answer : List ℕ) (path : List (List ℕ)) → (state_at seen.catalogue.base front).charged + asked.charge ≤ 2 ^ 30 → HasSpace seen.catalogue front asked
      → plan.action ≡ Access path (verb_act verb) → reply_of (state_at seen.catalogue.base front) asked ≡ access_allowed
      → IsAllowedAt (record { catalogue = catalogue-with front; objects = objects }) (turns case answer) (length front)
  allowed-at objects front case answer path room space asks_is replied = record {
    entered = entered-at old new seen message plan moment words planned read drawn objects front case answer room space;
    verb = verb;
    path = path;
    verb_is = verb_is;
    asked = asks_is;
    allowed = reply-there old new seen message plan moment words planned read drawn front ∙ replied;
  }

  module _ (front : List Entry) (path : List (List ℕ)) (more : HasSeen seen.catalogue (record seen.catalogue { front = front }) []) (room : (state_at seen.catalogue.base front).charged + asked.charge ≤ 2 ^ 30) (space : HasSpace seen.catalogue front asked)
      (asks_is : plan.action ≡ Access path (verb_act verb)) (replied : reply_of (state_at seen.catalogue.base front) asked ≡ access_allowed) where
    seen-access : HasSeen seen.catalogue (catalogue-with front) (length front ∷ [])
    seen-access = seen-entry old new seen message plan moment words planned read drawn front more

    access-low : length seen.catalogue.front ≤ length front
    access-low = entry-low old new seen message plan moment words planned read drawn front more

    access-high : length front + 1 ≤ length (catalogue-with front).front
    access-high = entry-high old new seen message plan moment words planned read drawn front

    -- memory was wanting for the action
    handles-unacted : (objects : SeenObjects) → HasSeenObjects seen.objects objects [] → Handles old new seen (record { catalogue = catalogue-with front; objects = objects }) message (Catalogue (length front)) None
    handles-unacted objects none =
        handles-as old new seen message plan moment words planned read (record { catalogue = catalogue-with front; objects = objects }) (unacted (length front)) INSUFFICIENT_STORAGE.now None refl refl
        (record { catalogue = seen-access; objects = none })
        (record { allowed = allowed-at objects front (unacted (length front)) INSUFFICIENT_STORAGE.now path room space asks_is replied; answer = refl })
        (record { catalogue = (access-low, access-high); objects = (tt, seen-longer object_entry_number seen.objects objects [] none) })
        (record { catalogue = omega arith; objects = omega (arith, none.kept) })

    abbrev done : ObjectAction
    done = action_by verb path message.body

    -- its change wasn't written
    handles-unstored : (objects : SeenObjects) (why : Unwritten) (bytes : List ℕ) → HasSeenObjects seen.objects objects [] → object_changes (object_state_at objects.base objects.front) done ≢ []
        → IsFullAs why (object_end_after objects.opened objects.base objects.front) (object_end_with objects.opened objects.base objects.front done) → seen.objects.failed + marks_by why ≤ objects.failed
        → bytes ≡ text_of message (unwritten_answer why) → Handles old new seen (record { catalogue = catalogue-with front; objects = objects }) message (Catalogue (length front)) (Some bytes)
    handles-unstored objects why bytes none some reached marks text_is =
        let all : take (length objects.front) objects.front ≡ objects.front = take-length objects.front in
        handles-as old new seen message plan moment words planned read (record { catalogue = catalogue-with front; objects = objects }) (unstored why (length front) (length objects.front)) bytes (Some bytes) refl refl
        (record { catalogue = seen-access; objects = none })
        (record {
          allowed = allowed-at objects front (unstored why (length front) (length objects.front)) bytes path room space asks_is replied;
          action = done;
          action_is = refl;
          within = omega arith;
          some = subst (λ front. object_changes (object_state_at objects.base front) done ≢ []) (sym all) some;
          full = subst (λ front. IsFullAs why (object_end_after objects.opened objects.base front) (object_end_with objects.opened objects.base front done)) (sym all) reached;
          answer = text_is;
        })
        (record { catalogue = (access-low, access-high); objects = (seen-longer object_entry_number seen.objects objects [] none, omega arith) })
        (record { catalogue = omega arith; objects = omega (arith, marks) })

    handles-unstored-by : (objects : SeenObjects) (why : Unwritten) (bytes : List ℕ) → IsUnstoredIn seen.objects objects done why → bytes ≡ text_of message (unwritten_answer why)
        → Handles old new seen (record { catalogue = catalogue-with front; objects = objects }) message (Catalogue (length front)) (Some bytes)
    handles-unstored-by objects (JournalFull end wanted) bytes is text_is =
        handles-unstored objects (JournalFull end wanted) bytes is.stays.seen is.some (is.end_is, is.wanted_is, is.above) (omega (arith, is.stays.seen.kept)) text_is
    handles-unstored-by objects Unknown bytes is text_is = handles-unstored objects Unknown bytes is.0.seen is.0.some is.1 (omega (arith, is.0.marked)) text_is
    handles-unstored-by objects DiskFault bytes is text_is = handles-unstored objects DiskFault bytes is.seen is.some tt (omega (arith, is.marked)) text_is

    abbrev object-entry : ObjectEntry
    object-entry = record { number = seen.objects.number; access = length front; action = done }

    -- the objects with the action behind what was seen of them then
    abbrev objects-with : List ObjectEntry → SeenObjects
    objects-with before = record seen.objects { front = before ++ object-entry ∷ [] }

    abbrev both-with : List ObjectEntry → SeenBoth
    both-with before = record { catalogue = catalogue-with front; objects = objects-with before }

    object-there : (before : List ObjectEntry) → slice_get (before ++ object-entry ∷ []) (length before) ≡ Some object-entry
    object-there before =
        let within : length before < length (before ++ object-entry ∷ []) = omega (arith, length-append before (object-entry ∷ [])) in
        slice_get-get_or (before ++ object-entry ∷ []) (length before) object-entry within
        ∙ ap (λ found. Some found) (get_or-append_seam before object-entry [] object-entry)

    object-space-there : (before : List ObjectEntry) → HasObjectSpace seen.objects before done → HasObjectSpace (objects-with before) (take (length before) (before ++ object-entry ∷ [])) done
    object-space-there before fits = subst (λ front. HasObjectSpace seen.objects front done) (sym (take-append_seam before (object-entry ∷ []))) fits

    abbrev done-at : (before : List ObjectEntry) (case : Case) (answer : List ℕ) → HasObjectSpace seen.objects before done → IsDoneAt (both-with before) (turns case answer) (length front) (length before)
    done-at before case answer fits = record {
      allowed = allowed-at (objects-with before) front case answer path room space asks_is replied;
      action = done;
      action_is = refl;
      there = object-there before;
      has_space = object-space-there before fits;
    }

    module _ (before : List ObjectEntry) (earlier : HasSeenObjects seen.objects (record seen.objects { front = before }) []) (fits : HasObjectSpace seen.objects before done) where
      object-reply-there : object_reply (object_state_at seen.objects.base (take (length before) (before ++ object-entry ∷ []))) done ≡ object_reply (object_state_at seen.objects.base before) done
      object-reply-there = ap (λ front. object_reply (object_state_at seen.objects.base front) done) (take-append_seam before (object-entry ∷ []))

      seen-done : HasSeenBoth seen (both-with before) (Object (length front) (length before) ∷ [])
      seen-done = record {
        catalogue = seen-access;
        objects = seen-trans object_entry_number seen.objects (record seen.objects { front = before }) (objects-with before) [] (length before ∷ []) earlier
            (seen-push object_entry_number (record seen.objects { front = before }) object-entry refl);
      }

      object-low : length seen.objects.front ≤ length before
      object-low = seen-longer object_entry_number seen.objects (record seen.objects { front = before }) [] earlier

      object-high : length before + 1 ≤ length (before ++ object-entry ∷ [])
      object-high = omega (arith, length-append before (object-entry ∷ []))

      -- the action was done, and answered by its reply
      handles-acted : (bytes : List ℕ) → bytes ≡ text_of message (object_answer_of (object_reply (object_state_at seen.objects.base before) done))
          → Handles old new seen (both-with before) message (Object (length front) (length before)) (Some bytes)
      handles-acted bytes text_is =
          handles-as old new seen message plan moment words planned read (both-with before) (acted (length front) (length before)) bytes (Some bytes) refl refl seen-done
          (record {
            done = done-at before (acted (length front) (length before)) bytes fits;
            answer = text_is ∙ ap (λ reply. text_of message (object_answer_of reply)) (sym object-reply-there);
          })
          (record { catalogue = (access-low, access-high); objects = (object-low, object-high) })
          (record { catalogue = omega arith; objects = omega arith })

      -- memory was wanting for the answer
      handles-untold : tells_change (object_reply (object_state_at seen.objects.base before) done) ≡ false
          → Handles old new seen (both-with before) message (Object (length front) (length before)) None
      handles-untold unchanged =
          handles-as old new seen message plan moment words planned read (both-with before) (untold (length front) (length before)) INSUFFICIENT_STORAGE.now None refl refl seen-done
          (record {
            done = done-at before (untold (length front) (length before)) INSUFFICIENT_STORAGE.now fits;
            unchanged = ap tells_change object-reply-there ∙ unchanged;
            answer = refl;
          })
          (record { catalogue = (access-low, access-high); objects = (object-low, object-high) })
          (record { catalogue = omega arith; objects = omega arith })

    -- what came of the action
    handles-tried : (objects : SeenObjects) (close head_only : Bool) (place : Place) (text : Option (List ℕ)) → close ≡ closes message.head → head_only ≡ is_head message
        → HasActed seen.objects objects (length front) done close head_only place text → Handles old new seen (record { catalogue = catalogue-with front; objects = objects }) message place text
    handles-tried objects close head_only (Catalogue place) (Some bytes) closing heading (place_is, why, is, told) =
        let text_is : bytes ≡ text_of message (unwritten_answer why) =
        told ∙ ap (λ close. answer_text (framed close head_only (unwritten_answer why))) closing ∙ ap (λ head_only. answer_text (framed (closes message.head) head_only (unwritten_answer why))) heading in
        subst (λ place. Handles old new seen (record { catalogue = catalogue-with front; objects = objects }) message (Catalogue place) (Some bytes)) (sym place_is) (handles-unstored-by objects why bytes is text_is)
    handles-tried objects close head_only (Catalogue place) None closing heading is =
        subst (λ place. Handles old new seen (record { catalogue = catalogue-with front; objects = objects }) message (Catalogue place) None) (sym is.0) (handles-unacted objects is.1)
    handles-tried objects close head_only (Object named place) (Some bytes) closing heading (named_is, reply, is, told) =
        let text_is : bytes ≡ text_of message (object_answer_of (object_reply (object_state_at seen.objects.base is.before) done)) =
        told ∙ ap (λ reply. answer_text (framed close head_only (object_answer_of reply))) is.replied
        ∙ ap (λ close. answer_text (framed close head_only (object_answer_of (object_reply (object_state_at seen.objects.base is.before) done)))) closing
        ∙ ap (λ head_only. answer_text (framed (closes message.head) head_only (object_answer_of (object_reply (object_state_at seen.objects.base is.before) done)))) heading in
        subst (λ named. Handles old new seen (record { catalogue = catalogue-with front; objects = objects }) message (Object named place) (Some bytes)) (sym named_is)
        (subst (λ place. Handles old new seen (record { catalogue = catalogue-with front; objects = objects }) message (Object (length front) place) (Some bytes)) (sym is.place_is)
        (subst (λ objects. Handles old new seen (record { catalogue = catalogue-with front; objects = objects }) message (Object (length front) (length is.before)) (Some bytes)) (sym is.enters)
        (handles-acted is.before is.seen is.has_space bytes text_is)))
    handles-tried objects close head_only (Object named place) None closing heading (named_is, reply, is, told) =
        subst (λ named. Handles old new seen (record { catalogue = catalogue-with front; objects = objects }) message (Object named place) None) (sym named_is)
        (subst (λ place. Handles old new seen (record { catalogue = catalogue-with front; objects = objects }) message (Object (length front) place) None) (sym is.place_is)
        (subst (λ objects. Handles old new seen (record { catalogue = catalogue-with front; objects = objects }) message (Object (length front) (length is.before)) None) (sym is.enters)
        (handles-untold is.before is.seen is.has_space (sym (ap tells_change is.replied) ∙ told))))
    handles-tried objects close head_only NoEntry text closing heading is = absurd is

  -- what came of a request for objects
  pub handles-accessed : (after : SeenBoth) (body : List ℕ) (close head_only : Bool) (place : Place) (text : Option (List ℕ)) → close ≡ closes message.head → head_only ≡ is_head message → message.body ≡ body
      → HasAccessed seen after asked verb body close head_only place text → Handles old new seen after message place text
  handles-accessed after body close head_only place text closing heading body_is (inl (entered, same)) =
      handles-entered old new seen message plan moment words planned read drawn IsOther after close head_only place text closing heading (λ reply other verb some. other) same entered
  handles-accessed after body close head_only place text closing heading body_is (inr (permit, allowed, tried)) =
      let enters = allowed.enters in
      let after_is : after ≡ record { catalogue = catalogue-with allowed.before; objects = after.objects } = λ i. record { catalogue = enters i; objects = after.objects } in
      subst (λ after. Handles old new seen after message place text) (sym after_is)
      (handles-tried allowed.before permit.path allowed.seen allowed.has_room allowed.has_space (asks-for permit.path permit.act allowed.asked) allowed.replied after.objects close head_only place text closing heading
      (subst (λ body. HasActed seen.objects after.objects (length allowed.before) (action_by verb permit.path body) close head_only place text) (sym body_is)
      (subst (λ access. HasActed seen.objects after.objects access (action_by verb permit.path body) close head_only place text) allowed.place_is tried)))
