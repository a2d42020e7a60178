-- Turns of two links that were served on the same input.
use Rattle.std.proofs.Common.{◌≡◌, ◌<◌, ◌≤◌, ◌+◌, ◌-◌, ℕ, List, [], ◌∷◌, ◌++◌, length, take, Option, Some, None, Result, Ok, Err, refl, sym, ap, subst, ◌∙◌, inl, inr, arith, append_assoc, length-append}
use Rattle.std.specs.Prelude.{◌^◌, ◌≢◌, ◌⊎◌, slice_get, slice_index}
use Rattle.std.specs.List.{flat_map, AllByRecursion}
use Rattle.std.proofs.lemmas.Grind.{same_number_lists}
use Rattle.std.proofs.lemmas.List.{get_or_append_left, get_or-append_right}
use Rattle.pol_http.specs.Message.{IsMessage, ReadsMessage, print_message}
use Rattle.pol_server.specs.Machine.{reply_of}
use Rattle.pol_requests.specs.declared.refused.RouteRefused.{RouteRefused}
use Rattle.pol_answers.specs.Texts.{answer_of, refusal_answer}
use Rattle.pol_commands.specs.declared.command.Action.{Action}
use Rattle.pol_commands.specs.declared.command.Action.TheVariants.{Access}
use Rattle.pol_commands.specs.declared.command.Command.{Command}
use Rattle.pol_commands.specs.declared.reply.Refusal.TheVariants as refusal
use Rattle.pol_commands.specs.declared.reply.Reply.TheVariants.{Refused}
use Rattle.pol_objects.specs.Machine.{object_reply}
use Rattle.pol_object_answers.specs.ObjectAnswers.{object_answer_of}
use Rattle.pol_object_store.specs.ObjectHistory.{object_state_at}
use Rattle.pol_object_store.specs.ObjectRecords.{object_changes, object_end_after, object_end_with}
use Rattle.pol_object_store.specs.declared.entry.ObjectEntry.{ObjectEntry}
use Rattle.pol_objects.specs.declared.action.ObjectAction.{ObjectAction}
use Rattle.pol_records.specs.declared.unwritten.Unwritten.{Unwritten}
use Rattle.pol_records.specs.declared.unwritten.Unwritten.TheVariants.{JournalFull, Unknown, DiskFault}
use Rattle.pol_routes.specs.Plan.{command_of, plan_of}
use Rattle.pol_routes.specs.Verbs.{verb_act}
use Rattle.pol_routes.specs.declared.plans.Planned.{Planned}
use Rattle.pol_routes.specs.declared.verb.Verb.{Verb}
use Rattle.pol_server.specs.Seen.{Seen}
use Rattle.pol_server.specs.Stepped.{HasSpace}
use Rattle.pol_server.specs.Acted.{HasObjectSpace}
use Rattle.pol_server.specs.SeenObjects.{SeenObjects}
use Rattle.pol_tokens.specs.declared.token.Act.{Act}
use Rattle.pol_server.specs.History.{changes_of, end_after, end_with, state_at}
use Rattle.pol_server.specs.Entry.{Entry}
use Rattle.pol_wire.specs.Streams.{IsShifted}
use Rattle.pol_server.specs.Actions.{action_by}
use Rattle.pol_linklaws.specs.Laws.{IsUnfailed, IsUnhindered}
use Rattle.pol_server.specs.Turn.{AnsweredAs, Case, IsActed, IsAllowedAt, IsAnswered, IsDoneAt, IsEnteredAt, IsFullAs, IsFullAt, IsRead, IsStepped, IsUnplanned, IsUnstored, IsUnwritten, Turn, acted, catalogue_spot, four_words, full, object_spot, stepped, text_of, unacted, undrawn, unplanned, unstored, untold, unwritten, unwritten_answer, without_memory}
use Rattle.pol_server.specs.Both.{SeenBoth}
use Rattle.pol_linklaws.proofs.FullLemmas.{charge-planned, full-still}
use Rattle.pol_linklaws.proofs.SpotLemmas.{Enters, EntersAt, Follows, IsAt, before-first, first-at, follows-later}

-- ---- streams

-- the items are the first of a stream
abbrev pub IsFront : (ℕ → ℕ) → List ℕ → Type 0
IsFront stream items = (n : ℕ) → n < length items → slice_index items n ≡ stream n

-- a stream without its first items
abbrev pub behind-first : (ℕ → ℕ) → ℕ → ℕ → ℕ
behind-first stream count n = stream (count + n)

front-first : (stream : ℕ → ℕ) (xs ys : List ℕ) → IsFront stream (xs ++ ys) → IsFront stream xs
front-first stream xs ys front n low = sym (get_or_append_left xs ys 0 n low) ∙ front n (omega (arith, low, length-append xs ys))

front-later : (stream : ℕ → ℕ) (xs ys : List ℕ) → IsFront stream (xs ++ ys) → IsFront (behind-first stream (length xs)) ys
front-later stream xs ys front n low =
    let past : length xs ≤ length xs + n = omega arith in
    let back : (length xs + n) - length xs ≡ n = omega arith in
    ap (slice_index ys) (sym back) ∙ sym (get_or-append_right xs ys (length xs) (length xs + n) 0 refl past)
    ∙ front (length xs + n) (omega (arith, low, length-append xs ys))

front-same : (stream : ℕ → ℕ) (xs ys : List ℕ) → IsFront stream xs → IsFront stream ys → length xs ≡ length ys → xs ≡ ys
front-same stream xs ys first second long =
    same_number_lists xs ys long (λ n low. first n low ∙ sym (second n (omega (arith, low, long))))

-- a known stream begins with what was read of it
pub front-of : (a b : Option (ℕ → ℕ)) (stream : ℕ → ℕ) (items : List ℕ) → a ≡ Some stream → IsShifted a b items → IsFront stream items
front-of a b stream items known shifted = of-known b (subst (λ a. IsShifted a b items) known shifted)
  where
    of-known : (b : Option (ℕ → ℕ)) → IsShifted (Some stream) b items → IsFront stream items
    of-known None shifted = absurd shifted
    of-known (Some rest) shifted = shifted.front

-- ---- what turns entered

-- the histories of both stores, and how many calls of the passes to each were failed by a disk
pub record Fronts : Type 0 where
  pub catalogue : List Entry
  pub objects : List ObjectEntry
  pub failed : ℕ
  pub lost : ℕ

-- both stores with these histories and counts in place of what was seen
abbrev pub stores-of : SeenBoth → Fronts → SeenBoth
stores-of start fronts = record {
  catalogue = record start.catalogue { front = fronts.catalogue; failed = fronts.failed };
  objects = record start.objects { front = fronts.objects; failed = fronts.lost };
}

abbrev pub fronts-of : SeenBoth → Fronts
fronts-of stores = record {
  catalogue = stores.catalogue.front;
  objects = stores.objects.front;
  failed = stores.catalogue.failed;
  lost = stores.objects.failed;
}

-- the entry that a turn's plan makes of what was read for it
abbrev pub planned-entry : ℕ → Turn → Result Planned RouteRefused → List Entry
planned-entry number turn (Ok plan) = record { number = number; command = command_of plan (slice_index turn.moments 0) (four_words turn.words) } ∷ []
planned-entry number turn (Err why) = []

-- what a turn entered in the catalogue's history, by its case
abbrev pub catalogue-entered : SeenBoth → Case → Turn → List Entry
catalogue-entered start unplanned turn = []
catalogue-entered start undrawn turn = []
catalogue-entered start (stepped place) turn = planned-entry start.catalogue.number turn (plan_of turn.message)
catalogue-entered start (full count) turn = []
catalogue-entered start (unwritten why count) turn = []
catalogue-entered start (acted access entry) turn = planned-entry start.catalogue.number turn (plan_of turn.message)
catalogue-entered start (untold access entry) turn = planned-entry start.catalogue.number turn (plan_of turn.message)
catalogue-entered start (unacted access) turn = planned-entry start.catalogue.number turn (plan_of turn.message)
catalogue-entered start (unstored why access count) turn = planned-entry start.catalogue.number turn (plan_of turn.message)
catalogue-entered start without_memory turn = []

abbrev pub catalogue-entries : SeenBoth → Turn → List Entry
catalogue-entries start turn = catalogue-entered start turn.case turn

-- the path that an action asks for access to
abbrev pub path-asked : Action → List (List ℕ)
path-asked (Access path act) = path
path-asked other = []

-- the entry of an action that a plan asks for, by an access
abbrev pub verb-entry : ℕ → ℕ → List ℕ → Option Verb → List (List ℕ) → List ObjectEntry
verb-entry number access body (Some verb) path = record { number = number; access = access; action = action_by verb path body } ∷ []
verb-entry number access body None path = []

abbrev pub planned-action : ℕ → ℕ → List ℕ → Result Planned RouteRefused → List ObjectEntry
planned-action number access body (Ok plan) = verb-entry number access body plan.verb (path-asked plan.action)
planned-action number access body (Err why) = []

-- what a turn entered in the objects' history, by its case
abbrev pub objects-entered : SeenBoth → Case → Turn → List ObjectEntry
objects-entered start unplanned turn = []
objects-entered start undrawn turn = []
objects-entered start (stepped place) turn = []
objects-entered start (full count) turn = []
objects-entered start (unwritten why count) turn = []
objects-entered start (acted access entry) turn = planned-action start.objects.number access turn.message.body (plan_of turn.message)
objects-entered start (untold access entry) turn = planned-action start.objects.number access turn.message.body (plan_of turn.message)
objects-entered start (unacted access) turn = []
objects-entered start (unstored why access count) turn = []
objects-entered start without_memory turn = []

abbrev pub object-entries : SeenBoth → Turn → List ObjectEntry
object-entries start turn = objects-entered start turn.case turn

-- the histories behind a turn
abbrev pub fronts-after : SeenBoth → Fronts → Turn → Fronts
fronts-after start past turn = record past {
  catalogue = past.catalogue ++ catalogue-entries start turn;
  objects = past.objects ++ object-entries start turn;
}

module _ (start : SeenBoth) (new : Fronts) where
  abbrev now : SeenBoth
  now = stores-of start new

  -- the entry of a turn's command
  entered-entry : (turn : Turn) (place : ℕ) (is : IsEnteredAt now turn place) → planned-entry start.catalogue.number turn (plan_of turn.message) ≡ is.entry ∷ []
  entered-entry turn place is =
      ap (planned-entry start.catalogue.number turn) is.read.planned
      ∙ ap (λ moments. record { number = start.catalogue.number; command = command_of is.plan (slice_index moments 0) (four_words turn.words) } ∷ []) is.read.moments
      ∙ ap (λ entry. entry ∷ []) (sym is.entry_is)

  enters-command : (turn : Turn) (place : ℕ) (is : IsEnteredAt now turn place)
      → (entry : Entry) × (planned-entry start.catalogue.number turn (plan_of turn.message) ≡ entry ∷ []) × (slice_get new.catalogue place ≡ Some entry)
  enters-command turn place is = (is.entry, entered-entry turn place is, is.there)

  -- the entry of a turn's action
  done-entry : (turn : Turn) (access entry : ℕ) (is : IsDoneAt now turn access entry)
      → planned-action start.objects.number access turn.message.body (plan_of turn.message) ≡ record { number = start.objects.number; access = access; action = is.action } ∷ []
  done-entry turn access entry is =
      let verb_is = is.allowed.verb_is in
      let asked = is.allowed.asked in
      ap (planned-action start.objects.number access turn.message.body) is.allowed.entered.read.planned
      ∙ (λ i. verb-entry start.objects.number access turn.message.body (verb_is i) (path-asked (asked i)))
      ∙ ap (λ action. record { number = start.objects.number; access = access; action = action } ∷ []) (sym is.action_is)

  enters-action : (turn : Turn) (access entry : ℕ) (is : IsDoneAt now turn access entry)
      → (found : ObjectEntry) × (planned-action start.objects.number access turn.message.body (plan_of turn.message) ≡ found ∷ []) × (slice_get new.objects entry ≡ Some found)
  enters-action turn access entry is = (record { number = start.objects.number; access = access; action = is.action }, done-entry turn access entry is, is.there)

  -- what a turn entered stands at its spots
  catalogue-enters : (case : Case) (turn : Turn) → AnsweredAs now case turn → EntersAt new.catalogue (catalogue_spot case) (catalogue-entered start case turn)
  catalogue-enters unplanned turn is = refl
  catalogue-enters undrawn turn is = refl
  catalogue-enters (stepped place) turn is = enters-command turn place is.entered
  catalogue-enters (full count) turn is = refl
  catalogue-enters (unwritten why count) turn is = refl
  catalogue-enters (acted access entry) turn is = enters-command turn access is.done.allowed.entered
  catalogue-enters (untold access entry) turn is = enters-command turn access is.done.allowed.entered
  catalogue-enters (unacted access) turn is = enters-command turn access is.allowed.entered
  catalogue-enters (unstored why access count) turn is = enters-command turn access is.allowed.entered
  catalogue-enters without_memory turn is = refl

  objects-enter : (case : Case) (turn : Turn) → AnsweredAs now case turn → EntersAt new.objects (object_spot case) (objects-entered start case turn)
  objects-enter unplanned turn is = refl
  objects-enter undrawn turn is = refl
  objects-enter (stepped place) turn is = refl
  objects-enter (full count) turn is = refl
  objects-enter (unwritten why count) turn is = refl
  objects-enter (acted access entry) turn is = enters-action turn access entry is.done
  objects-enter (untold access entry) turn is = enters-action turn access entry is.done
  objects-enter (unacted access) turn is = refl
  objects-enter (unstored why access count) turn is = refl
  objects-enter without_memory turn is = refl

  pub all-enter : (turns : List Turn) → AllByRecursion (IsAnswered now) turns → AllByRecursion (Enters catalogue_spot (catalogue-entries start) new.catalogue) turns
  all-enter [] answered = tt
  all-enter (turn ∷ turns) answered = (catalogue-enters turn.case turn answered.0, all-enter turns answered.1)

  pub all-act : (turns : List Turn) → AllByRecursion (IsAnswered now) turns → AllByRecursion (Enters object_spot (object-entries start) new.objects) turns
  all-act [] answered = tt
  all-act (turn ∷ turns) answered = (objects-enter turn.case turn answered.0, all-act turns answered.1)

-- ---- traces

-- turns from this end of the histories, on these bytes and from these moments and words on
pub record Trace (start : SeenBoth) (new past : Fronts) (bytes : List ℕ) (moments words : ℕ → ℕ) (turns : List Turn) (rest left : List ℕ) : Type 0 where
  pub bytes_are : bytes ≡ flat_map (λ turn. print_message turn.message) turns ++ (rest ++ left)
  pub whole : AllByRecursion (λ turn. IsMessage turn.message) turns
  pub moments_are : IsFront moments (flat_map (λ turn. turn.moments) turns)
  pub words_are : IsFront words (flat_map (λ turn. turn.words) turns)
  pub answered : AllByRecursion (IsAnswered (stores-of start new)) turns
  pub unhindered : AllByRecursion (λ turn. IsUnhindered turn.case) turns
  pub catalogue : Follows catalogue_spot (catalogue-entries start) new.catalogue past.catalogue turns
  pub objects : Follows object_spot (object-entries start) new.objects past.objects turns

module _ (start : SeenBoth) (new past : Fronts) (bytes : List ℕ) (moments words : ℕ → ℕ) (turn : Turn) (turns : List Turn) (rest left : List ℕ) where
  abbrev pub Begins : Type 0
  Begins = Trace start new past bytes moments words (turn ∷ turns) rest left

  abbrev pub later-bytes : List ℕ
  later-bytes = flat_map (λ turn. print_message turn.message) turns ++ (rest ++ left)

  pub first-reads : Begins → ReadsMessage bytes turn.message later-bytes
  first-reads trace = record {
    whole = trace.whole.0;
    bytes_are = trace.bytes_are ∙ append_assoc (print_message turn.message) (flat_map (λ turn. print_message turn.message) turns) (rest ++ left);
  }

  pub first-moments : Begins → IsFront moments turn.moments
  first-moments trace = front-first moments turn.moments (flat_map (λ turn. turn.moments) turns) trace.moments_are

  pub first-words : Begins → IsFront words turn.words
  first-words trace = front-first words turn.words (flat_map (λ turn. turn.words) turns) trace.words_are

  pub first-entry : Begins → IsAt (length past.catalogue) (catalogue_spot turn.case)
  first-entry trace = first-at catalogue_spot (catalogue-entries start) new.catalogue past.catalogue turn turns trace.catalogue

  pub first-action : Begins → IsAt (length past.objects) (object_spot turn.case)
  first-action trace = first-at object_spot (object-entries start) new.objects past.objects turn turns trace.objects

  pub before-entries : Begins → take (length past.catalogue) new.catalogue ≡ past.catalogue
  before-entries trace = before-first catalogue_spot (catalogue-entries start) new.catalogue past.catalogue turn turns trace.catalogue

  pub before-actions : Begins → take (length past.objects) new.objects ≡ past.objects
  before-actions trace = before-first object_spot (object-entries start) new.objects past.objects turn turns trace.objects

  pub trace-later : Begins → Trace start new (fronts-after start past turn) later-bytes (behind-first moments (length turn.moments)) (behind-first words (length turn.words)) turns rest left
  trace-later trace = record {
    bytes_are = refl;
    whole = trace.whole.1;
    moments_are = front-later moments turn.moments (flat_map (λ turn. turn.moments) turns) trace.moments_are;
    words_are = front-later words turn.words (flat_map (λ turn. turn.words) turns) trace.words_are;
    answered = trace.answered.1;
    unhindered = trace.unhindered.1;
    catalogue = follows-later catalogue_spot (catalogue-entries start) new.catalogue past.catalogue turn turns trace.catalogue;
    objects = follows-later object_spot (object-entries start) new.objects past.objects turn turns trace.objects;
  }

-- ---- one turn

-- what two turns on one message share before they are answered
pub record Alike (past new other : Fronts) (moments words : ℕ → ℕ) (a b : Turn) : Type 0 where
  pub message : a.message ≡ b.message
  pub first_moments : IsFront moments a.moments
  pub second_moments : IsFront moments b.moments
  pub first_words : IsFront words a.words
  pub second_words : IsFront words b.words
  pub first_entries : take (length past.catalogue) new.catalogue ≡ past.catalogue
  pub second_entries : take (length past.catalogue) other.catalogue ≡ past.catalogue
  pub first_actions : take (length past.objects) new.objects ≡ past.objects
  pub second_actions : take (length past.objects) other.objects ≡ past.objects

same-parts : (a b : Turn) → a.message ≡ b.message → a.moments ≡ b.moments → a.words ≡ b.words → a.case ≡ b.case → a.answer ≡ b.answer → a ≡ b
same-parts a b message moments words case answer =
    λ i. record { message = message i; moments = moments i; words = words i; case = case i; answer = answer i }

-- the same path is asked for
path-same : (path other : List (List ℕ)) (act what : Act) → Access path act ≡ Access other what → path ≡ other
path-same path other act what is = cc

verb-same : (verb other : Verb) → Some verb ≡ Some other → verb ≡ other
verb-same verb other is = cc

-- a change that fits, or none, is not one that doesn't
fits-or-full : {X : Type 0} (why : Unwritten) (ended reached : ℕ) (changes : List X) → IsUnfailed why → (changes ≡ []) ⊎ (reached ≤ 2 ^ 40) → changes ≢ [] → IsFullAs why ended reached → ⊥
fits-or-full (JournalFull end wanted) ended reached changes unfailed (inl none) some over = some none
fits-or-full (JournalFull end wanted) ended reached changes unfailed (inr fits) some over = omega (arith, fits, over.2)
fits-or-full Unknown ended reached changes unfailed fits some over = absurd unfailed
fits-or-full DiskFault ended reached changes unfailed fits some over = absurd unfailed

-- a journal is full in one way
same-why : (why other : Unwritten) (ended reached : ℕ) → IsUnfailed why → IsUnfailed other → IsFullAs why ended reached → IsFullAs other ended reached → why ≡ other
same-why (JournalFull end wanted) (JournalFull last reach) ended reached unfailed free first second =
    let ends : end ≡ last = first.0 ∙ sym second.0 in
    let wants : wanted ≡ reach = first.1 ∙ sym second.1 in
    λ i. JournalFull (ends i) (wants i)
same-why (JournalFull end wanted) Unknown ended reached unfailed free first second = absurd free
same-why (JournalFull end wanted) DiskFault ended reached unfailed free first second = absurd free
same-why Unknown other ended reached unfailed free first second = absurd unfailed
same-why DiskFault other ended reached unfailed free first second = absurd unfailed

-- a command that is entered behind a history, and the same one that wasn't written there
fits-or-unwritten : (seen : Seen) (why : Unwritten) (front same : List Entry) (command again : Command) → front ≡ same → command ≡ again → IsUnfailed why → HasSpace seen front command
    → changes_of (state_at seen.base same) again ≢ [] → IsFullAs why (end_after seen.opened seen.base same) (end_with seen.opened seen.base same again) → ⊥
fits-or-unwritten seen why front same command again fronts commands unfailed space some over =
    fits-or-full why (end_after seen.opened seen.base same) (end_with seen.opened seen.base same again) (changes_of (state_at seen.base same) again) unfailed
    (subst (λ front. HasSpace seen front again) fronts (subst (λ command. HasSpace seen front command) commands space))
    some over

-- and so it is with actions
fits-or-unstored : (seen : SeenObjects) (why : Unwritten) (front same : List ObjectEntry) (action again : ObjectAction) → front ≡ same → action ≡ again → IsUnfailed why → HasObjectSpace seen front action
    → object_changes (object_state_at seen.base same) again ≢ [] → IsFullAs why (object_end_after seen.opened seen.base same) (object_end_with seen.opened seen.base same again) → ⊥
fits-or-unstored seen why front same action again fronts actions unfailed space some over =
    fits-or-full why (object_end_after seen.opened seen.base same) (object_end_with seen.opened seen.base same again) (object_changes (object_state_at seen.base same) again) unfailed
    (subst (λ front. HasObjectSpace seen front again) fronts (subst (λ action. HasObjectSpace seen front action) actions space))
    some over

module _ (start : SeenBoth) (past new other : Fronts) (moments words : ℕ → ℕ) (a b : Turn) (alike : Alike past new other moments words a b) where
  abbrev first : SeenBoth
  first = stores-of start new

  abbrev second : SeenBoth
  second = stores-of start other

  same-plan : (p q : Planned) → plan_of a.message ≡ Ok p → plan_of b.message ≡ Ok q → p ≡ q
  same-plan p q first second =
      let plans : plan_of a.message ≡ plan_of b.message = ap plan_of alike.message in
      cc (first, second, plans)

  unplanned-twice : a.case ≡ b.case → IsUnplanned a → IsUnplanned b → a ≡ b
  unplanned-twice case x y =
      let plans : plan_of a.message ≡ plan_of b.message = ap plan_of alike.message in
      let first = x.refused in
      let second = y.refused in
      let why : x.why ≡ y.why = cc (first, second, plans) in
      same-parts a b alike.message (x.moments ∙ sym y.moments) (x.words ∙ sym y.words) case
      (x.answer ∙ (λ i. text_of (alike.message i) (refusal_answer (why i))) ∙ sym y.answer)

  planned-refused : (p : Planned) → plan_of a.message ≡ Ok p → IsUnplanned b → ⊥
  planned-refused p first y =
      let plans : plan_of a.message ≡ plan_of b.message = ap plan_of alike.message in
      let second = y.refused in
      cc (first, second, plans)

  refused-planned : (q : Planned) → IsUnplanned a → plan_of b.message ≡ Ok q → ⊥
  refused-planned q x second =
      let plans : plan_of a.message ≡ plan_of b.message = ap plan_of alike.message in
      let first = x.refused in
      cc (first, second, plans)

  same-moments : (p q : Planned) (m n : ℕ) → IsRead a p m → IsRead b q n → a.moments ≡ b.moments
  same-moments p q m n x y =
      front-same moments a.moments b.moments alike.first_moments alike.second_moments (omega (arith, ap length x.moments, ap length y.moments))

  same-moment : (p q : Planned) (m n : ℕ) → IsRead a p m → IsRead b q n → m ≡ n
  same-moment p q m n x y =
      let both = same-moments p q m n x y in
      let first = x.moments in
      let second = y.moments in
      cc (both, first, second)

  same-words : (p q : Planned) (m n : ℕ) → p ≡ q → IsRead a p m → IsRead b q n → a.words ≡ b.words
  same-words p q m n plans x y =
      front-same words a.words b.words alike.first_words alike.second_words (x.words ∙ ap (λ plan. plan.words) plans ∙ sym y.words)

  same-front : (m n : ℕ) → m ≡ length past.catalogue → n ≡ length past.catalogue → take m new.catalogue ≡ take n other.catalogue
  same-front m n at_m at_n =
      ap (λ m. take m new.catalogue) at_m ∙ alike.first_entries ∙ sym (ap (λ n. take n other.catalogue) at_n ∙ alike.second_entries)

  same-actions : (m n : ℕ) → m ≡ length past.objects → n ≡ length past.objects → take m new.objects ≡ take n other.objects
  same-actions m n at_m at_n =
      ap (λ m. take m new.objects) at_m ∙ alike.first_actions ∙ sym (ap (λ n. take n other.objects) at_n ∙ alike.second_actions)

  same-command : (p q : Planned) (m n : ℕ) → IsRead a p m → IsRead b q n → command_of p m (four_words a.words) ≡ command_of q n (four_words b.words)
  same-command p q m n x y =
      let plans = same-plan p q x.planned y.planned in
      let moment = same-moment p q m n x y in
      let drawn = same-words p q m n plans x y in
      λ i. command_of (plans i) (moment i) (four_words (drawn i))

  -- what two turns share that entered their commands
  record Entered (m n : ℕ) (x : IsEnteredAt first a m) (y : IsEnteredAt second b n) : Type 0 where
    plans : x.plan ≡ y.plan
    moments_are : a.moments ≡ b.moments
    words_are : a.words ≡ b.words
    entries : x.entry ≡ y.entry
    fronts : take m new.catalogue ≡ take n other.catalogue

  entered-twice : (m n : ℕ) → m ≡ length past.catalogue → n ≡ length past.catalogue → (x : IsEnteredAt first a m) (y : IsEnteredAt second b n) → Entered m n x y
  entered-twice m n at_m at_n x y =
      let plans = same-plan x.plan y.plan x.read.planned y.read.planned in
      let moment = same-moment x.plan y.plan x.moment y.moment x.read y.read in
      let drawn = same-words x.plan y.plan x.moment y.moment plans x.read y.read in
      record {
        plans = plans;
        moments_are = same-moments x.plan y.plan x.moment y.moment x.read y.read;
        words_are = drawn;
        entries = x.entry_is ∙ (λ i. record { number = start.catalogue.number; command = command_of (plans i) (moment i) (four_words (drawn i)) }) ∙ sym y.entry_is;
        fronts = same-front m n at_m at_n;
      }

  -- and so the replies to them are the same
  same-reply : (m n : ℕ) (x : IsEnteredAt first a m) (y : IsEnteredAt second b n) → Entered m n x y
      → reply_of (state_at start.catalogue.base (take m new.catalogue)) x.entry.command ≡ reply_of (state_at start.catalogue.base (take n other.catalogue)) y.entry.command
  same-reply m n x y shared =
      let fronts = shared.fronts in
      let entries = shared.entries in
      λ i. reply_of (state_at start.catalogue.base (fronts i)) (entries i).command

  stepped-twice : (m n : ℕ) → m ≡ length past.catalogue → n ≡ length past.catalogue → a.case ≡ stepped m → b.case ≡ stepped n → IsStepped first a m → IsStepped second b n → a ≡ b
  stepped-twice m n at_m at_n case_a case_b x y =
      let shared = entered-twice m n at_m at_n x.entered y.entered in
      let replies = same-reply m n x.entered y.entered shared in
      same-parts a b alike.message shared.moments_are shared.words_are
      (case_a ∙ ap stepped (at_m ∙ sym at_n) ∙ sym case_b)
      (x.answer ∙ (λ i. text_of (alike.message i) (answer_of (replies i))) ∙ sym y.answer)

  full-twice : (m n : ℕ) → m ≡ length past.catalogue → n ≡ length past.catalogue → a.case ≡ full m → b.case ≡ full n → IsFullAt first a m → IsFullAt second b n → a ≡ b
  full-twice m n at_m at_n case_a case_b x y =
      let plans = same-plan x.plan y.plan x.read.planned y.read.planned in
      let drawn = same-words x.plan y.plan x.moment y.moment plans x.read y.read in
      let charged : x.charged ≡ y.charged = x.charged_is ∙ ap (λ front. (state_at start.catalogue.base front).charged) (same-front m n at_m at_n) ∙ sym y.charged_is in
      same-parts a b alike.message (same-moments x.plan y.plan x.moment y.moment x.read y.read) drawn
      (case_a ∙ ap full (at_m ∙ sym at_n) ∙ sym case_b)
      (x.answer ∙ (λ i. text_of (alike.message i) (answer_of (Refused (refusal.RunFull (charged i) ((plans i).charge))))) ∙ sym y.answer)

  room-or-full : (m n : ℕ) → m ≡ length past.catalogue → n ≡ length past.catalogue → IsEnteredAt first a m → IsFullAt second b n → ⊥
  room-or-full m n at_m at_n x y =
      let plans = same-plan x.plan y.plan x.read.planned y.read.planned in
      let charge : x.plan.charge ≡ y.plan.charge = ap (λ plan. plan.charge) plans in
      let charged : (state_at start.catalogue.base (take m new.catalogue)).charged ≡ y.charged = ap (λ front. (state_at start.catalogue.base front).charged) (same-front m n at_m at_n) ∙ sym y.charged_is in
      omega (arith, x.has_room, y.full, charge, charged)

  full-or-room : (m n : ℕ) → m ≡ length past.catalogue → n ≡ length past.catalogue → IsFullAt first a m → IsEnteredAt second b n → ⊥
  full-or-room m n at_m at_n x y =
      let plans = same-plan x.plan y.plan x.read.planned y.read.planned in
      let charge : x.plan.charge ≡ y.plan.charge = ap (λ plan. plan.charge) plans in
      let charged : x.charged ≡ (state_at start.catalogue.base (take n other.catalogue)).charged = x.charged_is ∙ ap (λ front. (state_at start.catalogue.base front).charged) (same-front m n at_m at_n) in
      omega (arith, x.full, y.has_room, charge, charged)

  -- a command fits, or it wasn't written
  entered-or-unwritten : (why : Unwritten) (m n : ℕ) → m ≡ length past.catalogue → n ≡ length past.catalogue → IsUnfailed why → IsEnteredAt first a m → IsUnwritten second b why n → ⊥
  entered-or-unwritten why m n at_m at_n unfailed x y =
      let commands : x.entry.command ≡ y.command = ap (λ entry. entry.command) x.entry_is ∙ same-command x.plan y.plan x.moment y.moment x.read y.read ∙ sym y.command_is in
      fits-or-unwritten start.catalogue why (take m new.catalogue) (take n other.catalogue) x.entry.command y.command (same-front m n at_m at_n) commands unfailed x.has_space y.some y.full

  unwritten-or-entered : (why : Unwritten) (m n : ℕ) → m ≡ length past.catalogue → n ≡ length past.catalogue → IsUnfailed why → IsUnwritten first a why m → IsEnteredAt second b n → ⊥
  unwritten-or-entered why m n at_m at_n unfailed x y =
      let commands : x.command ≡ y.entry.command = x.command_is ∙ same-command x.plan y.plan x.moment y.moment x.read y.read ∙ sym (ap (λ entry. entry.command) y.entry_is) in
      fits-or-unwritten start.catalogue why (take n other.catalogue) (take m new.catalogue) y.entry.command x.command (sym (same-front m n at_m at_n)) (sym commands) unfailed y.has_space x.some x.full

  -- a command of a full run has no change that could be unwritten
  full-or-unwritten : (why : Unwritten) (m n : ℕ) → m ≡ length past.catalogue → n ≡ length past.catalogue → IsFullAt first a m → IsUnwritten second b why n → ⊥
  full-or-unwritten why m n at_m at_n x y =
      let charge : x.plan.charge ≡ y.command.charge =
      ap (λ plan. plan.charge) (same-plan x.plan y.plan x.read.planned y.read.planned) ∙ sym (charge-planned y.plan y.moment (four_words b.words)) ∙ ap (λ command. command.charge) (sym y.command_is) in
      let charged : x.charged ≡ (state_at start.catalogue.base (take n other.catalogue)).charged = x.charged_is ∙ ap (λ front. (state_at start.catalogue.base front).charged) (same-front m n at_m at_n) in
      y.some (full-still (state_at start.catalogue.base (take n other.catalogue)) y.command (omega (arith, x.full, charge, charged)))

  unwritten-or-full : (why : Unwritten) (m n : ℕ) → m ≡ length past.catalogue → n ≡ length past.catalogue → IsUnwritten first a why m → IsFullAt second b n → ⊥
  unwritten-or-full why m n at_m at_n x y =
      let charge : x.command.charge ≡ y.plan.charge =
      ap (λ command. command.charge) x.command_is ∙ charge-planned x.plan x.moment (four_words a.words) ∙ ap (λ plan. plan.charge) (same-plan x.plan y.plan x.read.planned y.read.planned) in
      let charged : (state_at start.catalogue.base (take m new.catalogue)).charged ≡ y.charged = ap (λ front. (state_at start.catalogue.base front).charged) (same-front m n at_m at_n) ∙ sym y.charged_is in
      x.some (full-still (state_at start.catalogue.base (take m new.catalogue)) x.command (omega (arith, y.full, charge, charged)))

  unwritten-twice : (why again : Unwritten) (m n : ℕ) → m ≡ length past.catalogue → n ≡ length past.catalogue → a.case ≡ unwritten why m → b.case ≡ unwritten again n → IsUnfailed why → IsUnfailed again
      → IsUnwritten first a why m → IsUnwritten second b again n → a ≡ b
  unwritten-twice why again m n at_m at_n case_a case_b unfailed free x y =
      let seen = start.catalogue in
      let commands : x.command ≡ y.command = x.command_is ∙ same-command x.plan y.plan x.moment y.moment x.read y.read ∙ sym y.command_is in
      let fronts = same-front m n at_m at_n in
      let over : IsFullAs again (end_after seen.opened seen.base (take m new.catalogue)) (end_with seen.opened seen.base (take m new.catalogue) x.command) =
      subst (λ front. IsFullAs again (end_after seen.opened seen.base front) (end_with seen.opened seen.base front x.command)) (sym fronts)
      (subst (λ command. IsFullAs again (end_after seen.opened seen.base (take n other.catalogue)) (end_with seen.opened seen.base (take n other.catalogue) command)) (sym commands) y.full) in
      let whys : why ≡ again = same-why why again _ _ unfailed free x.full over in
      let counts : m ≡ n = at_m ∙ sym at_n in
      let plans = same-plan x.plan y.plan x.read.planned y.read.planned in
      same-parts a b alike.message (same-moments x.plan y.plan x.moment y.moment x.read y.read) (same-words x.plan y.plan x.moment y.moment plans x.read y.read)
      (case_a ∙ (λ i. unwritten (whys i) (counts i)) ∙ sym case_b)
      (x.answer ∙ (λ i. text_of (alike.message i) (unwritten_answer (whys i))) ∙ sym y.answer)

  -- an access is allowed or not
  other-or-allowed : (m n : ℕ) → m ≡ length past.catalogue → n ≡ length past.catalogue → IsStepped first a m → IsAllowedAt second b n → ⊥
  other-or-allowed m n at_m at_n x y =
      let shared = entered-twice m n at_m at_n x.entered y.entered in
      x.other y.verb (ap (λ plan. plan.verb) shared.plans ∙ y.verb_is) (same-reply m n x.entered y.entered shared ∙ y.allowed)

  allowed-or-other : (m n : ℕ) → m ≡ length past.catalogue → n ≡ length past.catalogue → IsAllowedAt first a m → IsStepped second b n → ⊥
  allowed-or-other m n at_m at_n x y =
      let shared = entered-twice m n at_m at_n x.entered y.entered in
      y.other x.verb (sym (ap (λ plan. plan.verb) shared.plans) ∙ x.verb_is) (sym (same-reply m n x.entered y.entered shared) ∙ x.allowed)

  -- the actions that two accesses allowed are the same
  same-asked : (m n : ℕ) → m ≡ length past.catalogue → n ≡ length past.catalogue → (x : IsAllowedAt first a m) (y : IsAllowedAt second b n)
      → action_by x.verb x.path a.message.body ≡ action_by y.verb y.path b.message.body
  same-asked m n at_m at_n x y =
      let shared = entered-twice m n at_m at_n x.entered y.entered in
      let verbs : x.verb ≡ y.verb = verb-same x.verb y.verb (sym x.verb_is ∙ ap (λ plan. plan.verb) shared.plans ∙ y.verb_is) in
      let paths : x.path ≡ y.path = path-same x.path y.path (verb_act x.verb) (verb_act y.verb) (sym x.asked ∙ ap (λ plan. plan.action) shared.plans ∙ y.asked) in
      let messages = alike.message in
      λ i. action_by (verbs i) (paths i) (messages i).body

  same-action : (m n p q : ℕ) → m ≡ length past.catalogue → n ≡ length past.catalogue → (x : IsDoneAt first a m p) (y : IsDoneAt second b n q) → x.action ≡ y.action
  same-action m n p q at_m at_n x y = x.action_is ∙ same-asked m n at_m at_n x.allowed y.allowed ∙ sym y.action_is

  acted-twice : (m n p q : ℕ) → m ≡ length past.catalogue → n ≡ length past.catalogue → p ≡ length past.objects → q ≡ length past.objects
      → a.case ≡ acted m p → b.case ≡ acted n q → IsActed first a m p → IsActed second b n q → a ≡ b
  acted-twice m n p q at_m at_n at_p at_q case_a case_b x y =
      let shared = entered-twice m n at_m at_n x.done.allowed.entered y.done.allowed.entered in
      let actions = same-action m n p q at_m at_n x.done y.done in
      let fronts = same-actions p q at_p at_q in
      let accesses : m ≡ n = at_m ∙ sym at_n in
      let entries : p ≡ q = at_p ∙ sym at_q in
      same-parts a b alike.message shared.moments_are shared.words_are
      (case_a ∙ (λ i. acted (accesses i) (entries i)) ∙ sym case_b)
      (x.answer ∙ (λ i. text_of (alike.message i) (object_answer_of (object_reply (object_state_at start.objects.base (fronts i)) (actions i)))) ∙ sym y.answer)

  -- an action fits, or its change wasn't written
  done-or-unstored : (why : Unwritten) (m n p q : ℕ) → m ≡ length past.catalogue → n ≡ length past.catalogue → p ≡ length past.objects → q ≡ length past.objects → IsUnfailed why
      → IsDoneAt first a m p → IsUnstored second b why n q → ⊥
  done-or-unstored why m n p q at_m at_n at_p at_q unfailed x y =
      let actions : x.action ≡ y.action = x.action_is ∙ same-asked m n at_m at_n x.allowed y.allowed ∙ sym y.action_is in
      fits-or-unstored start.objects why (take p new.objects) (take q other.objects) x.action y.action (same-actions p q at_p at_q) actions unfailed x.has_space y.some y.full

  unstored-or-done : (why : Unwritten) (m n p q : ℕ) → m ≡ length past.catalogue → n ≡ length past.catalogue → p ≡ length past.objects → q ≡ length past.objects → IsUnfailed why
      → IsUnstored first a why m p → IsDoneAt second b n q → ⊥
  unstored-or-done why m n p q at_m at_n at_p at_q unfailed x y =
      let actions : x.action ≡ y.action = x.action_is ∙ same-asked m n at_m at_n x.allowed y.allowed ∙ sym y.action_is in
      fits-or-unstored start.objects why (take q other.objects) (take p new.objects) y.action x.action (sym (same-actions p q at_p at_q)) (sym actions) unfailed y.has_space x.some x.full

  unstored-twice : (why again : Unwritten) (m n p q : ℕ) → m ≡ length past.catalogue → n ≡ length past.catalogue → p ≡ length past.objects → q ≡ length past.objects
      → a.case ≡ unstored why m p → b.case ≡ unstored again n q → IsUnfailed why → IsUnfailed again → IsUnstored first a why m p → IsUnstored second b again n q → a ≡ b
  unstored-twice why again m n p q at_m at_n at_p at_q case_a case_b unfailed free x y =
      let seen = start.objects in
      let shared = entered-twice m n at_m at_n x.allowed.entered y.allowed.entered in
      let actions : x.action ≡ y.action = x.action_is ∙ same-asked m n at_m at_n x.allowed y.allowed ∙ sym y.action_is in
      let fronts = same-actions p q at_p at_q in
      let over : IsFullAs again (object_end_after seen.opened seen.base (take p new.objects)) (object_end_with seen.opened seen.base (take p new.objects) x.action) =
      subst (λ front. IsFullAs again (object_end_after seen.opened seen.base front) (object_end_with seen.opened seen.base front x.action)) (sym fronts)
      (subst (λ action. IsFullAs again (object_end_after seen.opened seen.base (take q other.objects)) (object_end_with seen.opened seen.base (take q other.objects) action)) (sym actions) y.full) in
      let whys : why ≡ again = same-why why again _ _ unfailed free x.full over in
      let accesses : m ≡ n = at_m ∙ sym at_n in
      let counts : p ≡ q = at_p ∙ sym at_q in
      same-parts a b alike.message shared.moments_are shared.words_are
      (case_a ∙ (λ i. unstored (whys i) (accesses i) (counts i)) ∙ sym case_b)
      (x.answer ∙ (λ i. text_of (alike.message i) (unwritten_answer (whys i))) ∙ sym y.answer)

  pub same-turn : (c d : Case) → a.case ≡ c → b.case ≡ d → IsAt (length past.catalogue) (catalogue_spot c) → IsAt (length past.catalogue) (catalogue_spot d)
      → IsAt (length past.objects) (object_spot c) → IsAt (length past.objects) (object_spot d) → IsUnhindered c → IsUnhindered d
      → AnsweredAs first c a → AnsweredAs second d b → a ≡ b
  same-turn undrawn d case_a case_b at_c at_d in_c in_d free_c free_d x y = absurd free_c
  same-turn without_memory d case_a case_b at_c at_d in_c in_d free_c free_d x y = absurd free_c
  same-turn (untold access entry) d case_a case_b at_c at_d in_c in_d free_c free_d x y = absurd free_c
  same-turn (unacted access) d case_a case_b at_c at_d in_c in_d free_c free_d x y = absurd free_c
  same-turn unplanned undrawn case_a case_b at_c at_d in_c in_d free_c free_d x y = absurd free_d
  same-turn unplanned without_memory case_a case_b at_c at_d in_c in_d free_c free_d x y = absurd free_d
  same-turn unplanned (untold access entry) case_a case_b at_c at_d in_c in_d free_c free_d x y = absurd free_d
  same-turn unplanned (unacted access) case_a case_b at_c at_d in_c in_d free_c free_d x y = absurd free_d
  same-turn unplanned unplanned case_a case_b at_c at_d in_c in_d free_c free_d x y = unplanned-twice (case_a ∙ sym case_b) x y
  same-turn unplanned (stepped n) case_a case_b at_c at_d in_c in_d free_c free_d x y = absurd (refused-planned y.entered.plan x y.entered.read.planned)
  same-turn unplanned (full n) case_a case_b at_c at_d in_c in_d free_c free_d x y = absurd (refused-planned y.plan x y.read.planned)
  same-turn unplanned (unwritten again n) case_a case_b at_c at_d in_c in_d free_c free_d x y = absurd (refused-planned y.plan x y.read.planned)
  same-turn unplanned (acted n q) case_a case_b at_c at_d in_c in_d free_c free_d x y = absurd (refused-planned y.done.allowed.entered.plan x y.done.allowed.entered.read.planned)
  same-turn unplanned (unstored again n q) case_a case_b at_c at_d in_c in_d free_c free_d x y = absurd (refused-planned y.allowed.entered.plan x y.allowed.entered.read.planned)
  same-turn (stepped m) undrawn case_a case_b at_c at_d in_c in_d free_c free_d x y = absurd free_d
  same-turn (stepped m) without_memory case_a case_b at_c at_d in_c in_d free_c free_d x y = absurd free_d
  same-turn (stepped m) (untold access entry) case_a case_b at_c at_d in_c in_d free_c free_d x y = absurd free_d
  same-turn (stepped m) (unacted access) case_a case_b at_c at_d in_c in_d free_c free_d x y = absurd free_d
  same-turn (stepped m) unplanned case_a case_b at_c at_d in_c in_d free_c free_d x y = absurd (planned-refused x.entered.plan x.entered.read.planned y)
  same-turn (stepped m) (stepped n) case_a case_b at_c at_d in_c in_d free_c free_d x y = stepped-twice m n at_c at_d case_a case_b x y
  same-turn (stepped m) (full n) case_a case_b at_c at_d in_c in_d free_c free_d x y = absurd (room-or-full m n at_c at_d x.entered y)
  same-turn (stepped m) (unwritten again n) case_a case_b at_c at_d in_c in_d free_c free_d x y = absurd (entered-or-unwritten again m n at_c at_d free_d x.entered y)
  same-turn (stepped m) (acted n q) case_a case_b at_c at_d in_c in_d free_c free_d x y = absurd (other-or-allowed m n at_c at_d x y.done.allowed)
  same-turn (stepped m) (unstored again n q) case_a case_b at_c at_d in_c in_d free_c free_d x y = absurd (other-or-allowed m n at_c at_d x y.allowed)
  same-turn (full m) undrawn case_a case_b at_c at_d in_c in_d free_c free_d x y = absurd free_d
  same-turn (full m) without_memory case_a case_b at_c at_d in_c in_d free_c free_d x y = absurd free_d
  same-turn (full m) (untold access entry) case_a case_b at_c at_d in_c in_d free_c free_d x y = absurd free_d
  same-turn (full m) (unacted access) case_a case_b at_c at_d in_c in_d free_c free_d x y = absurd free_d
  same-turn (full m) unplanned case_a case_b at_c at_d in_c in_d free_c free_d x y = absurd (planned-refused x.plan x.read.planned y)
  same-turn (full m) (stepped n) case_a case_b at_c at_d in_c in_d free_c free_d x y = absurd (full-or-room m n at_c at_d x y.entered)
  same-turn (full m) (full n) case_a case_b at_c at_d in_c in_d free_c free_d x y = full-twice m n at_c at_d case_a case_b x y
  same-turn (full m) (unwritten again n) case_a case_b at_c at_d in_c in_d free_c free_d x y = absurd (full-or-unwritten again m n at_c at_d x y)
  same-turn (full m) (acted n q) case_a case_b at_c at_d in_c in_d free_c free_d x y = absurd (full-or-room m n at_c at_d x y.done.allowed.entered)
  same-turn (full m) (unstored again n q) case_a case_b at_c at_d in_c in_d free_c free_d x y = absurd (full-or-room m n at_c at_d x y.allowed.entered)
  same-turn (unwritten why m) undrawn case_a case_b at_c at_d in_c in_d free_c free_d x y = absurd free_d
  same-turn (unwritten why m) without_memory case_a case_b at_c at_d in_c in_d free_c free_d x y = absurd free_d
  same-turn (unwritten why m) (untold access entry) case_a case_b at_c at_d in_c in_d free_c free_d x y = absurd free_d
  same-turn (unwritten why m) (unacted access) case_a case_b at_c at_d in_c in_d free_c free_d x y = absurd free_d
  same-turn (unwritten why m) unplanned case_a case_b at_c at_d in_c in_d free_c free_d x y = absurd (planned-refused x.plan x.read.planned y)
  same-turn (unwritten why m) (stepped n) case_a case_b at_c at_d in_c in_d free_c free_d x y = absurd (unwritten-or-entered why m n at_c at_d free_c x y.entered)
  same-turn (unwritten why m) (full n) case_a case_b at_c at_d in_c in_d free_c free_d x y = absurd (unwritten-or-full why m n at_c at_d x y)
  same-turn (unwritten why m) (unwritten again n) case_a case_b at_c at_d in_c in_d free_c free_d x y = unwritten-twice why again m n at_c at_d case_a case_b free_c free_d x y
  same-turn (unwritten why m) (acted n q) case_a case_b at_c at_d in_c in_d free_c free_d x y = absurd (unwritten-or-entered why m n at_c at_d free_c x y.done.allowed.entered)
  same-turn (unwritten why m) (unstored again n q) case_a case_b at_c at_d in_c in_d free_c free_d x y = absurd (unwritten-or-entered why m n at_c at_d free_c x y.allowed.entered)
  same-turn (acted m p) undrawn case_a case_b at_c at_d in_c in_d free_c free_d x y = absurd free_d
  same-turn (acted m p) without_memory case_a case_b at_c at_d in_c in_d free_c free_d x y = absurd free_d
  same-turn (acted m p) (untold access entry) case_a case_b at_c at_d in_c in_d free_c free_d x y = absurd free_d
  same-turn (acted m p) (unacted access) case_a case_b at_c at_d in_c in_d free_c free_d x y = absurd free_d
  same-turn (acted m p) unplanned case_a case_b at_c at_d in_c in_d free_c free_d x y = absurd (planned-refused x.done.allowed.entered.plan x.done.allowed.entered.read.planned y)
  same-turn (acted m p) (stepped n) case_a case_b at_c at_d in_c in_d free_c free_d x y = absurd (allowed-or-other m n at_c at_d x.done.allowed y)
  same-turn (acted m p) (full n) case_a case_b at_c at_d in_c in_d free_c free_d x y = absurd (room-or-full m n at_c at_d x.done.allowed.entered y)
  same-turn (acted m p) (unwritten again n) case_a case_b at_c at_d in_c in_d free_c free_d x y = absurd (entered-or-unwritten again m n at_c at_d free_d x.done.allowed.entered y)
  same-turn (acted m p) (acted n q) case_a case_b at_c at_d in_c in_d free_c free_d x y = acted-twice m n p q at_c at_d in_c in_d case_a case_b x y
  same-turn (acted m p) (unstored again n q) case_a case_b at_c at_d in_c in_d free_c free_d x y = absurd (done-or-unstored again m n p q at_c at_d in_c in_d free_d x.done y)
  same-turn (unstored why m p) undrawn case_a case_b at_c at_d in_c in_d free_c free_d x y = absurd free_d
  same-turn (unstored why m p) without_memory case_a case_b at_c at_d in_c in_d free_c free_d x y = absurd free_d
  same-turn (unstored why m p) (untold access entry) case_a case_b at_c at_d in_c in_d free_c free_d x y = absurd free_d
  same-turn (unstored why m p) (unacted access) case_a case_b at_c at_d in_c in_d free_c free_d x y = absurd free_d
  same-turn (unstored why m p) unplanned case_a case_b at_c at_d in_c in_d free_c free_d x y = absurd (planned-refused x.allowed.entered.plan x.allowed.entered.read.planned y)
  same-turn (unstored why m p) (stepped n) case_a case_b at_c at_d in_c in_d free_c free_d x y = absurd (allowed-or-other m n at_c at_d x.allowed y)
  same-turn (unstored why m p) (full n) case_a case_b at_c at_d in_c in_d free_c free_d x y = absurd (room-or-full m n at_c at_d x.allowed.entered y)
  same-turn (unstored why m p) (unwritten again n) case_a case_b at_c at_d in_c in_d free_c free_d x y = absurd (entered-or-unwritten again m n at_c at_d free_d x.allowed.entered y)
  same-turn (unstored why m p) (acted n q) case_a case_b at_c at_d in_c in_d free_c free_d x y = absurd (unstored-or-done why m n p q at_c at_d in_c in_d free_c x y.done)
  same-turn (unstored why m p) (unstored again n q) case_a case_b at_c at_d in_c in_d free_c free_d x y = unstored-twice why again m n p q at_c at_d in_c in_d case_a case_b free_c free_d x y
