-- Turns in histories that go on, and turns that follow others.
use Rattle.std.proofs.Common.{◌≡◌, ◌≢◌, ◌<◌, ◌≤◌, ◌+◌, ◌^◌, ℕ, List, [], ◌∷◌, ◌++◌, length, take, Some, sym, ap, subst, ◌∙◌, arith, length-append, append_assoc}
use Rattle.std.specs.Prelude.{false, slice_get}
use Rattle.std.specs.List.{AllByRecursion}
use Rattle.std.proofs.lemmas.List.{take-append-le, get_or_append_left}
use Rattle.std.proofs.lemmas.Option.{slice_get_within, slice_get-get_or}
use Rattle.pol_shared_objects.specs.Machine.{reply_of}
use Rattle.pol_answers.specs.Texts.{answer_of}
use Rattle.pol_objects.specs.Machine.{object_reply}
use Rattle.pol_object_answers.specs.ObjectAnswers.{object_answer_of}
use Rattle.pol_object_store.specs.ObjectHistory.{object_state_at}
use Rattle.pol_object_store.specs.ObjectRecords.{object_changes, object_end_after, object_end_with}
use Rattle.pol_object_store.specs.declared.entry.ObjectEntry.{ObjectEntry}
use Rattle.pol_records.specs.declared.unwritten.Unwritten.{Unwritten}
use Rattle.pol_shared_objects.specs.Accessed.{access_allowed}
use Rattle.pol_shared_objects.specs.Stepped.{HasSpace}
use Rattle.pol_shared_objects.specs.Acted.{HasObjectSpace}
use Rattle.pol_shared_objects.specs.History.{changes_of, end_after, end_with, state_at}
use Rattle.pol_shared_objects.specs.Entry.{Entry}
use Rattle.pol_server.specs.Actions.{tells_change}
use Rattle.pol_server.specs.Both.{HasSeenBoth, SeenBoth}
use Rattle.pol_server.specs.Turn.{AnsweredAs, AreMarked, AreOrdered, Case, IsActed, IsAllowedAt, IsAnswered, IsDoneAt, IsEnteredAt, IsFrom, IsFullAs, IsFullAt, IsOrdered, IsStepped, IsUnacted, IsUnstored, IsUntold, IsUnwritten, LastCloses, NoneCloses, Spot, Turn, acted, behind, catalogue_marks_in, catalogue_spot, entry_at, failed_draws, failed_in, full, low_after, nowhere, object_marks_in, object_spot, stepped, text_of, total_of, unacted, undrawn, unplanned, unstored, untold, unwritten, without_memory}
use Rattle.pol_server.specs.declared.served.Place.{Place}
use Rattle.pol_server.proofs.BothLemmas.{both-grow, both-grown}

-- what holds of each of two lists holds of each of both
pub each-append : {X : Type 0} (P : X → Type 0) (xs ys : List X) → AllByRecursion P xs → AllByRecursion P ys → AllByRecursion P (xs ++ ys)
each-append P [] ys first second = second
each-append P (x ∷ xs) ys first second = (first.0, each-append P xs ys first.1 second)

pub each-weaken : {X : Type 0} (P Q : X → Type 0) (xs : List X) → ((x : X) → P x → Q x) → AllByRecursion P xs → AllByRecursion Q xs
each-weaken P Q [] weaker each = tt
each-weaken P Q (x ∷ xs) weaker each = (weaker x each.0, each-weaken P Q xs weaker each.1)

module _ {X : Type 0} (history more : List X) where
  -- an entry stays where it is, and so does what stands before it
  there-longer : (place : ℕ) (entry : X) → slice_get history place ≡ Some entry → slice_get (history ++ more) place ≡ Some entry
  there-longer place entry there =
      let within : place < length history = slice_get_within history place entry there in
      let longer : place < length (history ++ more) = omega (arith, length-append history more) in
      slice_get-get_or (history ++ more) place entry longer
      ∙ ap (λ found. Some found) (get_or_append_left history more entry place within)
      ∙ sym (slice_get-get_or history place entry within) ∙ there

  before-entry : (place : ℕ) (entry : X) → slice_get history place ≡ Some entry → take place (history ++ more) ≡ take place history
  before-entry place entry there =
      let within : place < length history = slice_get_within history place entry there in
      take-append-le place history more (omega (arith, within))

module _ (seen : SeenBoth) (more : List Entry) (later : List ObjectEntry) (failed lost : ℕ) where
  abbrev longer : SeenBoth
  longer = both-grown seen more later failed lost

  abbrev entered-longer : (turn : Turn) (place : ℕ) → IsEnteredAt seen turn place → IsEnteredAt longer turn place
  entered-longer turn place is =
      let same : take place (seen.catalogue.front ++ more) ≡ take place seen.catalogue.front = before-entry seen.catalogue.front more place is.entry is.there in
      record {
        plan = is.plan;
        moment = is.moment;
        entry = is.entry;
        read = is.read;
        entry_is = is.entry_is;
        there = there-longer seen.catalogue.front more place is.entry is.there;
        has_room = subst (λ front. (state_at seen.catalogue.base front).charged + is.plan.charge ≤ 2 ^ 30) (sym same) is.has_room;
        has_space = subst (λ front. HasSpace seen.catalogue front is.entry.command) (sym same) is.has_space;
      }

  stepped-longer : (turn : Turn) (place : ℕ) → IsStepped seen turn place → IsStepped longer turn place
  stepped-longer turn place is =
      let same : take place (seen.catalogue.front ++ more) ≡ take place seen.catalogue.front = before-entry seen.catalogue.front more place is.entered.entry is.entered.there in
      record {
        entered = entered-longer turn place is.entered;
        other = λ verb some. subst (λ front. reply_of (state_at seen.catalogue.base front) is.entered.entry.command ≢ access_allowed) (sym same) (is.other verb some);
        answer = is.answer ∙ ap (λ front. text_of turn.message (answer_of (reply_of (state_at seen.catalogue.base front) is.entered.entry.command))) (sym same);
      }

  full-longer : (turn : Turn) (count : ℕ) → IsFullAt seen turn count → IsFullAt longer turn count
  full-longer turn count is =
      let same : take count (seen.catalogue.front ++ more) ≡ take count seen.catalogue.front = take-append-le count seen.catalogue.front more is.within in
      record {
        plan = is.plan;
        moment = is.moment;
        charged = is.charged;
        read = is.read;
        within = omega (arith, is.within, length-append seen.catalogue.front more);
        charged_is = is.charged_is ∙ ap (λ front. (state_at seen.catalogue.base front).charged) (sym same);
        full = is.full;
        answer = is.answer;
      }

  unwritten-longer : (turn : Turn) (why : Unwritten) (count : ℕ) → IsUnwritten seen turn why count → IsUnwritten longer turn why count
  unwritten-longer turn why count is =
      let same : take count (seen.catalogue.front ++ more) ≡ take count seen.catalogue.front = take-append-le count seen.catalogue.front more is.within in
      record {
        plan = is.plan;
        moment = is.moment;
        command = is.command;
        read = is.read;
        command_is = is.command_is;
        within = omega (arith, is.within, length-append seen.catalogue.front more);
        some = subst (λ front. changes_of (state_at seen.catalogue.base front) is.command ≢ []) (sym same) is.some;
        full = subst (λ front. IsFullAs why (end_after seen.catalogue.opened seen.catalogue.base front) (end_with seen.catalogue.opened seen.catalogue.base front is.command)) (sym same) is.full;
        answer = is.answer;
      }

  abbrev allowed-longer : (turn : Turn) (access : ℕ) → IsAllowedAt seen turn access → IsAllowedAt longer turn access
  allowed-longer turn access is =
      let same : take access (seen.catalogue.front ++ more) ≡ take access seen.catalogue.front = before-entry seen.catalogue.front more access is.entered.entry is.entered.there in
      record {
        entered = entered-longer turn access is.entered;
        verb = is.verb;
        path = is.path;
        verb_is = is.verb_is;
        asked = is.asked;
        allowed = ap (λ front. reply_of (state_at seen.catalogue.base front) is.entered.entry.command) same ∙ is.allowed;
      }

  abbrev done-longer : (turn : Turn) (access entry : ℕ) → IsDoneAt seen turn access entry → IsDoneAt longer turn access entry
  done-longer turn access entry is = record {
    allowed = allowed-longer turn access is.allowed;
    action = is.action;
    action_is = is.action_is;
    there = there-longer seen.objects.front later entry _ is.there;
    has_space = subst (λ front. HasObjectSpace seen.objects front is.action) (sym (before-entry seen.objects.front later entry _ is.there)) is.has_space;
  }

  objects-before : (turn : Turn) (access entry : ℕ) → IsDoneAt seen turn access entry → take entry (seen.objects.front ++ later) ≡ take entry seen.objects.front
  objects-before turn access entry is = before-entry seen.objects.front later entry _ is.there

  acted-longer : (turn : Turn) (access entry : ℕ) → IsActed seen turn access entry → IsActed longer turn access entry
  acted-longer turn access entry is = record {
    done = done-longer turn access entry is.done;
    answer = is.answer ∙ ap (λ front. text_of turn.message (object_answer_of (object_reply (object_state_at seen.objects.base front) is.done.action))) (sym (objects-before turn access entry is.done));
  }

  untold-longer : (turn : Turn) (access entry : ℕ) → IsUntold seen turn access entry → IsUntold longer turn access entry
  untold-longer turn access entry is = record {
    done = done-longer turn access entry is.done;
    unchanged = subst (λ front. tells_change (object_reply (object_state_at seen.objects.base front) is.done.action) ≡ false) (sym (objects-before turn access entry is.done)) is.unchanged;
    answer = is.answer;
  }

  unacted-longer : (turn : Turn) (access : ℕ) → IsUnacted seen turn access → IsUnacted longer turn access
  unacted-longer turn access is = record { allowed = allowed-longer turn access is.allowed; answer = is.answer }

  unstored-longer : (turn : Turn) (why : Unwritten) (access count : ℕ) → IsUnstored seen turn why access count → IsUnstored longer turn why access count
  unstored-longer turn why access count is =
      let same : take count (seen.objects.front ++ later) ≡ take count seen.objects.front = take-append-le count seen.objects.front later is.within in
      record {
        allowed = allowed-longer turn access is.allowed;
        action = is.action;
        action_is = is.action_is;
        within = omega (arith, is.within, length-append seen.objects.front later);
        some = subst (λ front. object_changes (object_state_at seen.objects.base front) is.action ≢ []) (sym same) is.some;
        full = subst (λ front. IsFullAs why (object_end_after seen.objects.opened seen.objects.base front) (object_end_with seen.objects.opened seen.objects.base front is.action)) (sym same) is.full;
        answer = is.answer;
      }

  answered-by : (case : Case) (turn : Turn) → AnsweredAs seen case turn → AnsweredAs longer case turn
  answered-by unplanned turn is = is
  answered-by undrawn turn is = is
  answered-by (stepped place) turn is = stepped-longer turn place is
  answered-by (full count) turn is = full-longer turn count is
  answered-by (unwritten why count) turn is = unwritten-longer turn why count is
  answered-by (acted access entry) turn is = acted-longer turn access entry is
  answered-by (untold access entry) turn is = untold-longer turn access entry is
  answered-by (unacted access) turn is = unacted-longer turn access is
  answered-by (unstored why access count) turn is = unstored-longer turn why access count is
  answered-by without_memory turn is = is

  answered-longer : (turns : List Turn) → AllByRecursion (IsAnswered seen) turns → AllByRecursion (IsAnswered longer) turns
  answered-longer turns answered =
      each-weaken (IsAnswered seen) (IsAnswered longer) turns (λ turn is. answered-by turn.case turn is) answered

-- a turn that was answered stays so while the histories go on
pub answered-later : (old new : SeenBoth) (places : List Place) (turns : List Turn) → HasSeenBoth old new places → AllByRecursion (IsAnswered old) turns → AllByRecursion (IsAnswered new) turns
answered-later old new places turns seen answered =
    subst (λ new. AllByRecursion (IsAnswered new) turns) (sym (both-grow old new places seen)) (answered-longer old seen.catalogue.front.0 seen.objects.front.0 new.catalogue.failed new.objects.failed turns answered)

-- turns that follow others
low_after-later : (low high : ℕ) (spot : Spot) → low ≤ high → low_after low spot ≤ low_after high spot
low_after-later low high nowhere within = within
low_after-later low high (entry_at place) within = omega arith
low_after-later low high (behind count) within = omega arith

from-earlier : (low high : ℕ) (spot : Spot) → low ≤ high → IsFrom high spot → IsFrom low spot
from-earlier low high nowhere within from = tt
from-earlier low high (entry_at place) within from = omega (arith, within, from)
from-earlier low high (behind count) within from = omega (arith, within, from)

module _ (spot : Case → Spot) where
  ordered-earlier : (low later : ℕ) (turns : List Turn) (high : ℕ) → low ≤ later → IsOrdered spot later turns high → IsOrdered spot low turns high
  ordered-earlier low later [] high within ordered = omega (arith, within, ordered)
  ordered-earlier low later (turn ∷ turns) high within ordered = (
    from-earlier low later (spot turn.case) within ordered.0,
    ordered-earlier (low_after low (spot turn.case)) (low_after later (spot turn.case)) turns high (low_after-later low later (spot turn.case) within) ordered.1,
  )

  ordered-append : (low : ℕ) (turns others : List Turn) (middle high : ℕ) → IsOrdered spot low turns middle → IsOrdered spot middle others high → IsOrdered spot low (turns ++ others) high
  ordered-append low [] others middle high first second = ordered-earlier low middle others high first second
  ordered-append low (turn ∷ turns) others middle high first second =
      (first.0, ordered-append (low_after low (spot turn.case)) turns others middle high first.1 second)

pub both-ordered : (a b c : SeenBoth) (turns others : List Turn) → AreOrdered a b turns → AreOrdered b c others → AreOrdered a c (turns ++ others)
both-ordered a b c turns others first second = record {
  catalogue = ordered-append catalogue_spot (length a.catalogue.front) turns others (length b.catalogue.front) (length c.catalogue.front) first.catalogue second.catalogue;
  objects = ordered-append object_spot (length a.objects.front) turns others (length b.objects.front) (length c.objects.front) first.objects second.objects;
}

-- how often something failed in turns and in others
pub total_of-append : (count : Case → ℕ) (turns others : List Turn) → total_of count (turns ++ others) ≡ total_of count turns + total_of count others
total_of-append count [] others = omega arith
total_of-append count (turn ∷ turns) others = omega (arith, total_of-append count turns others)

pub failed_draws-append : (turns others : List Turn) → failed_draws (turns ++ others) ≡ failed_draws turns + failed_draws others
failed_draws-append turns others = total_of-append failed_in turns others

-- no turn makes no mark
pub both-unmarked : (old new : SeenBoth) (places : List Place) → HasSeenBoth old new places → AreMarked old new []
both-unmarked old new places seen = record {
  catalogue = omega (arith, seen.catalogue.kept);
  objects = omega (arith, seen.objects.kept);
}

pub both-marked : (a b c : SeenBoth) (turns others : List Turn) → AreMarked a b turns → AreMarked b c others → AreMarked a c (turns ++ others)
both-marked a b c turns others first second = record {
  catalogue = omega (arith, first.catalogue, second.catalogue, total_of-append catalogue_marks_in turns others);
  objects = omega (arith, first.objects, second.objects, total_of-append object_marks_in turns others);
}

-- the last of all closes where the last of the later ones does
pub last-append : (turns others : List Turn) → NoneCloses turns → LastCloses others → LastCloses (turns ++ others)
last-append turns others open_ last =
    (turns ++ last.0, last.1, ap (λ later. turns ++ later) last.2 ∙ sym (append_assoc turns last.0 (last.1 ∷ [])), each-append _ turns last.0 open_ last.3, last.4)
