-- What each action of a served link does to it.
use Rattle.std.proofs.Common.{◌≡◌, ◌≢◌, ◌<◌, ◌≤◌, ◌+◌, ◌⊎◌, ℕ, Bool, true, false, List, [], ◌∷◌, ◌++◌, length, Some, None, Option, Result, Ok, Err, ◌&&◌, ◌||◌, if◌then◌else◌, refl, sym, ap, subst, ◌∙◌, inl, inr, arith, append-nil, append_assoc, length-append}
use Rattle.std.specs.List.{flat_map}
use Rattle.httparse.specs.Grammar.{RequestHead, print_request}
use Rattle.httparse.proofs.GrammarLemmas.{request_unique}
use Rattle.pol_http.specs.Head.{asks, body_length, closes, has_body}
use Rattle.pol_http.specs.Message.{HasAskingHead, IsMessage, IsRefusedAs, Message, ReadsMessage, print_message}
use Rattle.pol_http.specs.declared.answer.TheConstants.{CONTINUE, INSUFFICIENT_STORAGE}
use Rattle.pol_http.specs.declared.head.HeadRefused.{HeadRefused}
use Rattle.pol_http.proofs.MessageLemmas.{head_of_message, known_not_refused}
use Rattle.pol_wire.specs.Faults.{Rises}
use Rattle.std.proofs.KnownBytes.{Appends-nil}
use Rattle.pol_server.specs.declared.connection.Connection.{Connection}
use Rattle.pol_server.specs.Ends.{Ends}
use Rattle.pol_server.specs.Both.{SeenBoth}
use Rattle.pol_server.specs.Link.{IsRestWithoutMemory, IsToldBefore, IsUnfinishedRest}
use Rattle.pol_server.specs.Calls.{GivesAll}
use Rattle.pol_server.specs.Handling.{Handles, text_by}
use Rattle.pol_server.specs.Serving.{ReadsOn, standing, Continues, Finishes, FitsEnding, Goes, IsToldAsked, Moves, Says, Standing, told_text}
use Rattle.pol_server.specs.Turn.{LastCloses, NoneCloses, Turn, output_of, told_before}
use Rattle.pol_server.specs.declared.served.Ending.{Ending}
use Rattle.pol_server.specs.declared.served.Ending.TheVariants.{Ended, Cut, Closed, WriteFault, NoMemory}
use Rattle.pol_server.specs.declared.served.Place.{Place}
use Rattle.std.specs.Prelude.{IsErr, IsOk}
use Rattle.pol_http.proofs.HeadLemmas.{length-print_request}
use Rattle.pol_server.proofs.EndsLemmas.{rises-earlier}
use Rattle.pol_server.proofs.GoesLemmas.{continues-trans, finishes-after, Stays, goes-given, goes-read, goes-trans, goes-turn}

-- the head of a message that asks is the one that asks
pub asked-message : (buffer : List ℕ) (message : Message) (rest : List ℕ) → HasAskingHead buffer → ReadsMessage buffer message rest → asks message.head ≡ true
asked-message buffer message rest asking reads =
    ap asks (request_unique buffer message.head asking.0 (message.body ++ rest) asking.1 (head_of_message reads) asking.2).0 ∙ asking.3

pub message-asks : (buffer : List ℕ) (message : Message) (rest : List ℕ) → ReadsMessage buffer message rest → asks message.head ≡ true → HasAskingHead buffer
message-asks buffer message rest reads asking = (message.head, message.body ++ rest, head_of_message reads, asking)

-- what the message at the front was told is what its head asks for
pub told-before : (buffer : List ℕ) (message : Message) (rest : List ℕ) (told : Bool) → ReadsMessage buffer message rest → told ≡ asks message.head → IsToldBefore buffer (told_text told)
told-before buffer message rest true reads is = inl (message-asks buffer message rest reads (sym is), refl)
told-before buffer message rest false reads is =
    inr ((λ asking. let contrary : false ≡ true = is ∙ asked-message buffer message rest asking reads in cc), refl)

-- telling it where its head asks makes it so
pub told-or : (buffer : List ℕ) (message : Message) (rest : List ℕ) (told asked : Bool) → ReadsMessage buffer message rest → IsToldAsked told buffer → asked ≡ asks message.head → (told || asked) ≡ asks message.head
told-or buffer message rest true asked reads known is = sym (asked-message buffer message rest (known refl) reads)
told-or buffer message rest false asked reads known is = is

and-right : (a b : Bool) → (a && b) ≡ true → b ≡ true
and-right true b both = both
and-right false b both = cc

length-known : (result : Result ℕ HeadRefused) → has_body result ≡ true → (n : ℕ) × (result ≡ Ok n)
length-known (Ok n) some = (n, refl)
length-known (Err why) some = cc

asking-known : (head : RequestHead) → asks head ≡ true → (n : ℕ) × (body_length head ≡ Ok n)
unfolding asks
asking-known head asking = length-known (body_length head) (and-right _ (has_body (body_length head)) asking)

-- no refused rest asks
pub refused-silent : (buffer : List ℕ) (why : HeadRefused) → IsRefusedAs buffer why → ¬ (HasAskingHead buffer)
refused-silent buffer why refused asking =
    let known = asking-known asking.0 asking.3 in
    known_not_refused buffer asking.0 asking.1 known.0 asking.2 known.1 why refused

pub silent-untold : (told : Bool) (buffer : List ℕ) → IsToldAsked told buffer → ¬ (HasAskingHead buffer) → told ≡ false
silent-untold true buffer known silent = absurd (silent (known refl))
silent-untold false buffer known silent = refl

module _ (a b : Standing) (stays : Stays a b) (text given missing : List ℕ) (bytes_are : text ≡ given ++ missing) (goes : Goes a b [] [] given) where
  -- a text that was given for an ending
  finishes-with : (ending : Ending) → FitsEnding ending [] b.buffer (told_text a.told ++ text) → (ending ≢ WriteFault → missing ≡ []) → (ending ≡ WriteFault → Rises a.ends.sink_faults b.ends.sink_faults) → Finishes ending a b
  finishes-with ending fits complete caused = record {
    turns = [];
    taken = [];
    out = given;
    missing = missing;
    text = told_text a.told ++ text;
    goes = goes;
    said = ap (λ bytes. told_text a.told ++ bytes) (sym bytes_are);
    complete = complete;
    left_out = inl (told_text a.told ++ given, ap (λ bytes. told_text a.told ++ bytes) bytes_are ∙ sym (append_assoc (told_text a.told) given missing));
    fits = fits;
    caused = caused;
  }

-- a text that is to end the link
pub moves-saying : (a b : Standing) (text : List ℕ) (done : Ending) (result : Option Ending) → Says a.ends b.ends text (Some done) result → Stays a b → done ≢ WriteFault
    → FitsEnding done [] b.buffer (told_text a.told ++ text) → FitsEnding WriteFault [] b.buffer (told_text a.told ++ text) → Moves result a b
moves-saying a b text done result says stays other fits faulty = by says.outcome
  where
    goes : Goes a b [] [] says.given
    goes = goes-given a b says.given stays says.same says.gives says.kept

    by : ((result ≡ Some done) × (says.missing ≡ [])) ⊎ ((result ≡ Some WriteFault) × Rises a.ends.sink_faults b.ends.sink_faults) → Moves result a b
    by (inl said) = subst (λ r. Moves r a b) (sym said.0) (finishes-with a b stays text says.given says.missing says.bytes_are goes done fits (λ _. said.1) (λ is. absurd (other is)))
    by (inr fault) = subst (λ r. Moves r a b) (sym fault.0) (finishes-with a b stays text says.given says.missing says.bytes_are goes WriteFault faulty (λ differs. absurd (differs refl)) (λ _. fault.1))

-- one message: it was handled, and then its answer was given
module _ (a b : Standing) (now : Ends) (message : Message) (place : Place) (text : Option (List ℕ)) (closing : Bool) (result : Option Ending)
    (handles : Handles a.ends now a.seen b.seen message place text) (whole : IsMessage message) (front : a.buffer ≡ print_message message ++ b.buffer)
    (added : b.places ≡ a.places ++ place ∷ []) (budget : b.budget ≡ a.budget) (untold : b.told ≡ false) (told_is : told_text a.told ≡ told_before message)
    (closing_is : closing ≡ closes message.head) (says : Says now b.ends (text_by text) (if closing then Some Closed else None) result) where
  abbrev turn : Turn
  turn = handles.turn

  abbrev middle : Standing
  middle = record b { ends = now }

  goes-handled : Goes a middle (turn ∷ []) [] []
  goes-handled = goes-turn a middle message place text handles whole front added budget

  goes-answered : Goes a b (turn ∷ []) [] says.given
  goes-answered = goes-trans a middle b (turn ∷ []) [] [] [] [] says.given goes-handled
      (goes-given middle b says.given (record { seen = refl; places = refl; buffer = refl; budget = refl }) says.same says.gives says.kept)

  said-answer : told_text a.told ++ (says.given ++ says.missing) ≡ flat_map output_of (turn ∷ []) ++ []
  said-answer =
      ap (λ front. front ++ (says.given ++ says.missing)) told_is
      ∙ ap (λ back. told_before message ++ back) (sym says.bytes_are ∙ handles.text_is)
      ∙ ap (λ message. told_before message ++ turn.answer) (sym handles.message_is)
      ∙ sym (append-nil (output_of turn)) ∙ sym (append-nil (flat_map output_of (turn ∷ [])))

  closes-turn : (closed : Bool) → closing ≡ closed → closes turn.message.head ≡ closed
  closes-turn closed is = ap (λ message. closes message.head) handles.message_is ∙ sym closing_is ∙ is

  sink-kept : a.ends.sink_faults ≤ now.sink_faults
  sink-kept = omega (arith, ap (λ ends. ends.sink_faults) handles.same)

  goes-on : closing ≡ false → says.missing ≡ [] → Continues a b
  goes-on is none = record {
    turns = turn ∷ [];
    taken = [];
    out = says.given;
    goes = goes-answered;
    said = ap (λ bytes. told_text a.told ++ bytes) (sym (append-nil says.given)) ∙ ap (λ missing. told_text a.told ++ (says.given ++ missing)) (sym none)
        ∙ said-answer ∙ ap (λ told. flat_map output_of (turn ∷ []) ++ told_text told) (sym untold);
    open_ = (closes-turn false is, tt);
  }

  finishes-answer : (ending : Ending) → FitsEnding ending (turn ∷ []) b.buffer [] → (ending ≢ WriteFault → says.missing ≡ []) → (ending ≡ WriteFault → Rises now.sink_faults b.ends.sink_faults) → Finishes ending a b
  finishes-answer ending fits complete caused = record {
    turns = turn ∷ [];
    taken = [];
    out = says.given;
    missing = says.missing;
    text = [];
    goes = goes-answered;
    said = said-answer;
    complete = complete;
    left_out = inr (refl, [], turn, refl, (says.given, sym handles.text_is ∙ says.bytes_are));
    fits = fits;
    caused = λ is. rises-earlier a.ends.sink_faults now.sink_faults b.ends.sink_faults sink-kept (caused is);
  }

  last-closes : closing ≡ true → LastCloses (turn ∷ [])
  last-closes is = ([], turn, refl, tt, closes-turn true is)

  some-closing : (closed : Bool) → closing ≡ closed → LastCloses (turn ∷ []) ⊎ NoneCloses (turn ∷ [])
  some-closing true is = inl (last-closes is)
  some-closing false is = inr (closes-turn false is, tt)

  said-all : (closed : Bool) → closing ≡ closed → result ≡ (if closed then Some Closed else None) → says.missing ≡ [] → Moves result a b
  said-all true is done none = subst (λ r. Moves r a b) (sym done) (finishes-answer Closed (inl (last-closes is, refl)) (λ _. none) (λ contrary. cc))
  said-all false is done none = subst (λ r. Moves r a b) (sym done) (goes-on is none)

  pub moves-turn : Moves result a b
  moves-turn = elim says.outcome [
    | inl said ↦ said-all closing refl said.0 said.1
    | inr fault ↦ subst (λ r. Moves r a b) (sym fault.0) (finishes-answer WriteFault (inl (some-closing closing refl, refl)) (λ differs. absurd (differs refl)) (λ _. fault.1))
  ]

-- the source gave some bytes, or stopped
pub reads-on : (before after : Ends) (old new : Connection) (seen : SeenBoth) → ReadsOn before after old new → Continues (standing before seen old) (standing after seen new)
reads-on before after old new seen reads = record {
  turns = [];
  taken = reads.taken;
  out = [];
  goes = goes-read (standing before seen old) (standing after seen new) reads.taken refl reads.places reads.same reads.bytes reads.kept reads.buffer reads.budget;
  said = append-nil (told_text old.told) ∙ ap told_text (sym reads.told);
  open_ = tt;
}

-- nothing was given for an ending
pub finishes-quiet : (a : Standing) (ending : Ending) → FitsEnding ending [] a.buffer (told_text a.told) → ending ≢ WriteFault → Finishes ending a a
finishes-quiet a ending fits other = record {
  turns = [];
  taken = [];
  out = [];
  missing = [];
  text = told_text a.told;
  goes = goes-given a a [] (record { seen = refl; places = refl; buffer = refl; budget = refl }) refl (Appends-nil a.ends.given) (omega arith);
  said = append-nil (told_text a.told);
  complete = λ _. refl;
  left_out = inl (told_text a.told, sym (append-nil (told_text a.told)));
  fits = fits;
  caused = λ is. absurd (other is);
}

-- where the source is at its end
pub finishes-at_end : (a : Standing) (ending : Ending) → ((ending ≡ Ended) × (a.buffer ≡ []) × (a.told ≡ false)) ⊎ ((ending ≡ Cut) × (a.buffer ≢ [])) → IsUnfinishedRest a.buffer (told_text a.told) → Finishes ending a a
finishes-at_end a ending (inl ended) unfinished =
    subst (λ ending. Finishes ending a a) (sym ended.0) (finishes-quiet a Ended (tt, ended.1, ap told_text ended.2) (λ is. cc))
finishes-at_end a ending (inr cut) unfinished =
    subst (λ ending. Finishes ending a a) (sym cut.0) (finishes-quiet a Cut (tt, cut.1, unfinished) (λ is. cc))

-- memory was wanting
pub moves-wanting : (a b : Standing) (result : Option Ending) → Says a.ends b.ends INSUFFICIENT_STORAGE.now (Some NoMemory) result → Stays a b → IsToldBefore b.buffer (told_text a.told) → Moves result a b
moves-wanting a b result says stays told_is =
    let wanting : IsRestWithoutMemory b.buffer (told_text a.told ++ INSUFFICIENT_STORAGE.now) = record { told = told_text a.told; told_is = told_is; text_is = refl } in
    moves-saying a b INSUFFICIENT_STORAGE.now NoMemory result says stays (λ is. cc) (tt, wanting) (inr (tt, inr (inr wanting)))

-- a link that goes on, and then moves
pub moves-after : (result : Option Ending) (a b c : Standing) → Continues a b → Moves result b c → Moves result a c
moves-after None a b c first second = continues-trans a b c first second
moves-after (Some ending) a b c first second = finishes-after ending a b c first second

-- telling the message at the front to go on, where it asks and wasn't told
told-both : (told asked : Bool) → told_text told ++ (if told then [] else told_text asked) ≡ told_text (told || asked)
told-both true asked = append-nil CONTINUE.now
told-both false asked = refl

pub continues-telling : {E : Type 0} (a b : Standing) (asked : Bool) (result : Result Unit E) → GivesAll a.ends b.ends (if a.told then [] else told_text asked) result → IsOk result → Stays a b → b.told ≡ (a.told || asked) → Continues a b
continues-telling a b asked (Ok done) gives ok stays told = record {
  turns = [];
  taken = [];
  out = gives.given;
  goes = goes-given a b gives.given stays gives.same gives.gives gives.kept;
  said = ap (λ bytes. told_text a.told ++ bytes) (sym (append-nil gives.given) ∙ ap (λ missing. gives.given ++ missing) (sym gives.complete) ∙ sym gives.bytes_are)
      ∙ told-both a.told asked ∙ ap told_text (sym told);
  open_ = tt;
}
continues-telling a b asked (Err error) gives ok stays told = cc

pub finishes-telling : {E : Type 0} (a b : Standing) (result : Result Unit E) → GivesAll a.ends b.ends CONTINUE.now result → IsErr result → Stays a b → a.told ≡ false → HasAskingHead b.buffer → Finishes WriteFault a b
finishes-telling a b (Ok done) gives fails stays untold asking = cc
finishes-telling a b (Err error) gives fails stays untold asking =
    finishes-with a b stays CONTINUE.now gives.given gives.missing gives.bytes_are (goes-given a b gives.given stays gives.same gives.gives gives.kept) WriteFault
    (inr (tt, inl (inl (asking, ap (λ told. told_text told ++ CONTINUE.now) untold)))) (λ differs. absurd (differs refl)) (λ _. gives.caused)

-- bytes with a head that asks are some
pub asking-some : (buffer : List ℕ) → HasAskingHead buffer → buffer ≢ []
asking-some buffer asking none =
    let some : 0 < length (print_request asking.0) = length-print_request asking.0 asking.2.0 in
    let both : length buffer ≡ length (print_request asking.0) + length asking.1 = ap length asking.2.1 ∙ length-append (print_request asking.0) asking.1 in
    absurd (omega (arith, some, both, ap length none))

pub or-true : (told : Bool) → (told || true) ≡ true
or-true true = refl
or-true false = refl
