-- A served link: what was taken, answered and given, and how it ended (RFC 9112, section 9).
use Rattle.std.specs.Prelude.{◌≡◌, ◌≢◌, ◌<◌, ◌≤◌, ◌+◌, ◌-◌, ◌^◌, ◌⊎◌, ℕ, List, [], ◌∷◌, ◌++◌, length, map, true, false}
use Rattle.std.specs.List.{flat_map, AllByRecursion}
use Rattle.std.specs.Io.KnownBytes.{Appends, Consumes, IsAtEnd}
use Rattle.pol_http.specs.Answer.{answer_text}
use Rattle.pol_http.specs.Message.{HasAskingHead, HasNoMessage, IsMessage, IsNotRefused, IsRefusedAs, print_message}
use Rattle.pol_http.specs.declared.answer.TheConstants.{CONTINUE, INSUFFICIENT_STORAGE}
use Rattle.pol_http.specs.declared.head.HeadRefused.{HeadRefused}
use Rattle.pol_answers.specs.Texts.{head_refused_answer}
use Rattle.pol_wire.specs.Faults.{Rises}
use Rattle.pol_wire.specs.Streams.{IsShifted}
use Rattle.pol_server.specs.Ends.{Ends}
use Rattle.pol_server.specs.Both.{HasSeenBoth, SeenBoth}
use Rattle.pol_server.specs.Turn.{Turn, AreMarked, AreOrdered, IsAnswered, LastCloses, NoneCloses, failed_draws, framed, output_of, place_of}
use Rattle.pol_server.specs.declared.served.Ending.{Ending}
use Rattle.pol_server.specs.declared.served.Ending.TheVariants.{Ended, Cut, Closed, ReadFault, WriteFault, Spent, NoMemory}
use Rattle.pol_server.specs.declared.served.Served.{Served}

-- the most bytes that are taken from a link
abbrev pub taken_bound : ℕ
taken_bound = 2 ^ 40

-- the text of a refused head, after which the connection ends
abbrev pub refused_text : HeadRefused → List ℕ
refused_text why = answer_text (framed true false (head_refused_answer why))

-- what a rest is told before its body: `100 Continue` where its whole head asks
abbrev pub IsToldBefore : List ℕ → List ℕ → Type 0
IsToldBefore rest text = (HasAskingHead rest × (text ≡ CONTINUE.now)) ⊎ ((¬ (HasAskingHead rest)) × (text ≡ []))

-- the rest begins with no message and is not refused, so that more bytes are wanted
pub record IsUnfinishedRest (rest text : List ℕ) : Type 0 where
  pub no_message : HasNoMessage rest
  pub not_refused : IsNotRefused rest
  pub told : IsToldBefore rest text

-- the rest is refused, and told why
pub record IsRefusedRest (rest text : List ℕ) : Type 0 where
  pub why : HeadRefused
  pub refused : IsRefusedAs rest why
  pub text_is : text ≡ refused_text why

-- memory was wanting for the rest
pub record IsRestWithoutMemory (rest text : List ℕ) : Type 0 where
  pub told : List ℕ
  pub told_is : IsToldBefore rest told
  pub text_is : text ≡ told ++ INSUFFICIENT_STORAGE.now

-- the text that was to be given to a rest where the write failed; none was where an answer's failed
abbrev pub MayBeGiven : List ℕ → List ℕ → Type 0
MayBeGiven rest text = IsToldBefore rest text ⊎ (IsRefusedRest rest text ⊎ IsRestWithoutMemory rest text)

-- how a link ends behind the turns that were taken, with this rest of its bytes and this text. A source is asked only
-- while more bytes may be taken, so that a link which has taken all of them is spent and at no end
abbrev pub EndsBy : Ending → Ends → Ends → List Turn → ℕ → List ℕ → List ℕ → Type 0
EndsBy Ended before after turns taken rest text =
    NoneCloses turns × IsAtEnd after.left × (rest ≡ []) × (text ≡ []) × (taken < taken_bound)
EndsBy Cut before after turns taken rest text =
    NoneCloses turns × IsAtEnd after.left × (rest ≢ []) × IsUnfinishedRest rest text × (taken < taken_bound)
EndsBy Closed before after turns taken rest text = (LastCloses turns × (text ≡ [])) ⊎ (NoneCloses turns × IsRefusedRest rest text)
EndsBy ReadFault before after turns taken rest text =
    NoneCloses turns × Rises before.source_faults after.source_faults × IsUnfinishedRest rest text × (taken < taken_bound)
EndsBy WriteFault before after turns taken rest text =
    Rises before.sink_faults after.sink_faults × (((LastCloses turns ⊎ NoneCloses turns) × (text ≡ [])) ⊎ (NoneCloses turns × MayBeGiven rest text))
EndsBy Spent before after turns taken rest text = NoneCloses turns × (taken ≡ taken_bound) × IsUnfinishedRest rest text
EndsBy NoMemory before after turns taken rest text = NoneCloses turns × IsRestWithoutMemory rest text

-- the text ends with these bytes
abbrev pub EndsWith : List ℕ → List ℕ → Type 0
EndsWith text bytes = (front : List ℕ) × (text ≡ front ++ bytes)

-- what a failed write left out is an end of the last text: the ending's, or the last turn's answer where the ending has
-- none. So all that stands before that text was given, and nothing was handled behind one that could not be given
abbrev pub EndsLastText : List Turn → List ℕ → List ℕ → Type 0
EndsLastText turns text missing =
    EndsWith text missing
    ⊎ ((text ≡ []) × (front : List Turn) × (last : Turn) × (turns ≡ front ++ last ∷ []) × EndsWith last.answer missing)

-- a link that was served: its ends and what is seen of the catalogue and the objects, before and after, and what was
-- answered
pub record ServesLink (before after : Ends) (old new : SeenBoth) (served : Served) : Type 0 where
  -- one turn for each message that was handled; the bytes that were taken, and those behind the messages; the text
  -- of the ending; the bytes that were given, and those that a failed write left out
  pub turns : List Turn
  pub taken : List ℕ
  pub rest : List ℕ
  pub text : List ℕ
  pub given : List ℕ
  pub missing : List ℕ
  pub takes : Consumes before.left after.left taken
  pub within : length taken ≤ taken_bound
  pub whole : AllByRecursion (λ turn. IsMessage turn.message) turns
  pub cut : taken ≡ flat_map (λ turn. print_message turn.message) turns ++ rest
  pub moments : IsShifted before.moments after.moments (flat_map (λ turn. turn.moments) turns)
  pub words : IsShifted before.words after.words (flat_map (λ turn. turn.words) turns)
  pub draws : after.draw_faults < 2 ^ 64 - 1 → before.draw_faults + failed_draws turns ≤ after.draw_faults
  pub places : served.places ≡ map place_of turns
  pub stores : HasSeenBoth old new served.places
  pub answered : AllByRecursion (IsAnswered new) turns
  pub ordered : AreOrdered old new turns
  pub marked : AreMarked old new turns
  pub gives : Appends before.given after.given given
  pub output : given ++ missing ≡ flat_map output_of turns ++ text
  pub complete : served.ending ≢ WriteFault → missing ≡ []
  pub left_out : EndsLastText turns text missing
  pub ends : EndsBy served.ending before after turns (length taken) rest text
