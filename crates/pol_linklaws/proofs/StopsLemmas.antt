-- How two links that were served on the same input end.
use Rattle.std.proofs.Common.{◌≡◌, ◌≢◌, ◌<◌, ◌≤◌, ◌+◌, ◌⊎◌, ℕ, true, false, List, [], ◌∷◌, ◌++◌, length, take, drop, Some, refl, sym, ap, subst, ◌∙◌, inl, inr, arith, append-nil, length-append, take-append-drop}
use Rattle.std.specs.Prelude.{IsTrue}
use Rattle.std.specs.Io.KnownBytes.{IsAtEnd}
use Rattle.std.proofs.lemmas.List.{take_at, take-append-le}
use Rattle.std.proofs.lemmas.List.Elements.{All-nil, All-cons}
use Rattle.std.proofs.lemmas.Str.{IsUtf8-from_ascii}
use Rattle.std.proofs.lemmas.Str.Ascii.{IsAscii-cons, IsAscii-nil}
use Rattle.httparse.specs.Grammar.{IsField, IsRequestHead, RequestHead, crlf, is_token_byte, is_uri_byte, print_request}
use Rattle.pol_http.specs.Head.{closes}
use Rattle.pol_http.specs.Message.{HasAskingHead, IsNotRefused, IsRefusedAs, Message, ReadsMessage, print_message}
use Rattle.pol_http.proofs.HeadLemmas.{length-print_request}
use Rattle.pol_http.proofs.MessageLemmas.{length-message, message_not_refused, refused_stays, refused_unique}
use Rattle.pol_server.specs.Ends.{Ends}
use Rattle.pol_linklaws.specs.Laws.{IsByInput}
use Rattle.pol_server.specs.Link.{EndsBy, IsRefusedRest, IsToldBefore, IsUnfinishedRest, refused_text, taken_bound}
use Rattle.pol_server.specs.Turn.{NoneCloses, Turn}
use Rattle.pol_server.specs.declared.served.Ending.{Ending}
use Rattle.pol_server.specs.declared.served.Ending.TheVariants.{Ended, Cut, Closed, ReadFault, WriteFault, Spent, NoMemory}

-- a head that stands behind no bytes
witness : RequestHead
witness = record { blank = []; method = 65 ∷ []; target = 47 ∷ []; minor = 1; line_end = crlf; fields = []; last = crlf }

is_witness : IsRequestHead witness
unfolding witness is_token_byte
is_witness = record {
  method = (omega arith, All-cons (λ byte. IsTrue (is_token_byte byte)) 65 [] refl (All-nil (λ byte. IsTrue (is_token_byte byte))));
  target = (omega arith, All-cons (λ byte. IsTrue (is_uri_byte byte)) 47 [] refl (All-nil (λ byte. IsTrue (is_uri_byte byte))));
  target_text = IsUtf8-from_ascii (47 ∷ []) (IsAscii-cons 47 [] (omega arith) IsAscii-nil);
  minor = omega arith;
  fields = All-nil IsField;
}

-- no bytes at all are not refused
empty_not_refused : IsNotRefused []
empty_not_refused why (inl (bad, inl never)) = never (print_request witness) witness [] (is_witness, sym (append-nil (print_request witness)))
empty_not_refused why (inl (bad, inr (over, none))) = omega (arith, over)
empty_not_refused why (inr (head, rest, reads, refused)) =
    omega (arith, ap length reads.1, length-append (print_request head) rest, length-print_request head reads.0)

-- how a link ends where no turn is left, of so many bytes in all
abbrev pub Stops : ℕ → Ending → List ℕ → List ℕ → List ℕ → Type 0
Stops total Ended rest left text = (rest ≡ []) × (left ≡ []) × (text ≡ []) × (total < taken_bound)
Stops total Cut rest left text = (rest ≢ []) × (left ≡ []) × IsUnfinishedRest rest text × (total < taken_bound)
Stops total Closed rest left text = IsRefusedRest rest text
Stops total ReadFault rest left text = ⊥
Stops total WriteFault rest left text = ⊥
Stops total Spent rest left text = IsUnfinishedRest rest text × (length left + taken_bound ≡ total)
Stops total NoMemory rest left text = ⊥

-- how a link ends behind its turns
abbrev pub EndsAfter : ℕ → Ending → List Turn → List ℕ → List ℕ → List ℕ → Type 0
EndsAfter total ending [] rest left text = Stops total ending rest left text
EndsAfter total ending (turn ∷ turns) rest left text =
    ((closes turn.message.head ≡ true) × (turns ≡ []) × (ending ≡ Closed) × (text ≡ [])) ⊎ ((closes turn.message.head ≡ false) × EndsAfter total ending turns rest left text)

-- of two cuts of one list, the longer front begins with the shorter
longer-front : (front back front' back' : List ℕ) → front ++ back ≡ front' ++ back' → length front ≤ length front' → front' ≡ front ++ drop (length front) front'
longer-front front back front' back' same within =
    sym (take-append-drop (length front) front')
    ∙ ap (λ first. first ++ drop (length front) front') (sym (take-append-le (length front) front' back' within) ∙ ap (take (length front)) (sym same) ∙ take_at front back (length front) refl)

same-front-of : (front back front' back' : List ℕ) → front ++ back ≡ front' ++ back' → length back ≡ length back' → front ≡ front'
same-front-of front back front' back' same behind_ =
    let long : length front' ≡ length front = omega (arith, ap length same, length-append front back, length-append front' back', behind_) in
    sym (take_at front back (length front) refl) ∙ ap (take (length front)) same ∙ take_at front' back' (length front) long

module _ (total : ℕ) (rest left text : List ℕ) where
  stops-after : (ending : Ending) (turns : List Turn) → NoneCloses turns → Stops total ending rest left text → EndsAfter total ending turns rest left text
  stops-after ending [] open_ stops = stops
  stops-after ending (turn ∷ turns) open_ stops = inr (open_.0, stops-after ending turns open_.1 stops)

  last-after : (front : List Turn) (last : Turn) → NoneCloses front → closes last.message.head ≡ true → text ≡ [] → EndsAfter total Closed (front ++ last ∷ []) rest left text
  last-after [] last open_ closing none = inl (closing, refl, refl, none)
  last-after (turn ∷ front) last open_ closing none = inr (open_.0, last-after front last open_.1 closing none)

  pub ends-after : (ending : Ending) (before after : Ends) (turns : List Turn) (taken : ℕ) → IsByInput ending → after.left ≡ Some left → taken + length left ≡ total
      → EndsBy ending before after turns taken rest text → EndsAfter total ending turns rest left text
  ends-after Ended before after turns taken by_input known all ends =
      let none : left ≡ [] = subst IsAtEnd known ends.1 in
      stops-after Ended turns ends.0 (ends.2, none, ends.3, omega (arith, ends.4, all, ap length none))
  ends-after Cut before after turns taken by_input known all ends =
      let none : left ≡ [] = subst IsAtEnd known ends.1 in
      stops-after Cut turns ends.0 (ends.2, none, ends.3, omega (arith, ends.4, all, ap length none))
  ends-after Closed before after turns taken by_input known all (inl ((front, last, is, open_, closing), none)) =
      subst (λ turns. EndsAfter total Closed turns rest left text) (sym is) (last-after front last open_ closing none)
  ends-after Closed before after turns taken by_input known all (inr (open_, refused)) = stops-after Closed turns open_ refused
  ends-after ReadFault before after turns taken by_input known all ends = absurd by_input
  ends-after WriteFault before after turns taken by_input known all ends = absurd by_input
  ends-after Spent before after turns taken by_input known all ends =
      stops-after Spent turns ends.0 (ends.2, omega (arith, ends.1, all))
  ends-after NoMemory before after turns taken by_input known all ends = absurd by_input

  -- a rest with no byte behind it
  all-rest : left ≡ [] → rest ++ left ≡ rest
  all-rest none = ap (λ left. rest ++ left) none ∙ append-nil rest

  -- no message of bytes that may be taken stands where a link ends
  pub stops-before : (ending : Ending) (message : Message) (later : List ℕ) → total ≤ length later + taken_bound → Stops total ending rest left text → ReadsMessage (rest ++ left) message later → ⊥
  stops-before Ended message later near stops reads =
      omega (arith, ap length reads.bytes_are, length-append rest left, ap length stops.0, ap length stops.1, length-append (print_message message) later, length-message message reads.whole)
  stops-before Cut message later near stops reads =
      stops.2.no_message message later (subst (λ bytes. ReadsMessage bytes message later) (all-rest stops.1) reads)
  stops-before Closed message later near stops reads =
      message_not_refused (rest ++ left) message later reads stops.why (refused_stays rest left stops.why stops.refused)
  stops-before ReadFault message later near stops reads = stops
  stops-before WriteFault message later near stops reads = stops
  stops-before Spent message later near stops reads =
      let within : length (print_message message) ≤ length rest =
      omega (arith, near, stops.1, ap length reads.bytes_are, length-append rest left, length-append (print_message message) later) in
      stops.0.no_message message (drop (length (print_message message)) rest) (record {
        whole = reads.whole;
        bytes_are = longer-front (print_message message) later rest left (sym reads.bytes_are) within;
      })
  stops-before NoMemory message later near stops reads = stops

same-told : (rest other text more : List ℕ) → rest ≡ other → IsToldBefore rest text → IsToldBefore other more → text ≡ more
same-told rest other text more is (inl first) (inl second) = first.1 ∙ sym second.1
same-told rest other text more is (inl first) (inr second) = absurd (second.0 (subst HasAskingHead is first.0))
same-told rest other text more is (inr first) (inl second) = absurd (first.0 (subst HasAskingHead (sym is) second.0))
same-told rest other text more is (inr first) (inr second) = first.1 ∙ sym second.1

module _ (total : ℕ) (rest left text rest' left' text' : List ℕ) where
  ended-cut : rest ++ left ≡ rest' ++ left' → Stops total Ended rest left text → Stops total Cut rest' left' text' → ⊥
  ended-cut bytes x y =
      y.0 (sym (all-rest total rest' left' text' y.1) ∙ sym bytes ∙ all-rest total rest left text x.1 ∙ x.0)

  ended-refused : rest ++ left ≡ rest' ++ left' → Stops total Ended rest left text → Stops total Closed rest' left' text' → ⊥
  ended-refused bytes x y =
      empty_not_refused y.why (subst (λ bytes. IsRefusedAs bytes y.why) (sym bytes ∙ all-rest total rest left text x.1 ∙ x.0) (refused_stays rest' left' y.why y.refused))

  cut-refused : rest ++ left ≡ rest' ++ left' → Stops total Cut rest left text → Stops total Closed rest' left' text' → ⊥
  cut-refused bytes x y =
      x.2.not_refused y.why (subst (λ bytes. IsRefusedAs bytes y.why) (sym bytes ∙ all-rest total rest left text x.1) (refused_stays rest' left' y.why y.refused))

  spent-refused : rest ++ left ≡ rest' ++ left' → total ≤ length left' + taken_bound → Stops total Spent rest left text → Stops total Closed rest' left' text' → ⊥
  spent-refused bytes near x y =
      let within : length rest' ≤ length rest = omega (arith, near, x.1, ap length bytes, length-append rest left, length-append rest' left') in
      let longer = longer-front rest' left' rest left (sym bytes) within in
      x.0.not_refused y.why (subst (λ bytes. IsRefusedAs bytes y.why) (sym longer) (refused_stays rest' (drop (length rest') rest) y.why y.refused))

  cut-twice : rest ++ left ≡ rest' ++ left' → Stops total Cut rest left text → Stops total Cut rest' left' text' → text ≡ text'
  cut-twice bytes x y =
      same-told rest rest' text text' (sym (all-rest total rest left text x.1) ∙ bytes ∙ all-rest total rest' left' text' y.1) x.2.told y.2.told

  refused-twice : rest ++ left ≡ rest' ++ left' → Stops total Closed rest left text → Stops total Closed rest' left' text' → text ≡ text'
  refused-twice bytes x y =
      let first : IsRefusedAs (rest' ++ left') x.why = subst (λ bytes. IsRefusedAs bytes x.why) bytes (refused_stays rest left x.why x.refused) in
      x.text_is ∙ ap refused_text (refused_unique (rest' ++ left') x.why y.why first (refused_stays rest' left' y.why y.refused)) ∙ sym y.text_is

  spent-twice : rest ++ left ≡ rest' ++ left' → Stops total Spent rest left text → Stops total Spent rest' left' text' → text ≡ text'
  spent-twice bytes x y =
      same-told rest rest' text text' (same-front-of rest left rest' left' bytes (omega (arith, x.1, y.1))) x.0.told y.0.told

pub same-stop : (total : ℕ) (rest left text rest' left' text' : List ℕ) (one two : Ending) → rest ++ left ≡ rest' ++ left' → total ≤ length left + taken_bound → total ≤ length left' + taken_bound
    → Stops total one rest left text → Stops total two rest' left' text' → (one ≡ two) × (text ≡ text')
same-stop total rest left text rest' left' text' Ended Ended bytes near near' x y = (refl, x.2 ∙ sym y.2)
same-stop total rest left text rest' left' text' Ended Cut bytes near near' x y = absurd (ended-cut total rest left text rest' left' text' bytes x y)
same-stop total rest left text rest' left' text' Ended Closed bytes near near' x y = absurd (ended-refused total rest left text rest' left' text' bytes x y)
same-stop total rest left text rest' left' text' Ended ReadFault bytes near near' x y = absurd y
same-stop total rest left text rest' left' text' Ended WriteFault bytes near near' x y = absurd y
same-stop total rest left text rest' left' text' Ended Spent bytes near near' x y = absurd (omega (arith, x.3, y.1))
same-stop total rest left text rest' left' text' Ended NoMemory bytes near near' x y = absurd y
same-stop total rest left text rest' left' text' Cut Ended bytes near near' x y = absurd (ended-cut total rest' left' text' rest left text (sym bytes) y x)
same-stop total rest left text rest' left' text' Cut Cut bytes near near' x y = (refl, cut-twice total rest left text rest' left' text' bytes x y)
same-stop total rest left text rest' left' text' Cut Closed bytes near near' x y = absurd (cut-refused total rest left text rest' left' text' bytes x y)
same-stop total rest left text rest' left' text' Cut ReadFault bytes near near' x y = absurd y
same-stop total rest left text rest' left' text' Cut WriteFault bytes near near' x y = absurd y
same-stop total rest left text rest' left' text' Cut Spent bytes near near' x y = absurd (omega (arith, x.3, y.1))
same-stop total rest left text rest' left' text' Cut NoMemory bytes near near' x y = absurd y
same-stop total rest left text rest' left' text' Closed Ended bytes near near' x y = absurd (ended-refused total rest' left' text' rest left text (sym bytes) y x)
same-stop total rest left text rest' left' text' Closed Cut bytes near near' x y = absurd (cut-refused total rest' left' text' rest left text (sym bytes) y x)
same-stop total rest left text rest' left' text' Closed Closed bytes near near' x y = (refl, refused-twice total rest left text rest' left' text' bytes x y)
same-stop total rest left text rest' left' text' Closed ReadFault bytes near near' x y = absurd y
same-stop total rest left text rest' left' text' Closed WriteFault bytes near near' x y = absurd y
same-stop total rest left text rest' left' text' Closed Spent bytes near near' x y = absurd (spent-refused total rest' left' text' rest left text (sym bytes) near y x)
same-stop total rest left text rest' left' text' Closed NoMemory bytes near near' x y = absurd y
same-stop total rest left text rest' left' text' ReadFault two bytes near near' x y = absurd x
same-stop total rest left text rest' left' text' WriteFault two bytes near near' x y = absurd x
same-stop total rest left text rest' left' text' Spent Ended bytes near near' x y = absurd (omega (arith, x.1, y.3))
same-stop total rest left text rest' left' text' Spent Cut bytes near near' x y = absurd (omega (arith, x.1, y.3))
same-stop total rest left text rest' left' text' Spent Closed bytes near near' x y = absurd (spent-refused total rest left text rest' left' text' bytes near' x y)
same-stop total rest left text rest' left' text' Spent ReadFault bytes near near' x y = absurd y
same-stop total rest left text rest' left' text' Spent WriteFault bytes near near' x y = absurd y
same-stop total rest left text rest' left' text' Spent Spent bytes near near' x y = (refl, spent-twice total rest left text rest' left' text' bytes x y)
same-stop total rest left text rest' left' text' Spent NoMemory bytes near near' x y = absurd y
same-stop total rest left text rest' left' text' NoMemory two bytes near near' x y = absurd x
