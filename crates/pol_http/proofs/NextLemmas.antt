-- What the reader's answer tells of the bytes.
use Rattle.std.proofs.Common.{◌≡◌, ℕ, ◌+◌, ◌-◌, ◌<◌, ◌≤◌, true, false, IsTrue, List, ◌++◌, length, take, drop, Ok, refl, sym, ap, ◌∙◌, subst, inl, inr, arith, length-append, length-drop, length-take, take-append-drop, drop-drop}
use Rattle.std.specs.Prelude.{◌↔◌}
use Rattle.std.proofs.lemmas.Bool.{false≢true}
use Rattle.httparse.specs.declared.spans.Span.{Span}
use Rattle.httparse.specs.Grammar.{RequestHead, print_request}
use Rattle.httparse.proofs.GrammarLemmas.{request_unique}
use Rattle.pol_http.specs.declared.head.Head.{Head}
use Rattle.pol_http.specs.declared.head.HeadRefused.{HeadRefused}
use Rattle.pol_http.specs.declared.next.Next.{Next}
use Rattle.pol_http.specs.declared.next.Next.TheVariants.{Whole, Continue, Partial, Refused}
use Rattle.pol_http.specs.Head.{body_length, asks}
use Rattle.pol_http.specs.Message.{Message, print_message, ReadsMessage, HasNoMessage, IsRefusedAs, IsNotRefused}
use Rattle.pol_http.specs.Next.{is_whole, is_continue, BeginsWithMessage, Awaits, IsUnfinished, Tells, KnowsLength}
use Rattle.pol_http.specs.Reading.{IsFrontAt, IsOpen}
use Rattle.pol_http.proofs.HeadLemmas.{length-print_request}
use Rattle.pol_http.proofs.FrontLemmas.{IsFrontAt-append}
use Rattle.pol_http.proofs.MessageLemmas.{print_message-append, length-print_message, head_of_message, message_not_refused, known_not_refused, refused_unique}

-- ---- the answers exclude each other

begins_from_tells : (bytes : List ℕ) (head : Head) (body : Span) (taken : ℕ) → Tells bytes (Whole head body taken)
    → BeginsWithMessage bytes
begins_from_tells bytes head body taken ((m, at), lies) = (m, drop taken bytes, at.reads)

pub whole_exactly : (bytes : List ℕ) (next : Next) → Tells bytes next → IsTrue (is_whole next) ↔ BeginsWithMessage bytes
whole_exactly bytes (Whole head body taken) tells = (λ _. begins_from_tells bytes head body taken tells, λ _. refl)
whole_exactly bytes (Continue taken) tells =
    (λ is. absurd (false≢true is), λ (m, rest, reads). absurd (tells.0.no_message m rest reads))
whole_exactly bytes Partial tells = (λ is. absurd (false≢true is), λ (m, rest, reads). absurd (tells.no_message m rest reads))
whole_exactly bytes (Refused why) tells =
    (λ is. absurd (false≢true is), λ (m, rest, reads). absurd (message_not_refused bytes m rest reads why tells))

pub refused_exactly : (bytes : List ℕ) (next : Next) → Tells bytes next → (why : HeadRefused)
    → (next ≡ Refused why) ↔ IsRefusedAs bytes why
refused_exactly bytes (Whole head body taken) ((m, at), lies) why =
    (λ is. absurd (cc), λ refused. absurd (message_not_refused bytes m (drop taken bytes) at.reads why refused))
refused_exactly bytes (Continue taken) tells why = (λ is. absurd (cc), λ refused. absurd (tells.0.not_refused why refused))
refused_exactly bytes Partial tells why = (λ is. absurd (cc), λ refused. absurd (tells.not_refused why refused))
refused_exactly bytes (Refused other) tells why =
    (λ is. subst (IsRefusedAs bytes) (cc) tells, λ refused. ap Refused (refused_unique bytes other why tells refused))

pub continues_exactly : (bytes : List ℕ) (next : Next) → Tells bytes next → IsTrue (is_continue next) ↔ Awaits bytes
continues_exactly bytes (Whole head body taken) ((m, at), lies) =
    (λ is. absurd (false≢true is), λ awaits. absurd (awaits.no_message m (drop taken bytes) at.reads))
continues_exactly bytes (Continue taken) tells = (λ _. tells.0, λ _. refl)
continues_exactly bytes Partial tells = (λ is. absurd (false≢true is), λ awaits. absurd (tells.not_asking awaits.asking))
continues_exactly bytes (Refused why) tells = (λ is. absurd (false≢true is), λ awaits. absurd (awaits.not_refused why tells))

pub partial_exactly : (bytes : List ℕ) (next : Next) → Tells bytes next → (next ≡ Partial) ↔ IsUnfinished bytes
partial_exactly bytes (Whole head body taken) ((m, at), lies) =
    (λ is. absurd (cc), λ unfinished. absurd (unfinished.no_message m (drop taken bytes) at.reads))
partial_exactly bytes (Continue taken) tells = (λ is. absurd (cc), λ unfinished. absurd (unfinished.not_asking tells.0.asking))
partial_exactly bytes Partial tells = (λ _. tells, λ _. refl)
partial_exactly bytes (Refused why) tells = (λ is. absurd (cc), λ unfinished. absurd (unfinished.not_refused why tells))

-- ---- from the front of the bytes

-- the message whose body is the next bytes behind the head
with_body : List ℕ → ℕ → ℕ → RequestHead → Message
with_body bytes taken body h = record { head = h; body = take body (drop taken bytes) }

reads_with_body : (bytes : List ℕ) (head : Head) (taken body : ℕ) (h : RequestHead) → IsFrontAt bytes head taken body h
    → body ≤ length bytes - taken → ReadsMessage bytes (with_body bytes taken body h) (drop (taken + body) bytes)
unfolding with_body
reads_with_body bytes head taken body h at enough =
    let behind = drop taken bytes in
    let long : length (take body behind) ≡ body = omega (arith, length-take body behind, length-drop taken bytes) in
    record {
      whole = record { head = at.reads.0; body = at.announces ∙ ap Ok (sym long) };
      bytes_are = at.reads.1
          ∙ ap (λ t. print_request h ++ t) (sym (take-append-drop body behind) ∙ ap (λ t. take body behind ++ t) (drop-drop body taken bytes))
          ∙ sym (print_message-append (with_body bytes taken body h) (drop (taken + body) bytes));
    }

pub tells_whole : (bytes : List ℕ) (head : Head) (taken body : ℕ) (h : RequestHead) → IsFrontAt bytes head taken body h
    → body ≤ length bytes - taken
    → Tells bytes (Whole head (record { start = taken; end = taken + body }) (taken + body))
unfolding with_body
tells_whole bytes head taken body h at enough =
    let behind = drop taken bytes in
    let within = at.within in
    let span : taken + body - taken ≡ body = omega arith in
    let length_is : taken + body ≡ length (print_message (with_body bytes taken body h)) =
    omega (arith, length-print_message (with_body bytes taken body h), at.length_is, length-take body behind, length-drop taken bytes) in (
      (
        with_body bytes taken body h,
        record {
          reads = reads_with_body bytes head taken body h at enough;
          length_is = length_is;
          head_is = at.parts;
          body_is = ap (λ k. take k behind) span;
        },
      ),
      record {
        head_range = at.ranges;
        body_range = (omega arith, omega arith);
        ends = refl;
        some = omega (arith, at.length_is, length-print_request h at.reads.0);
        fits = omega arith;
      },
    )

-- a message at the front has the head that was read, and so its body's length
body_behind : (bytes : List ℕ) (head : Head) (taken body : ℕ) (h : RequestHead) → IsFrontAt bytes head taken body h
    → (m : Message) (rest : List ℕ) → ReadsMessage bytes m rest → body ≤ length bytes - taken
body_behind bytes head taken body h at m rest reads =
    let same = request_unique bytes h m.head (drop taken bytes) (m.body ++ rest) at.reads (head_of_message reads) in
    let lengths = sym at.announces ∙ ap body_length same.0 ∙ reads.whole.body in
    let long : body ≡ length m.body = cc lengths in
    omega (arith, long, ap length same.1, length-append m.body rest, length-drop taken bytes)

pub short_body : (bytes : List ℕ) (head : Head) (taken body : ℕ) (h : RequestHead) → IsFrontAt bytes head taken body h
    → length bytes - taken < body → HasNoMessage bytes
short_body bytes head taken body h at lacks m rest reads = omega (arith, body_behind bytes head taken body h at m rest reads)

-- the message is whole just as soon as so many bytes have followed
pub missing_exactly : (bytes : List ℕ) (head : Head) (taken body : ℕ) (h : RequestHead) → IsFrontAt bytes head taken body h
    → (more : List ℕ) → BeginsWithMessage (bytes ++ more) ↔ (body - (length bytes - taken) ≤ length more)
missing_exactly bytes head taken body h at more =
    let at' = IsFrontAt-append bytes more head taken body h at in
    let within = at.within in (
      λ (m, rest, reads).
          let enough = body_behind (bytes ++ more) head taken body h at' m rest reads in
          omega (arith, enough, length-append bytes more),
      λ enough. (
        with_body (bytes ++ more) taken body h,
        drop (taken + body) (bytes ++ more),
        reads_with_body (bytes ++ more) head taken body h at' (omega (arith, length-append bytes more)),
      ),
    )

pub refused_unknown : (bytes : List ℕ) (why : HeadRefused) → IsRefusedAs bytes why → ¬ (KnowsLength bytes)
refused_unknown bytes why refused (h, rest, n, reads, announced) = known_not_refused bytes h rest n reads announced why refused

pub tells_continue : (bytes : List ℕ) (head : Head) (taken body : ℕ) (h : RequestHead) → IsFrontAt bytes head taken body h
    → length bytes - taken < body → head.asks ≡ true → Tells bytes (Continue taken)
tells_continue bytes head taken body h at lacks asking =
    let asks : IsTrue (asks h) = sym at.parts.asks ∙ asking in (
      record {
        no_message = short_body bytes head taken body h at lacks;
        not_refused = known_not_refused bytes h (drop taken bytes) body at.reads at.announces;
        asking = (h, drop taken bytes, at.reads, asks);
      },
      (h, at.reads, at.length_is, asks),
    )

pub tells_partial : (bytes : List ℕ) (head : Head) (taken body : ℕ) (h : RequestHead) → IsFrontAt bytes head taken body h
    → length bytes - taken < body → head.asks ≡ false → IsUnfinished bytes
tells_partial bytes head taken body h at lacks silent = record {
  no_message = short_body bytes head taken body h at lacks;
  not_refused = known_not_refused bytes h (drop taken bytes) body at.reads at.announces;
  not_asking = λ (k, rest, reads, asking).
      let same = (request_unique bytes h k (drop taken bytes) rest at.reads reads).0 in
      false≢true (sym silent ∙ at.parts.asks ∙ ap asks same ∙ asking);
}

pub open_not_refused : (bytes : List ℕ) → IsOpen bytes → IsNotRefused bytes
open_not_refused bytes opening why (inl (bad, inl never)) =
    let some = opening.some in never some.0 some.1 some.2 some.3
open_not_refused bytes opening why (inl (bad, inr (over, none))) = let short = opening.short in omega arith
open_not_refused bytes opening why (inr (h, rest, reads, refused)) = opening.none h rest reads

pub tells_open : (bytes : List ℕ) → IsOpen bytes → IsUnfinished bytes
tells_open bytes opening = record {
  no_message = λ m rest reads. opening.none m.head (m.body ++ rest) (head_of_message reads);
  not_refused = open_not_refused bytes opening;
  not_asking = λ (h, rest, reads, asking). opening.none h rest reads;
}
