-- An input that is cut into its messages, one after the other.
use Rattle.std.proofs.Common.{◌≡◌, ℕ, ◌+◌, ◌-◌, IsTrue, List, [], ◌∷◌, ◌++◌, length, map, sum, take, drop, All, refl, sym, ap, ◌∙◌, subst, append_assoc, length-append}
use Rattle.std.specs.List.{flat_map}
use Rattle.std.proofs.lemmas.List.{drop_at, map_push, take_rest, flat_map_more}
use Rattle.std.proofs.lemmas.List.Elements.{All-push}
use Rattle.std.proofs.lemmas.List.Sums.{sum_by-cons}
use Rattle.httparse.specs.declared.spans.Span.{Span}
use Rattle.pol_http.specs.declared.head.Head.{Head}
use Rattle.pol_http.specs.declared.next.Next.{Next}
use Rattle.pol_http.specs.declared.next.Next.TheVariants.{Whole, Continue, Partial, Refused}
use Rattle.pol_http.specs.Message.{Message, IsMessage, print_message, ReadsMessage, HasNoMessage, Messages}
use Rattle.pol_http.specs.Next.{is_whole, BeginsWithMessage}

abbrev pub lengths_of : List Message → List ℕ
lengths_of messages = map (λ message. length (print_message message)) messages

-- bytes begin with messages of these lengths, and rest is left
abbrev pub CutSoFar : List ℕ → List ℕ → List ℕ → Type 0
CutSoFar bytes lengths rest =
    (messages : List Message) × All IsMessage messages × (bytes ≡ flat_map print_message messages ++ rest)
    × (lengths ≡ lengths_of messages)

pub cut_more : (bytes lengths rest : List ℕ) (m : Message) (taken : ℕ) → CutSoFar bytes lengths rest
    → ReadsMessage rest m (drop taken rest) → taken ≡ length (print_message m)
    → CutSoFar bytes (lengths ++ taken ∷ []) (take (length rest - taken) (drop taken rest))
cut_more bytes lengths rest m taken (messages, all, is, are) reads long = (
  messages ++ m ∷ [],
  All-push IsMessage messages m all reads.whole,
  is ∙ ap (λ t. flat_map print_message messages ++ t) reads.bytes_are
      ∙ sym (append_assoc (flat_map print_message messages) (print_message m) (drop taken rest))
      ∙ (λ k. flat_map_more print_message [] messages m k ++ sym (take_rest rest taken) k),
  (λ k. are k ++ long k ∷ []) ∙ sym (map_push (λ message. length (print_message message)) messages m),
)

sum-lengths_of : (messages : List Message) → sum (lengths_of messages) ≡ length (flat_map print_message messages)
sum-lengths_of [] = refl
sum-lengths_of (m ∷ messages) =
    let first = length (print_message m) in
    sum_by-cons (λ n. n) first (lengths_of messages) ∙ ap (λ n. first + n) (sum-lengths_of messages) ∙ sym (length-append (print_message m) (flat_map print_message messages))

pub cut_end : (bytes lengths rest : List ℕ) → CutSoFar bytes lengths rest → HasNoMessage rest
    → (messages : List Message) × Messages bytes messages (drop (sum lengths) bytes) × (lengths ≡ lengths_of messages)
cut_end bytes lengths rest (messages, all, is, are) none =
    let left : drop (sum lengths) bytes ≡ rest =
    ap (λ t. drop (sum lengths) t) is
    ∙ drop_at (flat_map print_message messages) rest (sum lengths) (sym (ap sum are ∙ sum-lengths_of messages)) in (
      messages,
      record { whole = all; bytes_are = is ∙ ap (λ t. flat_map print_message messages ++ t) (sym left); last = subst HasNoMessage (sym left) none },
      are,
    )

pub not_whole : (bytes : List ℕ) (next : Next) → (BeginsWithMessage bytes → IsTrue (is_whole next))
    → ((head : Head) (body : Span) (taken : ℕ) → ¬ (next ≡ Whole head body taken)) → HasNoMessage bytes
not_whole bytes (Whole head body taken) whole other m rest reads = other head body taken refl
not_whole bytes (Continue taken) whole other m rest reads = cc (whole (m, rest, reads))
not_whole bytes Partial whole other m rest reads = cc (whole (m, rest, reads))
not_whole bytes (Refused why) whole other m rest reads = cc (whole (m, rest, reads))
