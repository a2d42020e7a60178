-- Messages are read in one way, and what is refused is refused with one cause.
use Rattle.std.proofs.Common.{◌≡◌, ℕ, ◌+◌, ◌-◌, ◌<◌, ◌≤◌, true, List, [], ◌∷◌, ◌++◌, length, take, drop, cond, Ok, Err, All, refl, sym, ap, ◌∙◌, subst, inl, inr, arith, append_assoc, append-nil, length-append}
use Rattle.std.proofs.lemmas.Bool.{cases_lt}
use Rattle.std.proofs.lemmas.Bool.Decides.{nat_tests}
use Rattle.std.proofs.lemmas.List.{take_at, drop_at, take-append-le}
use Rattle.std.proofs.lemmas.List.Elements.{All-head, All-tail}
use lib.Seq.{take-add}
use Rattle.std.specs.List.{flat_map}
use Rattle.httparse.specs.Grammar.{RequestHead, print_request, ReadsRequest, HasNoRequest}
use Rattle.httparse.proofs.GrammarLemmas.{request_unique, ReadsRequest-append}
use Rattle.pol_http.proofs.HeadLemmas.{length-print_request}
use Rattle.pol_http.specs.declared.head.HeadRefused.{HeadRefused}
use Rattle.pol_http.specs.declared.head.HeadRefused.TheVariants.{BadHead}
use Rattle.pol_http.specs.declared.head.TheConstants.{HEAD_LIMIT}
use Rattle.pol_http.specs.Fields.{announced_length}
use Rattle.pol_http.specs.Head.{fields_of, passes_limit, body_length}
use Rattle.pol_http.specs.Message.{Message, print_message, IsMessage, ReadsMessage, HasNoMessage, Messages, HasNoHead, IsRefusedAs}

-- ---- one reading

pub print_message-append : (m : Message) (rest : List ℕ) → print_message m ++ rest ≡ print_request m.head ++ (m.body ++ rest)
unfolding print_message
print_message-append m rest = append_assoc (print_request m.head) m.body rest

pub length-print_message : (m : Message) → length (print_message m) ≡ length (print_request m.head) + length m.body
unfolding print_message
length-print_message m = length-append (print_request m.head) m.body

-- a message begins with its head
pub head_of_message : {bytes : List ℕ} {m : Message} {rest : List ℕ} → ReadsMessage bytes m rest
    → ReadsRequest bytes m.head (m.body ++ rest)
head_of_message {m} {rest} reads = (reads.whole.head, reads.bytes_are ∙ print_message-append m rest)

same_front : (a b x y : List ℕ) → length a ≡ length b → a ++ x ≡ b ++ y → (a ≡ b) × (x ≡ y)
same_front a b x y long same = (
  sym (take_at a x (length a) refl) ∙ ap (take (length a)) same ∙ take_at b y (length a) (sym long),
  sym (drop_at a x (length a) refl) ∙ ap (drop (length a)) same ∙ drop_at b y (length a) (sym long),
)

pub message_unique : (bytes : List ℕ) (m n : Message) (r q : List ℕ) → ReadsMessage bytes m r → ReadsMessage bytes n q
    → (m ≡ n) × (r ≡ q)
message_unique bytes m n r q x y =
    let heads = request_unique bytes m.head n.head (m.body ++ r) (n.body ++ q) (head_of_message x) (head_of_message y) in
    let lengths = sym x.whole.body ∙ ap body_length heads.0 ∙ y.whole.body in
    let bodies = same_front m.body n.body r q (cc lengths) heads.1 in
    (λ i. record { head = heads.0 i; body = bodies.0 i }, bodies.1)

pub begins_no_other : (m n : Message) (more : List ℕ) → IsMessage m → IsMessage n → print_message n ≡ print_message m ++ more
    → (m ≡ n) × (more ≡ [])
begins_no_other m n more is is' same =
    message_unique (print_message n) m n more [] (record { whole = is; bytes_are = same })
    (record { whole = is'; bytes_are = sym (append-nil (print_message n)) })

first_of : (m : Message) (ms : List Message) (rest : List ℕ) → IsMessage m
    → ReadsMessage (flat_map print_message (m ∷ ms) ++ rest) m (flat_map print_message ms ++ rest)
first_of m ms rest is = record { whole = is; bytes_are = append_assoc (print_message m) (flat_map print_message ms) rest }

same_cut : (ms ns : List Message) (r q : List ℕ) → All IsMessage ms → All IsMessage ns → HasNoMessage r → HasNoMessage q
    → flat_map print_message ms ++ r ≡ flat_map print_message ns ++ q → (ms ≡ ns) × (r ≡ q)
same_cut [] [] r q xs ys none none' same = (refl, same)
same_cut [] (n ∷ ns) r q xs ys none none' same =
    absurd (none n (flat_map print_message ns ++ q)
    (subst (λ t. ReadsMessage t n (flat_map print_message ns ++ q)) (sym same) (first_of n ns q (All-head IsMessage n ns ys))))
same_cut (m ∷ ms) [] r q xs ys none none' same =
    absurd (none' m (flat_map print_message ms ++ r)
    (subst (λ t. ReadsMessage t m (flat_map print_message ms ++ r)) same (first_of m ms r (All-head IsMessage m ms xs))))
same_cut (m ∷ ms) (n ∷ ns) r q xs ys none none' same =
    let first = message_unique _ m n _ _ (subst (λ t. ReadsMessage t m (flat_map print_message ms ++ r)) same (first_of m ms r (All-head IsMessage m ms xs)))
    (first_of n ns q (All-head IsMessage n ns ys)) in
    let later = same_cut ms ns r q (All-tail IsMessage m ms xs) (All-tail IsMessage n ns ys) none none' first.1 in
    (λ i. first.0 i ∷ later.0 i, later.1)

-- bytes are cut into messages and a rest in one way
pub messages_unique : (bytes : List ℕ) (ms ns : List Message) (r q : List ℕ) → Messages bytes ms r → Messages bytes ns q
    → (ms ≡ ns) × (r ≡ q)
messages_unique bytes ms ns r q x y = same_cut ms ns r q x.whole y.whole x.last y.last (sym x.bytes_are ∙ y.bytes_are)

-- ---- cuts, message by message

pub length-message : (m : Message) → IsMessage m → 0 < length (print_message m)
length-message m is = omega (arith, length-print_message m, length-print_request m.head is.head)

-- ---- one cause

over_limit : (h : RequestHead) → HEAD_LIMIT < length (print_request h) → body_length h ≡ Err BadHead
unfolding body_length
over_limit h over =
    let passes : passes_limit h ≡ true = grind (arith, nat_tests) in
    ap (λ b. cond b (Err BadHead) (announced_length (fields_of h))) passes

take_past : (xs ys : List ℕ) (n : ℕ) → length xs ≤ n → take n (xs ++ ys) ≡ xs ++ take (n - length xs) ys
take_past xs ys n past =
    let rest = n - length xs in
    let is : n ≡ length xs + rest = omega arith in
    ap (λ k. take k (xs ++ ys)) is ∙ take-add (length xs) rest (xs ++ ys)
    ∙ (λ k. take_at xs ys (length xs) refl k ++ take rest (drop_at xs ys (length xs) refl k))

-- a head within the first n bytes is there without the others
within_front : (bytes : List ℕ) (n : ℕ) (h : RequestHead) (rest : List ℕ) → length (print_request h) ≤ n → ReadsRequest bytes h rest
    → ReadsRequest (take n bytes) h (take (n - length (print_request h)) rest)
within_front bytes n h rest short reads = (
  reads.0,
  ap (take n) reads.1 ∙ take_past (print_request h) rest n short,
)

-- no head within the limit, and yet a whole head: it is over the limit
pub bad_without_head : (bytes : List ℕ) (h : RequestHead) (rest : List ℕ) → HasNoHead bytes → ReadsRequest bytes h rest
    → body_length h ≡ Err BadHead
bad_without_head bytes h rest (inl never) reads =
    absurd (never [] h rest (subst (λ t. ReadsRequest t h rest) (sym (append-nil bytes)) reads))
bad_without_head bytes h rest (inr (over, none)) reads = elim (cases_lt HEAD_LIMIT (length (print_request h))) [
  | inl long ↦ over_limit h long
  | inr short ↦ absurd (none h _ (within_front bytes HEAD_LIMIT h rest short reads))
]

pub refused_head_is : (bytes : List ℕ) (h : RequestHead) (rest : List ℕ) (why : HeadRefused) → ReadsRequest bytes h rest
    → IsRefusedAs bytes why → body_length h ≡ Err why
refused_head_is bytes h rest why reads (inl (bad, none)) = bad_without_head bytes h rest none reads ∙ ap Err (sym bad)
refused_head_is bytes h rest why reads (inr (k, rest', reads', refused)) =
    ap body_length (request_unique bytes h k rest rest' reads reads').0 ∙ refused

-- a head whose length is known is not refused
pub known_not_refused : (bytes : List ℕ) (h : RequestHead) (rest : List ℕ) (n : ℕ) → ReadsRequest bytes h rest
    → body_length h ≡ Ok n → (why : HeadRefused) → ¬ (IsRefusedAs bytes why)
known_not_refused bytes h rest n reads ok why refused = cc (ok, refused_head_is bytes h rest why reads refused)

-- bytes that begin with a message are not refused
pub message_not_refused : (bytes : List ℕ) (m : Message) (rest : List ℕ) → ReadsMessage bytes m rest → (why : HeadRefused)
    → ¬ (IsRefusedAs bytes why)
message_not_refused bytes m rest reads =
    known_not_refused bytes m.head (m.body ++ rest) (length m.body) (head_of_message reads) reads.whole.body

pub refused_unique : (bytes : List ℕ) (a b : HeadRefused) → IsRefusedAs bytes a → IsRefusedAs bytes b → a ≡ b
refused_unique bytes a b (inl (bad, none)) (inl (bad', none')) = bad ∙ sym bad'
refused_unique bytes a b (inr (h, rest, reads, refused)) other = cc (refused, refused_head_is bytes h rest b reads other)
refused_unique bytes a b (inl (bad, none)) (inr (h, rest, reads, refused)) =
    cc (refused, refused_head_is bytes h rest a reads (inl (bad, none)))

-- what is refused stays so, whatever follows
pub refused_stays : (bytes more : List ℕ) (why : HeadRefused) → IsRefusedAs bytes why → IsRefusedAs (bytes ++ more) why
refused_stays bytes more why (inl (bad, inl never)) =
    inl (
      bad,
      inl (λ further h rest reads.
          never (more ++ further) h rest (subst (λ t. ReadsRequest t h rest) (append_assoc bytes more further) reads)),
    )
refused_stays bytes more why (inl (bad, inr (over, none))) =
    inl (
      bad,
      inr (
        omega (arith, length-append bytes more),
        subst HasNoRequest (sym (take-append-le HEAD_LIMIT bytes more (omega arith))) none,
      ),
    )
refused_stays bytes more why (inr (h, rest, reads, refused)) =
    inr (h, rest ++ more, ReadsRequest-append bytes h rest more reads, refused)
