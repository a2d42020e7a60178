-- A head that was read at the front of the bytes.
use Rattle.std.proofs.Common.{◌≡◌, ℕ, ◌*◌, ◌<◌, ◌≤◌, true, false, ◌&&◌, ◌||◌, ◌==◌, nat_lt, List, [], ◌∷◌, ◌++◌, length, map, take, drop, cond, codes, Ok, Err, All, sym, ap, ◌∙◌, subst, arith, append_assoc, length-append, length-take, take-append-drop}
use Rattle.std.proofs.lemmas.Bool.Decides.{nat_tests}
use Rattle.std.proofs.lemmas.List.{length-map}
use Rattle.std.proofs.lemmas.List.Elements.{All-head, All-tail}
use Rattle.std.specs.List.{flat_map}
use Rattle.httparse.specs.declared.spans.HeaderSpan.{HeaderSpan}
use Rattle.httparse.specs.declared.spans.RequestSpans.{RequestSpans}
use Rattle.httparse.specs.Grammar.{LineEnd, crlf, lf, print_end, print_blank, print_version, Field, IsField, print_field, print_section, RequestHead, print_request, IsRequestHead, ReadsRequest, NeverHasRequest}
use Rattle.httparse.specs.Spans.{header_bytes, name_and_value, IsRequestAt, IsRequestWithin, RequestExceeds}
use Rattle.httparse.proofs.GrammarLemmas.{print_request-append, ReadsRequest-append}
use Rattle.pol_http.specs.declared.head.HeadRefused.TheVariants.{BadHead}
use Rattle.pol_http.specs.declared.head.TheConstants.{HEAD_LIMIT, FIELD_LIMIT}
use Rattle.pol_http.specs.Fields.{lists, announced_length}
use Rattle.pol_http.specs.Head.{fields_of, passes_limit, body_length, closes, has_body, asks}

-- ---- what the fields say of the head

pub closes-at : (fields : List (List ℕ × List ℕ)) (minor : ℕ) (h : RequestHead) → fields ≡ fields_of h → minor ≡ h.minor
    → (minor == 0 || lists (codes "connection") (codes "close") fields) ≡ closes h
unfolding closes
closes-at fields minor h same is = λ k. is k == 0 || lists (codes "connection") (codes "close") (same k)

pub asks-at : (fields : List (List ℕ × List ℕ)) (minor body : ℕ) (h : RequestHead) → fields ≡ fields_of h
    → minor ≡ h.minor → body_length h ≡ Ok body
    → (minor == 1 && lists (codes "expect") (codes "100-continue") fields && nat_lt 0 body) ≡ asks h
unfolding asks
asks-at fields minor body h same is announced =
    (λ k. is k == 1 && lists (codes "expect") (codes "100-continue") (same k) && nat_lt 0 body)
    ∙ ap (λ r. h.minor == 1 && lists (codes "expect") (codes "100-continue") (fields_of h) && has_body r) (sym announced)

-- ---- limits

within_limits : (h : RequestHead) → length (print_request h) ≤ HEAD_LIMIT → length h.fields ≤ FIELD_LIMIT
    → passes_limit h ≡ false
within_limits h short few = grind (arith, nat_tests)

pub body_length-within : (h : RequestHead) → length (print_request h) ≤ HEAD_LIMIT → length h.fields ≤ FIELD_LIMIT
    → announced_length (fields_of h) ≡ body_length h
unfolding body_length
body_length-within h short few =
    ap (λ b. cond b (Err BadHead) (announced_length (fields_of h))) (sym (within_limits h short few))

pub body_length-crowded : (h : RequestHead) → FIELD_LIMIT < length h.fields → body_length h ≡ Err BadHead
unfolding body_length
body_length-crowded h many =
    let passes : passes_limit h ≡ true = grind (arith, nat_tests) in
    ap (λ b. cond b (Err BadHead) (announced_length (fields_of h))) passes

end_takes : (end : LineEnd) → 1 ≤ length (print_end end)
end_takes crlf = omega arith
end_takes lf = omega arith

field_takes : (f : Field) → IsField f → 3 ≤ length (print_field f)
field_takes f is =
    let name = is.name.0 in
    omega (arith, end_takes f.end, length-append f.name (58 ∷ f.raw), length-append (f.name ++ 58 ∷ f.raw) (print_end f.end))

fields_take : (fields : List Field) → All IsField fields → 3 * length fields ≤ length (flat_map print_field fields)
fields_take [] all = omega arith
fields_take (f ∷ fields) all =
    omega (
      arith,
      length-append (print_field f) (flat_map print_field fields),
      field_takes f (All-head IsField f fields all),
      fields_take fields (All-tail IsField f fields all),
    )

longer_by : (x y : List ℕ) (n : ℕ) → n ≤ length y → n ≤ length (x ++ y)
longer_by x y n within = omega (arith, length-append x y)

pub head_takes : (h : RequestHead) → All IsField h.fields → 3 * length h.fields ≤ length (print_request h)
head_takes h all =
    let n = 3 * length h.fields in
    let fields : n ≤ length (print_section h.fields h.last ++ []) =
    omega (
      arith,
      fields_take h.fields all,
      length-append (flat_map print_field h.fields) (print_end h.last),
      length-append (print_section h.fields h.last) [],
    ) in
    let section = print_section h.fields h.last ++ [] in
    let version = print_version h.minor ++ (print_end h.line_end ++ section) in
    let target = h.target ++ 32 ∷ version in
    let method = h.method ++ 32 ∷ target in
    let from_version : n ≤ length version =
    longer_by (print_version h.minor) _ n (longer_by (print_end h.line_end) section n fields) in
    let from_target : n ≤ length target = longer_by h.target (32 ∷ version) n (omega arith) in
    let from_method : n ≤ length method = longer_by h.method (32 ∷ target) n (omega arith) in
    let whole : n ≤ length (print_blank h.blank ++ method) = longer_by (print_blank h.blank) method n from_method in
    omega (arith, ap length (print_request-append h []), length-append (print_request h) [])

-- a head has some bytes
pub length-print_request : (h : RequestHead) → IsRequestHead h → 0 < length (print_request h)
length-print_request h is =
    let some = is.method.0 in
    let rest = 32 ∷ (h.target ++ 32 ∷ (print_version h.minor ++ (print_end h.line_end ++ (print_section h.fields h.last ++ [])))) in
    omega (
      arith,
      ap length (print_request-append h []),
      length-append (print_request h) [],
      length-append (print_blank h.blank) (h.method ++ rest),
      length-append h.method rest,
    )

-- no head within the limit has more fields than the limit has places for
pub no_more_fields : (front : List ℕ) → length front ≤ HEAD_LIMIT → ¬ (RequestExceeds 5461 front)
no_more_fields front short (before, rest, is, h, reads, many) =
    omega (
      arith,
      many,
      head_takes h reads.0.fields,
      ap length reads.1,
      ap length is,
      length-append before (print_end lf),
      length-append before rest,
      length-append (print_request h) [],
    )

-- ---- from the bytes that a head may take to all of them

pub ReadsRequest-take : (bytes : List ℕ) (n : ℕ) (h : RequestHead) (rest : List ℕ) → ReadsRequest (take n bytes) h rest
    → ReadsRequest bytes h (rest ++ drop n bytes)
ReadsRequest-take bytes n h rest reads =
    subst (λ t. ReadsRequest t h (rest ++ drop n bytes)) (take-append-drop n bytes)
    (ReadsRequest-append (take n bytes) h rest (drop n bytes) reads)

pub NeverHasRequest-take : (bytes : List ℕ) (n : ℕ) → NeverHasRequest (take n bytes) → NeverHasRequest bytes
NeverHasRequest-take bytes n never more h rest reads =
    never (drop n bytes ++ more) h rest
    (subst (λ t. ReadsRequest t h rest)
    (ap (λ t. t ++ more) (sym (take-append-drop n bytes)) ∙ append_assoc (take n bytes) (drop n bytes) more) reads)

-- ---- the parts of a whole head

pub count_is : {front : List ℕ} {fields : List HeaderSpan} {spans : RequestSpans} {h : RequestHead}
    → IsRequestAt front fields spans h → spans.headers ≤ length fields → length h.fields ≡ spans.headers
count_is {front} {fields} {spans} {h} at fits =
    omega (
      arith,
      ap length at.fields,
      length-map (take spans.headers fields) (header_bytes front),
      length-map h.fields name_and_value,
      length-take spans.headers fields,
    )

-- a whole head within the limits announces what its fields do
pub announces : {front : List ℕ} {fields : List HeaderSpan} {spans : RequestSpans} {h : RequestHead}
    → length front ≤ HEAD_LIMIT → length fields ≤ FIELD_LIMIT
    → IsRequestWithin front fields spans → IsRequestAt front fields spans h
    → announced_length (map (header_bytes front) (take spans.headers fields)) ≡ body_length h
announces {front} {fields} {spans} {h} short room within at =
    ap announced_length at.fields
    ∙ body_length-within h (omega (arith, at.len, within.section.len_fits)) (omega (arith, count_is at within.section.count_fits, within.section.count_fits))
