-- What is read of the bytes that a head may take holds of all the bytes.
use Rattle.std.proofs.Common.{◌≡◌, ℕ, ◌-◌, ◌<◌, ◌≤◌, List, [], ◌∷◌, ◌++◌, length, map, take, drop, All, refl, sym, ap, ◌∙◌, subst, arith, inl, inr, length-append, length-drop, length-take, take-append-drop}
use Rattle.std.proofs.lemmas.List.{take-append-le, drop-append-le, take_all}
use Rattle.std.proofs.lemmas.List.Elements.{All-head, All-tail}
use Rattle.httparse.specs.declared.Error.{Error}
use Rattle.httparse.specs.declared.Error.TheVariants.{TooManyHeaders}
use Rattle.httparse.specs.declared.spans.HeaderSpan.{HeaderSpan}
use Rattle.httparse.specs.declared.spans.RequestSpans.{RequestSpans}
use Rattle.httparse.specs.declared.spans.Span.{Span}
use Rattle.httparse.specs.Grammar.{RequestHead, ReadsRequest, HasNoRequest, NeverHasRequest, MayBecomeRequest}
use Rattle.httparse.specs.Spans.{span_bytes, header_bytes, IsWithin, IsHeaderWithin, IsRequestOf, RequestOverflows, RequestExceeds}
use Rattle.httparse.proofs.GrammarLemmas.{ReadsRequest-append}
use Rattle.pol_http.specs.declared.head.Front.{Front}
use Rattle.pol_http.specs.declared.head.Front.TheVariants.{Whole, Partial, Refused}
use Rattle.pol_http.specs.declared.head.Head.{Head}
use Rattle.pol_http.specs.declared.head.HeadRefused.TheVariants.{BadHead}
use Rattle.pol_http.specs.declared.head.TheConstants.{HEAD_LIMIT, FIELD_LIMIT}
use Rattle.pol_http.specs.Head.{IsHeadOf, IsHeadWithin}
use Rattle.pol_http.specs.Message.{IsRefusedAs}
use Rattle.pol_http.specs.Reading.{IsFrontAt, IsOpen, CanHaveRequest, ReadsFront, Judges}
use Rattle.pol_http.proofs.HeadLemmas.{ReadsRequest-take, NeverHasRequest-take, body_length-crowded, no_more_fields}

map_agree : {X Y : Type 0} (P : X → Type 0) (f g : X → Y) → ((x : X) → P x → f x ≡ g x) → (xs : List X) → All P xs
    → map f xs ≡ map g xs
map_agree P f g same [] all = refl
map_agree P f g same (x ∷ xs) all =
    let first = same x (All-head P x xs all) in
    let rest = map_agree P f g same xs (All-tail P x xs all) in
    λ k. first k ∷ rest k

-- ---- more bytes behind what the ranges cover

span_bytes-append : (xs ys : List ℕ) (n : ℕ) (s : Span) → n ≤ length xs → IsWithin n s
    → span_bytes xs s ≡ span_bytes (xs ++ ys) s
span_bytes-append xs ys n s fits (ordered, within) =
    let start : s.start ≤ length xs = omega arith in
    let room : s.end - s.start ≤ length (drop s.start xs) = omega (arith, length-drop s.start xs) in
    sym (ap (take (s.end - s.start)) (drop-append-le s.start xs ys start) ∙ take-append-le (s.end - s.start) (drop s.start xs) ys room)

header_bytes-append : (xs ys : List ℕ) (n : ℕ) → n ≤ length xs → (s : HeaderSpan) → IsHeaderWithin n s
    → header_bytes xs s ≡ header_bytes (xs ++ ys) s
header_bytes-append xs ys n fits s (name, value) =
    let same_name = span_bytes-append xs ys n s.name fits name in
    let same_value = span_bytes-append xs ys n s.value fits value in
    λ k. (same_name k, same_value k)

IsHeadOf-append : (xs ys : List ℕ) (n : ℕ) (head : Head) (h : RequestHead) → n ≤ length xs → IsHeadWithin n head
    → IsHeadOf xs head h → IsHeadOf (xs ++ ys) head h
IsHeadOf-append xs ys n head h fits within is = record {
  method = sym (span_bytes-append xs ys n head.method fits within.method) ∙ is.method;
  target = sym (span_bytes-append xs ys n head.target fits within.target) ∙ is.target;
  minor = is.minor;
  fields = sym (map_agree (IsHeaderWithin n) (header_bytes xs) (header_bytes (xs ++ ys)) (header_bytes-append xs ys n fits)
      (take head.count head.fields) within.fields) ∙ is.fields;
  closes = is.closes;
  asks = is.asks;
}

pub IsFrontAt-append : (xs ys : List ℕ) (head : Head) (taken body : ℕ) (h : RequestHead) → IsFrontAt xs head taken body h
    → IsFrontAt (xs ++ ys) head taken body h
IsFrontAt-append xs ys head taken body h at = record {
  reads = subst (ReadsRequest (xs ++ ys) h) (sym (drop-append-le taken xs ys at.within))
      (ReadsRequest-append xs h (drop taken xs) ys at.reads);
  length_is = at.length_is;
  within = let fits = at.within in omega (arith, length-append xs ys);
  announces = at.announces;
  parts = IsHeadOf-append xs ys taken head h at.within at.ranges at.parts;
  ranges = at.ranges;
}

-- ---- what the functions answer

pub Judges-take : (bytes : List ℕ) (front : Front) → Judges (take HEAD_LIMIT bytes) front → ReadsFront bytes front
Judges-take bytes (Whole head taken body) (h, at) = (
  h,
  subst (λ t. IsFrontAt t head taken body h) (take-append-drop HEAD_LIMIT bytes)
      (IsFrontAt-append (take HEAD_LIMIT bytes) (drop HEAD_LIMIT bytes) head taken body h at),
)
Judges-take bytes Partial none = absurd none
Judges-take bytes (Refused why) (h, rest, reads, refused) =
    inr (h, rest ++ drop HEAD_LIMIT bytes, ReadsRequest-take bytes HEAD_LIMIT h rest reads, refused)

pub refused_over_limit : (bytes : List ℕ) → HEAD_LIMIT < length bytes → HasNoRequest (take HEAD_LIMIT bytes) → IsRefusedAs bytes BadHead
refused_over_limit bytes over none = inl (refl, inr (over, none))

pub refused_never : (bytes : List ℕ) → NeverHasRequest (take HEAD_LIMIT bytes) → IsRefusedAs bytes BadHead
refused_never bytes never = inl (refl, inl (NeverHasRequest-take bytes HEAD_LIMIT never))

pub may_within : (bytes : List ℕ) → length bytes ≤ HEAD_LIMIT → MayBecomeRequest (take HEAD_LIMIT bytes) → MayBecomeRequest bytes
may_within bytes short may = subst MayBecomeRequest (take_all HEAD_LIMIT bytes short) may

pub open_within : (bytes : List ℕ) → length bytes ≤ HEAD_LIMIT → HasNoRequest (take HEAD_LIMIT bytes) → CanHaveRequest bytes → IsOpen bytes
open_within bytes short none can = record { none = subst HasNoRequest (take_all HEAD_LIMIT bytes short) none; some = can; short = short }

pub refused_crowded : (bytes front : List ℕ) (headers : List HeaderSpan) (spans : RequestSpans) → front ≡ take HEAD_LIMIT bytes
    → RequestOverflows FIELD_LIMIT (take HEAD_LIMIT bytes) → IsRequestOf front headers spans → IsRefusedAs bytes BadHead
refused_crowded bytes front headers spans is overflows (h, at) =
    let rest = drop spans.len front in
    let reads : ReadsRequest (take HEAD_LIMIT bytes) h rest = subst (λ t. ReadsRequest t h rest) is at.reads in
    let many = overflows [] h (rest ++ []) (ReadsRequest-append (take HEAD_LIMIT bytes) h rest [] reads) in
    inr (h, rest ++ drop HEAD_LIMIT bytes, ReadsRequest-take bytes HEAD_LIMIT h rest reads, body_length-crowded h many)

pub refused_error : (bytes : List ℕ) (e : Error) → (¬ (e ≡ TooManyHeaders) → NeverHasRequest (take HEAD_LIMIT bytes))
    → (e ≡ TooManyHeaders → RequestExceeds 5461 (take HEAD_LIMIT bytes)) → IsRefusedAs bytes BadHead
refused_error bytes TooManyHeaders never exceeds =
    absurd (no_more_fields (take HEAD_LIMIT bytes) (omega (arith, length-take HEAD_LIMIT bytes)) (exceeds refl))
refused_error bytes e never exceeds = refused_never bytes (never (λ is. absurd (cc)))
