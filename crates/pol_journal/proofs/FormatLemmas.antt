-- What journals of bytes stand for, and what writes make of them.
use Rattle.std.proofs.Common.{◌≡◌, ◌≢◌, ◌⊎◌, inl, inr, ⊎_elim, ℕ, ◌+◌, min, List, [], ◌∷◌, ◌++◌, length, take, drop, replicate, refl, sym, ◌∙◌, ap, subst, arith, append_assoc, length-append, take-append-drop}
use Rattle.std.specs.Int.{w64, to_be_bytes}
use Rattle.std.specs.List.{flat_map}
use Rattle.std.proofs.lemmas.List.{take_at, drop_at, drop_all, take-take, append-nil, flat_map_more}
use Rattle.std.proofs.lemmas.List.Sums.{sum_by_push, sum_by-cons}
use Rattle.std.proofs.lemmas.Bool.{cases_eq}
use Rattle.pol_disk.specs.Disk.{Torn, written}
use Rattle.pol_journal.specs.Crash.{KeepsFront}
use Rattle.pol_journal.specs.Format.{name_of, header_of, framed, record_of, records_of, area_of, extent, StandsFor, IsNoneOrStandsFor, IsBeforeOrAfter, IsStaged}
use Rattle.pol_journal.specs.declared.kind.Kind.{Kind}
use Rattle.pol_journal.specs.declared.kind.Kind.TheVariants.{Catalogue, Objects}

pub length-header : (kind : Kind) → length (header_of kind) ≡ 64
unfolding header_of
length-header Catalogue = refl
length-header Objects = refl

pub length-framed : (body : List ℕ) → length (framed body) ≡ 8 + length body
unfolding framed
length-framed body = length-append (to_be_bytes w64 (length body)) body

pub records-push : (bodies : List (List ℕ)) (body : List ℕ) → records_of (bodies ++ body ∷ []) ≡ records_of bodies ++ record_of body
unfolding records_of
records-push bodies body = sym (flat_map_more record_of [] bodies body)

pub extent-push : (bodies : List (List ℕ)) (body : List ℕ) → extent (bodies ++ body ∷ []) ≡ extent bodies + 9 + length body
unfolding extent
extent-push bodies body = omega (arith, sum_by_push (λ (b : List ℕ). 9 + length b) bodies body)

pub length-records : (bodies : List (List ℕ)) → 65 + length (records_of bodies) ≡ extent bodies
unfolding records_of extent
length-records [] = refl
length-records (body ∷ bodies) =
    omega (arith, length-append (record_of body) (flat_map record_of bodies), length-framed body, length-records bodies, sum_by-cons (λ (b : List ℕ). 9 + length b) body bodies)

-- what stands in front of the gate behind these bodies
abbrev pub front_of : Kind → List (List ℕ) → List ℕ
front_of kind bodies = header_of kind ++ records_of bodies

pub length-front : (kind : Kind) (bodies : List (List ℕ)) (gate : ℕ) → gate + 1 ≡ extent bodies → length (front_of kind bodies) ≡ gate
length-front kind bodies gate place =
    omega (arith, length-append (header_of kind) (records_of bodies), length-header kind, length-records bodies)

-- bytes behind the records, in front of the rest
pub behind_front : (kind : Kind) (bodies : List (List ℕ)) (tail : List ℕ) → header_of kind ++ (records_of bodies ++ tail) ≡ front_of kind bodies ++ tail
behind_front kind bodies tail = sym (append_assoc (header_of kind) (records_of bodies) tail)

-- one byte at a place, and what stands around it
module _ (front : List ℕ) (byte : ℕ) (tail : List ℕ) where
  pub one_byte : front ++ byte ∷ tail ≡ (front ++ byte ∷ []) ++ tail
  one_byte = sym (append_assoc front (byte ∷ []) tail)

  pub length-one : length (front ++ byte ∷ []) ≡ length front + 1
  length-one = length-append front (byte ∷ [])

  pub take_one : take (length front + 1) (front ++ byte ∷ tail) ≡ front ++ byte ∷ []
  take_one = ap (λ (l : List ℕ). take (length front + 1) l) one_byte ∙ take_at (front ++ byte ∷ []) tail (length front + 1) length-one

  pub drop_one : drop (length front + 1) (front ++ byte ∷ tail) ≡ tail
  drop_one = ap (λ (l : List ℕ). drop (length front + 1) l) one_byte ∙ drop_at (front ++ byte ∷ []) tail (length front + 1) length-one

  pub length-all : length (front ++ byte ∷ tail) ≡ length front + 1 + length tail
  length-all = omega (arith, length-append front (byte ∷ tail))

  -- what keeps all up to that byte
  pub kept_one : (image : List ℕ) → KeepsFront (length front + 1) (front ++ byte ∷ tail) image → image ≡ front ++ byte ∷ drop (length front + 1) image
  kept_one image keeps =
      let all : length front + 1 ≡ min (length front + 1) (length (front ++ byte ∷ tail)) = omega (arith, length-all) in
      sym (take-append-drop (length front + 1) image)
      ∙ ap (λ (l : List ℕ). l ++ drop (length front + 1) image) (ap (λ (n : ℕ). take n image) all ∙ keeps.front ∙ take_one)
      ∙ append_assoc front (byte ∷ []) (drop (length front + 1) image)

  -- a write behind it
  pub written_behind : (items : List ℕ) → written (length front + 1) items (front ++ byte ∷ tail) ≡ front ++ byte ∷ (items ++ drop (length front + 1 + length items) (front ++ byte ∷ tail))
  written_behind items =
      let rest : List ℕ = drop (length front + 1 + length items) (front ++ byte ∷ tail) in
      ap (λ (l : List ℕ). l ++ items ++ rest) take_one
      ∙ append_assoc (front ++ byte ∷ []) items rest
      ∙ append_assoc front (byte ∷ []) (items ++ rest)

  -- a write over it
  pub written_over : (next : ℕ) → written (length front) (next ∷ []) (front ++ byte ∷ tail) ≡ front ++ next ∷ tail
  written_over next =
      ap (λ (l : List ℕ). l ++ (next ∷ []) ++ drop (length front + 1) (front ++ byte ∷ tail)) (take_at front (byte ∷ tail) (length front) refl)
      ∙ ap (λ (l : List ℕ). (front ++ next ∷ []) ++ l) drop_one
      ∙ append_assoc front (next ∷ []) tail

  -- such a write cut off
  pub torn_over : (image : List ℕ) → Torn (length front) (length front + 1) (front ++ byte ∷ tail) image → (next : ℕ) × (image ≡ front ++ next ∷ tail)
  torn_over image torn =
      let whole : List ℕ = front ++ byte ∷ tail in
      let start : take (length front) whole ≡ front = take_at front (byte ∷ tail) (length front) refl in
      let around : image ≡ front ++ torn.middle ++ tail =
      torn.around
      ∙ ap (λ (l : List ℕ). l ++ torn.middle ++ drop (length front + 1) whole) start
      ∙ ap (λ (l : List ℕ). (front ++ torn.middle) ++ l) drop_one in
      let long : length torn.middle ≡ 1 = omega (arith, torn.no_shorter, torn.no_longer, length-all, ap length around, length-append (front ++ torn.middle) tail, length-append front torn.middle) in
      let single = one_of torn.middle long in
      (single.0, around ∙ ap (λ (l : List ℕ). front ++ l ++ tail) single.1 ∙ append_assoc front (single.0 ∷ []) tail)
    where
      one_of : (l : List ℕ) → length l ≡ 1 → (x : ℕ) × (l ≡ x ∷ [])
      one_of [] long = absurd (omega arith)
      one_of (x ∷ []) long = (x, refl)
      one_of (x ∷ y ∷ l) long = absurd (omega arith)

-- an open gate in front of a body and a closed one
pub opened_stands : (kind : Kind) (bodies : List (List ℕ)) (body rest file : List ℕ)
    → file ≡ header_of kind ++ (records_of bodies ++ 1 ∷ (framed body ++ 0 ∷ rest)) → StandsFor kind (bodies ++ body ∷ []) file
opened_stands kind bodies body rest file is = record {
  gate = 0;
  rest = rest;
  closed = omega arith;
  bytes = is ∙ ap (λ (l : List ℕ). header_of kind ++ l) (
      sym (append_assoc (records_of bodies) (record_of body) (0 ∷ rest))
      ∙ ap (λ (l : List ℕ). l ++ 0 ∷ rest) (sym (records-push bodies body)));
}

module _ (kind : Kind) (bodies : List (List ℕ)) (gate : ℕ) (place : gate + 1 ≡ extent bodies) where
  abbrev front : List ℕ
  front = front_of kind bodies

  at_gate : length front ≡ gate
  at_gate = length-front kind bodies gate place

  -- what is written behind the closed gate counts for nothing
  pub stands_kept : (before image : List ℕ) → StandsFor kind bodies before → KeepsFront (gate + 1) before image → StandsFor kind bodies image
  stands_kept before image stands keeps =
      let is : before ≡ front ++ stands.gate ∷ stands.rest = stands.bytes ∙ behind_front kind bodies (stands.gate ∷ stands.rest) in
      let keeps_front : KeepsFront (length front + 1) (front ++ stands.gate ∷ stands.rest) image =
      subst (λ (n : ℕ). KeepsFront (n + 1) (front ++ stands.gate ∷ stands.rest) image) (sym at_gate) (subst (λ (l : List ℕ). KeepsFront (gate + 1) l image) is keeps) in record {
        gate = stands.gate;
        rest = drop (length front + 1) image;
        closed = stands.closed;
        bytes = kept_one front stands.gate stands.rest image keeps_front ∙ sym (behind_front kind bodies (stands.gate ∷ drop (length front + 1) image));
      }

  -- a body and a closed gate that are written there stand behind the gate
  pub stands_staged : (body before : List ℕ) → StandsFor kind bodies before → IsStaged kind bodies body (written (gate + 1) (framed body ++ 0 ∷ []) before)
  stands_staged body before stands =
      let is : before ≡ front ++ stands.gate ∷ stands.rest = stands.bytes ∙ behind_front kind bodies (stands.gate ∷ stands.rest) in
      let items : List ℕ = framed body ++ 0 ∷ [] in
      let rest : List ℕ = drop (length front + 1 + length items) (front ++ stands.gate ∷ stands.rest) in record {
        gate = stands.gate;
        rest = rest;
        bytes = ap (λ (l : List ℕ). written (gate + 1) items l) is
            ∙ ap (λ (n : ℕ). written (n + 1) items (front ++ stands.gate ∷ stands.rest)) (sym at_gate)
            ∙ written_behind front stands.gate stands.rest items
            ∙ ap (λ (l : List ℕ). front ++ stands.gate ∷ l) (append_assoc (framed body) (0 ∷ []) rest)
            ∙ sym (behind_front kind bodies (stands.gate ∷ (framed body ++ 0 ∷ rest)));
      }

  -- the same with any byte as its gate
  pub staged_torn : (body before image : List ℕ) → IsStaged kind bodies body before → Torn gate (gate + 1) before image → IsStaged kind bodies body image
  staged_torn body before image staged torn =
      let tail : List ℕ = framed body ++ 0 ∷ staged.rest in
      let is : before ≡ front ++ staged.gate ∷ tail = staged.bytes ∙ behind_front kind bodies (staged.gate ∷ tail) in
      let torn_front : Torn (length front) (length front + 1) (front ++ staged.gate ∷ tail) image =
      subst (λ (n : ℕ). Torn n (n + 1) (front ++ staged.gate ∷ tail) image) (sym at_gate) (subst (λ (l : List ℕ). Torn gate (gate + 1) l image) is torn) in
      let next = torn_over front staged.gate tail image torn_front in record {
        gate = next.0;
        rest = staged.rest;
        bytes = next.1 ∙ sym (behind_front kind bodies (next.0 ∷ tail));
      }

  staged_written : (next : ℕ) (body before : List ℕ) (staged : IsStaged kind bodies body before)
      → written gate (next ∷ []) before ≡ header_of kind ++ (records_of bodies ++ next ∷ (framed body ++ 0 ∷ staged.rest))
  staged_written next body before staged =
      let tail : List ℕ = framed body ++ 0 ∷ staged.rest in
      ap (λ (l : List ℕ). written gate (next ∷ []) l) (staged.bytes ∙ behind_front kind bodies (staged.gate ∷ tail))
      ∙ ap (λ (n : ℕ). written n (next ∷ []) (front ++ staged.gate ∷ tail)) (sym at_gate)
      ∙ written_over front staged.gate tail next
      ∙ sym (behind_front kind bodies (next ∷ tail))

  pub staged_shut : (body before : List ℕ) → IsStaged kind bodies body before → StandsFor kind bodies (written gate (0 ∷ []) before)
  staged_shut body before staged = record {
    gate = 0;
    rest = framed body ++ 0 ∷ staged.rest;
    closed = omega arith;
    bytes = staged_written 0 body before staged;
  }

  pub staged_opened : (body before : List ℕ) → IsStaged kind bodies body before → StandsFor kind (bodies ++ body ∷ []) (written gate (1 ∷ []) before)
  staged_opened body before staged =
      opened_stands kind bodies body staged.rest _ (staged_written 1 body before staged)

-- a gate is open or it isn't
pub staged_either : (kind : Kind) (bodies : List (List ℕ)) (body file : List ℕ) → IsStaged kind bodies body file → IsBeforeOrAfter kind bodies body file
staged_either kind bodies body file staged = elim (cases_eq staged.gate 1) [
  | inl is_open ↦ inr (opened_stands kind bodies body staged.rest file (staged.bytes ∙ ap (λ (g : ℕ). header_of kind ++ (records_of bodies ++ g ∷ (framed body ++ 0 ∷ staged.rest))) is_open))
  | inr shut ↦ inl (record { gate = staged.gate; rest = framed body ++ 0 ∷ staged.rest; closed = shut; bytes = staged.bytes })
]

-- Making a journal

-- eight zero bytes, where the name is to stand
abbrev pub blank : List ℕ
blank = replicate 8 0

-- what follows the name
abbrev pub after_name : List ℕ → List ℕ
after_name first = replicate 56 0 ++ first

abbrev same_lists : List ℕ → List ℕ → Type 0
same_lists xs ys = (xs ≡ ys) ⊎ (xs ≢ ys)

same_or_not : (xs ys : List ℕ) → same_lists xs ys
same_or_not [] [] = inl refl
same_or_not [] (y ∷ ys) = inr (λ is. cc)
same_or_not (x ∷ xs) [] = inr (λ is. cc)
same_or_not (x ∷ xs) (y ∷ ys) = elim (cases_eq x y) [
  | inl same ↦ ⊎_elim (λ rest. inl (λ i. same i ∷ rest i)) (λ other. inr (λ is. other (tails x y xs ys is))) (same_or_not xs ys)
  | inr other ↦ inr (λ is. other (heads x y xs ys is))
]
  where
    heads : (x y : ℕ) (xs ys : List ℕ) → x ∷ xs ≡ y ∷ ys → x ≡ y
    heads x y xs ys is = cc

    tails : (x y : ℕ) (xs ys : List ℕ) → x ∷ xs ≡ y ∷ ys → xs ≡ ys
    tails x y xs ys is = cc

pub length-name : (kind : Kind) → length (name_of kind) ≡ 8
length-name Catalogue = refl
length-name Objects = refl

name_of_header : (kind : Kind) → take 8 (header_of kind) ≡ name_of kind
unfolding header_of
name_of_header Catalogue = refl
name_of_header Objects = refl

blank_is_no_name : (kind : Kind) → name_of kind ≢ blank
blank_is_no_name Catalogue is = cc
blank_is_no_name Objects is = cc

-- few bytes
pub short_is_none : (kind : Kind) (bodies : List (List ℕ)) (before image : List ℕ) → before ≡ [] → Torn 0 8 before image → IsNoneOrStandsFor kind bodies image
short_is_none kind bodies before image none torn = inl (inl (omega (arith, torn.no_longer, ap length none)))

pub blank_written : (before : List ℕ) → before ≡ [] → written 0 blank before ≡ blank
blank_written before none = ap (λ (l : List ℕ). written 0 blank l) none

-- bytes that begin with zeros
pub blank_is_none : (kind : Kind) (bodies : List (List ℕ)) (before image : List ℕ) → before ≡ blank → KeepsFront 8 before image → IsNoneOrStandsFor kind bodies image
blank_is_none kind bodies before image is keeps =
    let keeps_blank : KeepsFront 8 blank image = subst (λ (l : List ℕ). KeepsFront 8 l image) is keeps in
    let front : take 8 image ≡ blank = keeps_blank.front in
    inl (inr (λ (named : take 64 image ≡ header_of kind). blank_is_no_name kind (sym (name_of_header kind) ∙ ap (λ (l : List ℕ). take 8 l) (sym named) ∙ take-take 8 64 image (omega arith) ∙ front)))

pub rest_written : (first before : List ℕ) → before ≡ blank → written 8 (after_name first) before ≡ blank ++ after_name first
rest_written first before is =
    ap (λ (l : List ℕ). written 8 (after_name first) l) is
    ∙ ap (λ (l : List ℕ). (blank ++ after_name first) ++ l) (drop_all (8 + length (after_name first)) blank (omega arith))
    ∙ append-nil (blank ++ after_name first)

header_stands : (kind : Kind) (bodies : List (List ℕ)) (first image : List ℕ) → first ≡ area_of bodies → take 64 image ≡ header_of kind → drop 64 image ≡ first → StandsFor kind bodies image
header_stands kind bodies first image area named rest = record {
  gate = 0;
  rest = [];
  closed = omega arith;
  bytes = sym (take-append-drop 64 image) ∙ ap (λ (l : List ℕ). l ++ drop 64 image) named ∙ ap (λ (l : List ℕ). header_of kind ++ l) (rest ∙ area);
}

-- any eight bytes over those zeros
named_or_none : (kind : Kind) (bodies : List (List ℕ)) (name first image : List ℕ) → first ≡ area_of bodies → image ≡ name ++ after_name first → length name ≡ 8 → IsNoneOrStandsFor kind bodies image
named_or_none kind bodies name first image area is long = elim (same_or_not (take 64 image) (header_of kind)) [
  | inl named ↦ inr (header_stands kind bodies first image area named rest)
  | inr other ↦ inl (inr other)
]
  where
    rest : drop 64 image ≡ first
    rest =
        ap (λ (l : List ℕ). drop 64 l) (is ∙ sym (append_assoc name (replicate 56 0) first))
        ∙ drop_at (name ++ replicate 56 0) first 64 (omega (arith, length-append name (replicate 56 0), long))

pub name_torn : (kind : Kind) (bodies : List (List ℕ)) (first before image : List ℕ) → first ≡ area_of bodies → before ≡ blank ++ after_name first → Torn 0 8 before image → IsNoneOrStandsFor kind bodies image
name_torn kind bodies first before image area is torn =
    let behind : drop 8 before ≡ after_name first = ap (λ (l : List ℕ). drop 8 l) is ∙ drop_at blank (after_name first) 8 refl in
    let around : image ≡ torn.middle ++ after_name first = torn.around ∙ ap (λ (l : List ℕ). torn.middle ++ l) behind in
    let long : length torn.middle ≡ 8 = omega (arith, torn.no_shorter, torn.no_longer, ap length is, ap length around, length-append torn.middle (after_name first), length-append blank (after_name first)) in
    named_or_none kind bodies torn.middle first image area around long

pub name_written : (kind : Kind) (bodies : List (List ℕ)) (first before : List ℕ) → first ≡ area_of bodies → before ≡ blank ++ after_name first → StandsFor kind bodies (written 0 (name_of kind) before)
unfolding header_of
name_written kind bodies first before area is = let eight : 0 + length (name_of kind) ≡ 8 = omega (arith, length-name kind) in record {
  gate = 0;
  rest = [];
  closed = omega arith;
  bytes = ap (λ (n : ℕ). name_of kind ++ drop n before) eight
      ∙ ap (λ (l : List ℕ). name_of kind ++ drop 8 l) is
      ∙ ap (λ (l : List ℕ). name_of kind ++ l) (drop_at blank (after_name first) 8 refl)
      ∙ sym (append_assoc (name_of kind) (replicate 56 0) first)
      ∙ ap (λ (l : List ℕ). header_of kind ++ l) area;
}
