-- Bytes are cut into records in one way.
use Rattle.std.proofs.Common.{◌≡◌, ◌≢◌, ⊎_elim, ℕ, ◌+◌, ◌<◌, ◌^◌, List, [], ◌∷◌, ◌++◌, length, take, drop, refl, sym, ◌∙◌, ap, arith, append_assoc, length-append}
use Rattle.std.specs.Int.{w64, to_be_bytes, from_be_bytes}
use Rattle.std.proofs.lemmas.List.{take_at, drop_at}
use Rattle.std.proofs.lemmas.Nat.{from_be_bytes-to_be_bytes_8}
use Rattle.pol_journal.specs.Format.{header_of, framed, records_of, extent, IsBroken}
use Rattle.pol_journal.specs.Laws.{StandsForOneList, BadStandsForNone, IsBadAtOneGate}
use Rattle.pol_journal.specs.declared.kind.Kind.{Kind}
use Rattle.pol_journal.proofs.FormatLemmas.{length-framed}

abbrev same_front : List ℕ → List ℕ → List ℕ → List ℕ → Type 0
same_front a b c d = (a ≡ c) × (b ≡ d)

fronts : (a b c d : List ℕ) → length a ≡ length c → a ++ b ≡ c ++ d → same_front a b c d
fronts a b c d long is = (
  sym (take_at a b (length a) refl) ∙ ap (λ (l : List ℕ). take (length a) l) is ∙ take_at c d (length a) (sym long),
  sym (drop_at a b (length a) refl) ∙ ap (λ (l : List ℕ). drop (length a) l) is ∙ drop_at c d (length a) (sym long),
)

-- framed bodies, whatever follows them
frames : (x y r s : List ℕ) → length x < 2 ^ 64 → length y < 2 ^ 64 → framed x ++ r ≡ framed y ++ s → same_front x r y s
unfolding framed
frames x y r s short short_too is =
    let apart = fronts (to_be_bytes w64 (length x)) (x ++ r) (to_be_bytes w64 (length y)) (y ++ s) refl
    (sym (append_assoc (to_be_bytes w64 (length x)) x r) ∙ is ∙ append_assoc (to_be_bytes w64 (length y)) y s) in
    let long : length x ≡ length y =
    sym (from_be_bytes-to_be_bytes_8 (length x) short) ∙ ap (λ (l : List ℕ). from_be_bytes w64 l) apart.0 ∙ from_be_bytes-to_be_bytes_8 (length y) short_too in
    fronts x r y s long apart.1

-- no record begins here
abbrev NoRecord : List ℕ → Type 0
NoRecord tail = (body rest : List ℕ) → length body < 2 ^ 64 → tail ≡ 1 ∷ framed body ++ rest → ⊥

first_is : (x y : ℕ) (xs ys : List ℕ) → x ∷ xs ≡ y ∷ ys → x ≡ y
first_is x y xs ys is = cc

rest_is : (x y : ℕ) (xs ys : List ℕ) → x ∷ xs ≡ y ∷ ys → xs ≡ ys
rest_is x y xs ys is = cc

closed_is_none : (gate : ℕ) (rest : List ℕ) → gate ≢ 1 → NoRecord (gate ∷ rest)
closed_is_none gate rest closed body more short is = closed (first_is gate 1 rest (framed body ++ more) is)

framed_number : (body more : List ℕ) → length body < 2 ^ 64 → from_be_bytes w64 (take 8 (framed body ++ more)) ≡ length body
unfolding framed
framed_number body more short =
    ap (λ (l : List ℕ). from_be_bytes w64 (take 8 l)) (append_assoc (to_be_bytes w64 (length body)) body more)
    ∙ ap (λ (l : List ℕ). from_be_bytes w64 l) (take_at (to_be_bytes w64 (length body)) (body ++ more) 8 refl)
    ∙ from_be_bytes-to_be_bytes_8 (length body) short

broken_is_none : (tail : List ℕ) → IsBroken tail → NoRecord tail
broken_is_none [] broken body more short is = cc
broken_is_none (gate ∷ rest) broken body more short is =
    let rest_same : rest ≡ framed body ++ more = rest_is gate 1 rest (framed body ++ more) is in
    let long : length rest ≡ 8 + length body + length more = omega (arith, ap length rest_same, length-append (framed body) more, length-framed body) in
    let number : from_be_bytes w64 (take 8 rest) ≡ length body = ap (λ (l : List ℕ). from_be_bytes w64 (take 8 l)) rest_same ∙ framed_number body more short in
    ⊎_elim (λ few. absurd (omega arith)) (λ few. absurd (omega arith)) broken.1

abbrev same_lists : List (List ℕ) → List ℕ → List (List ℕ) → List ℕ → Type 0
same_lists a s b t = (a ≡ b) × (s ≡ t)

record_first : (x : List ℕ) (a : List (List ℕ)) (s : List ℕ) → records_of (x ∷ a) ++ s ≡ 1 ∷ framed x ++ (records_of a ++ s)
unfolding records_of
record_first x a s = append_assoc (1 ∷ framed x) (records_of a) s

one_cut : (a b : List (List ℕ)) (s t : List ℕ) → length (records_of a ++ s) < 2 ^ 64 → NoRecord s → NoRecord t → records_of a ++ s ≡ records_of b ++ t → same_lists a s b t
unfolding records_of
one_cut [] [] s t short none none_too is = (refl, is)
one_cut [] (y ∷ b) s t short none none_too is =
    let begins : s ≡ 1 ∷ framed y ++ (records_of b ++ t) = is ∙ record_first y b t in
    absurd (none y (records_of b ++ t) (omega (arith, short, ap length begins, length-append (1 ∷ framed y) (records_of b ++ t), length-framed y)) begins)
one_cut (x ∷ a) [] s t short none none_too is =
    let begins : t ≡ 1 ∷ framed x ++ (records_of a ++ s) = sym is ∙ record_first x a s in
    absurd (none_too x (records_of a ++ s) (omega (arith, short, ap length (record_first x a s), length-append (1 ∷ framed x) (records_of a ++ s), length-framed x)) begins)
one_cut (x ∷ a) (y ∷ b) s t short none none_too is =
    let both : 1 ∷ framed x ++ (records_of a ++ s) ≡ 1 ∷ framed y ++ (records_of b ++ t) = sym (record_first x a s) ∙ is ∙ record_first y b t in
    let size : length (records_of (x ∷ a) ++ s) ≡ 1 + (8 + length x) + length (records_of a ++ s) =
    omega (arith, ap length (record_first x a s), length-append (1 ∷ framed x) (records_of a ++ s), length-framed x) in
    let size_too : length (records_of (x ∷ a) ++ s) ≡ 1 + (8 + length y) + length (records_of b ++ t) =
    omega (arith, ap length is, ap length (record_first y b t), length-append (1 ∷ framed y) (records_of b ++ t), length-framed y) in
    let apart = frames x y (records_of a ++ s) (records_of b ++ t) (omega (arith, short, size)) (omega (arith, short, size_too))
    (rest_is 1 1 (framed x ++ (records_of a ++ s)) (framed y ++ (records_of b ++ t)) both) in
    let others = one_cut a b s t (omega (arith, short, size)) none none_too apart.1 in
    ((λ i. apart.0 i ∷ others.0 i), others.1)

cut_once : (kind : Kind) (file : List ℕ) (a b : List (List ℕ)) (s t : List ℕ) → length file < 2 ^ 64 → NoRecord s → NoRecord t
    → file ≡ header_of kind ++ (records_of a ++ s) → file ≡ header_of kind ++ (records_of b ++ t) → same_lists a s b t
cut_once kind file a b s t short none none_too is is_too =
    let behind = fronts (header_of kind) (records_of a ++ s) (header_of kind) (records_of b ++ t) refl (sym is ∙ is_too) in
    one_cut a b s t (omega (arith, short, ap length is, length-append (header_of kind) (records_of a ++ s))) none none_too behind.1

pub one_list : StandsForOneList
one_list kind file bodies others short some other =
    (cut_once kind file bodies others (some.gate ∷ some.rest) (other.gate ∷ other.rest) short
    (closed_is_none some.gate some.rest some.closed) (closed_is_none other.gate other.rest other.closed) some.bytes other.bytes).0

closed_or_broken : (gate : ℕ) (rest tail : List ℕ) → gate ≢ 1 → IsBroken tail → gate ∷ rest ≡ tail → ⊥
closed_or_broken gate rest [] closed broken is = cc
closed_or_broken gate rest (byte ∷ more) closed broken is = closed (first_is gate byte rest more is ∙ broken.0)

pub bad_for_none : BadStandsForNone
bad_for_none kind file at bodies short bad stands =
    closed_or_broken stands.gate stands.rest bad.read.tail stands.closed bad.broken
    (cut_once kind file bodies bad.bodies (stands.gate ∷ stands.rest) bad.read.tail short
    (closed_is_none stands.gate stands.rest stands.closed) (broken_is_none bad.read.tail bad.broken) stands.bytes bad.read.bytes).1

pub one_gate : IsBadAtOneGate
one_gate kind file at other short bad worse =
    let same = cut_once kind file bad.bodies worse.bodies bad.read.tail worse.read.tail short
    (broken_is_none bad.read.tail bad.broken) (broken_is_none worse.read.tail worse.broken) bad.read.bytes worse.read.bytes in
    omega (arith, bad.read.place, worse.read.place, ap extent same.0)
