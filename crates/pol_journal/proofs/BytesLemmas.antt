-- The exact bytes that a journal's writes leave.
use Rattle.std.proofs.Common.{◌≡◌, Option, Some, None, IfSome, ℕ, ◌+◌, ◌≤◌, List, [], ◌∷◌, ◌++◌, length, take, drop, replicate, refl, sym, ◌∙◌, ap, subst, arith, append_assoc, length-append}
use Rattle.std.proofs.lemmas.List.{drop_at, length-take, take-append-le, take-take}
use Rattle.pol_disk.specs.Disk.{Told, written}
use Rattle.pol_journal.specs.Format.{name_of, header_of}
use Rattle.pol_journal.specs.declared.kind.Kind.{Kind}
use Rattle.pol_journal.proofs.FormatLemmas.{blank, after_name, length-name, blank_written, rest_written}
use Rattle.pol_journal.proofs.Steps.{told_both}

-- a relation of what was told and is told, where what was told has P
told_where : {A : Type 0} (P : A → Type 0) (R S : A → A → Type 0) (a b : Option A) → ((x y : A) → P x → R x y → S x y) → IfSome a P → Told R a b → Told S a b
told_where P R S None None both has told = tt
told_where P R S None (Some y) both has told = absurd told
told_where P R S (Some x) None both has told = absurd told
told_where P R S (Some x) (Some y) both has told = both x y has told

-- two writes, the second right in front of the first
written_before : (at : ℕ) (a b old : List ℕ) → at + length a ≤ length old → written at a (written (at + length a) b old) ≡ written at (a ++ b) old
written_before at a b old within =
    let place : ℕ = at + length a in
    let front : List ℕ = take place old in
    let rest : List ℕ = b ++ drop (place + length b) old in
    let long : length front ≡ place = omega (arith, length-take place old, within) in
    let short : at ≤ length front = omega (arith, long) in
    let start : take at (front ++ rest) ≡ take at old = take-append-le at front rest short ∙ take-take at place old (omega arith) in
    let end : drop place (front ++ rest) ≡ rest = drop_at front rest place long in
    let far : place + length b ≡ at + length (a ++ b) = omega (arith, length-append a b) in
    ap (λ (l : List ℕ). take at l ++ a ++ drop place l) (append_assoc front b (drop (place + length b) old))
    ∙ ap (λ (l : List ℕ). l ++ a ++ drop place (front ++ rest)) start
    ∙ ap (λ (l : List ℕ). (take at old ++ a) ++ l) end
    ∙ ap (λ (n : ℕ). (take at old ++ a) ++ (b ++ drop n old)) far
    ∙ sym (append_assoc (take at old ++ a) b (drop (at + length (a ++ b)) old))
    ∙ ap (λ (l : List ℕ). l ++ drop (at + length (a ++ b)) old) (append_assoc (take at old) a b)

pub told_before : (at : ℕ) (a b : List ℕ) (old mid new : Option (List ℕ)) (size : Option ℕ)
    → IfSome old (λ bytes. size ≡ Some (length bytes)) → IfSome size (λ size. at + length a ≤ size)
    → Told (λ old new. new ≡ written (at + length a) b old) old mid → Told (λ old new. new ≡ written at a old) mid new → Told (λ old new. new ≡ written at (a ++ b) old) old new
told_before at a b None None None size tells within first second = tt
told_before at a b None None (Some z) size tells within first second = absurd second
told_before at a b None (Some y) new size tells within first second = absurd first
told_before at a b (Some x) None new size tells within first second = absurd first
told_before at a b (Some x) (Some y) None size tells within first second = absurd second
told_before at a b (Some x) (Some y) (Some z) size tells within first second =
    let inside : at + length a ≤ length x = subst (λ s. IfSome s (λ size. at + length a ≤ size)) tells within in
    second ∙ ap (λ (l : List ℕ). written at a l) first ∙ written_before at a b x inside

nil_of : (bytes : List ℕ) → length bytes ≡ 0 → bytes ≡ []
nil_of [] none = refl
nil_of (byte ∷ bytes) none = absurd (omega arith)

-- a disk of length 0 has no bytes
pub no_bytes : (seen : Option (List ℕ)) (size : Option ℕ) → IfSome seen (λ bytes. size ≡ Some (length bytes)) → IfSome size (λ size. size ≡ 0) → IfSome seen (λ bytes. bytes ≡ [])
no_bytes None size tells empty = tt
no_bytes (Some bytes) size tells empty = nil_of bytes (subst (λ s. IfSome s (λ size. size ≡ 0)) tells empty)

-- the name over zeros
header_written : (kind : Kind) (first before : List ℕ) → before ≡ blank ++ after_name first → written 0 (name_of kind) before ≡ header_of kind ++ first
unfolding header_of
header_written kind first before is =
    let eight : 0 + length (name_of kind) ≡ 8 = omega (arith, length-name kind) in
    ap (λ (n : ℕ). name_of kind ++ drop n before) eight
    ∙ ap (λ (l : List ℕ). name_of kind ++ drop 8 l) is
    ∙ ap (λ (l : List ℕ). name_of kind ++ l) (drop_at blank (after_name first) 8 refl)
    ∙ sym (append_assoc (name_of kind) (replicate 56 0) first)

-- the three writes that make a journal
pub told_journal : (kind : Kind) (first name : List ℕ) (old one two three : Option (List ℕ)) → name ≡ name_of kind → IfSome old (λ bytes. bytes ≡ [])
    → Told (λ old new. new ≡ written 0 blank old) old one → Told (λ old new. new ≡ written 8 (after_name first) old) one two → Told (λ old new. new ≡ written 0 name old) two three
    → Told (λ old new. new ≡ header_of kind ++ first) old three
told_journal kind first name old one two three same none zeros rest named =
    let begun : Told (λ x y. y ≡ blank) old one = told_where (λ x. x ≡ []) (λ x y. y ≡ written 0 blank x) (λ x y. y ≡ blank) old one (λ x y is wrote. wrote ∙ blank_written x is) none zeros in
    let behind : Told (λ x y. y ≡ blank ++ after_name first) old two = told_both (λ x y. y ≡ blank) (λ x y. y ≡ written 8 (after_name first) x) (λ x y. y ≡ blank ++ after_name first) old one two
    (λ x y z is wrote. wrote ∙ rest_written first y is) begun rest in
    told_both (λ x y. y ≡ blank ++ after_name first) (λ x y. y ≡ written 0 name x) (λ x y. y ≡ header_of kind ++ first) old two three
    (λ x y z is wrote. wrote ∙ ap (λ (l : List ℕ). written 0 l y) same ∙ header_written kind first y is) behind named
