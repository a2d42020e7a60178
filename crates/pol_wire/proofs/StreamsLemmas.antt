-- Lemmas on streams that are read.
use Rattle.std.proofs.Common.{◌≡◌, ℕ, ◌+◌, ◌-◌, ◌<◌, ◌≤◌, List, [], ◌++◌, length, Option, Some, None, refl, sym, ap, ◌∙◌, arith, append-nil, zero-add, length-append, ◌⊎◌, inl, inr, subst}
use Rattle.std.proofs.lemmas.List.{get_or_append_left, get_or-append_right}
use Rattle.std.proofs.lemmas.Bool.{cases_lt}
use Rattle.std.specs.Prelude.{slice_index}
use Rattle.pol_wire.specs.Streams.{BeginsWith, IsShifted}

BeginsWith-nil : (f : ℕ → ℕ) → BeginsWith f [] f
BeginsWith-nil f = record { front = λ n low. absurd (omega arith); back = λ n. ap f (sym (zero-add n)) }

-- nothing read leaves the stream as it was
pub IsShifted-nil : (a : Option (ℕ → ℕ)) → IsShifted a a []
IsShifted-nil None = tt
IsShifted-nil (Some f) = BeginsWith-nil f

front_of_both : (f g : ℕ → ℕ) (xs ys : List ℕ) (n : ℕ) → BeginsWith f xs g → ((m : ℕ) → m < length ys → slice_index ys m ≡ g m)
    → n < length (xs ++ ys) → (n < length xs) ⊎ (length xs ≤ n) → slice_index (xs ++ ys) n ≡ f n
front_of_both f g xs ys n p q low (inl left) = get_or_append_left xs ys 0 n left ∙ p.front n left
front_of_both f g xs ys n p q low (inr right) =
    let short : n - length xs < length ys = omega (arith, length-append xs ys) in
    get_or-append_right xs ys (length xs) n 0 refl right ∙ q (n - length xs) short ∙ p.back (n - length xs)
    ∙ ap f (let whole : length xs + (n - length xs) ≡ n = omega arith in whole)

BeginsWith-trans : (f g h : ℕ → ℕ) (xs ys : List ℕ) → BeginsWith f xs g → BeginsWith g ys h → BeginsWith f (xs ++ ys) h
BeginsWith-trans f g h xs ys p q = record {
  front = λ n low. front_of_both f g xs ys n p q.front low (cases_lt n (length xs));
  back = λ n. q.back n ∙ p.back (length ys + n)
      ∙ ap f (let sum : length xs + (length ys + n) ≡ length (xs ++ ys) + n = omega (arith, length-append xs ys) in sum);
}

-- what two reads took, one after the other
pub IsShifted-trans : (a b c : Option (ℕ → ℕ)) (xs ys : List ℕ) → IsShifted a b xs → IsShifted b c ys → IsShifted a c (xs ++ ys)
IsShifted-trans None b c xs ys p q = tt
IsShifted-trans (Some f) None c xs ys p q = absurd p
IsShifted-trans (Some f) (Some g) None xs ys p q = absurd q
IsShifted-trans (Some f) (Some g) (Some h) xs ys p q = BeginsWith-trans f g h xs ys p q

-- a read, and then one that left the stream as it was
pub IsShifted-kept : (a b c : Option (ℕ → ℕ)) (xs : List ℕ) → IsShifted a b xs → IsShifted b c [] → IsShifted a c xs
IsShifted-kept a b c xs p q = subst (IsShifted a c) (append-nil xs) (IsShifted-trans a b c xs [] p q)
