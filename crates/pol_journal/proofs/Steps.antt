-- Steps from what a disk had to what a crash may leave.
use Rattle.std.proofs.Common.{◌≡◌, Option, Some, None, Result, Ok, Err, OnOk, OnErr, IfSome, append_assoc, ℕ, ◌+◌, ◌≤◌, ◌<◌, min, List, ◌++◌, length, take, drop, refl, sym, ◌∙◌, ap, subst, arith}
use Rattle.std.proofs.lemmas.List.{take_at, take_min, take-take, length-take, length-append, drop-drop}
use Rattle.std.proofs.Math.Seq.{drop-append-add}
use Rattle.pol_disk.specs.Disk.{Torn, Told, Follows, written}
use Rattle.pol_disk.proofs.ImagesLemmas.{Torn-refl}
use Rattle.pol_journal.specs.Crash.{IsSame, KeepsFront}

pub same_follows : (old new : List ℕ → Type 0) → ((image : List ℕ) → new image → old image) → Follows IsSame old new
same_follows old new fewer image left = (image, fewer image left, refl)

pub torn_none : (start count : ℕ) (image : List ℕ) → Torn start (start + count) image image
torn_none start count image = Torn-refl start (start + count) image (omega arith)

pub torn_then_same : (start end : ℕ) (a b c : List ℕ) → Torn start end a b → IsSame b c → Torn start end a c
torn_then_same start end a b c torn same = subst (λ (l : List ℕ). Torn start end a l) (sym same) torn

pub keeps_none : (at : ℕ) (image : List ℕ) → KeepsFront at image image
keeps_none at image = record { front = take_min at image; no_shorter = omega arith }

-- what a list begins with, read out of more of it
front_of_front : (m n k : ℕ) (a b : List ℕ) → m ≤ n → m ≤ k → take n b ≡ take k a → take m b ≡ take m a
front_of_front m n k a b short short_too same =
    sym (take-take m n b short) ∙ ap (λ (l : List ℕ). take m l) same ∙ take-take m k a short_too

pub keeps_both : (at : ℕ) (a b c : List ℕ) → KeepsFront at a b → KeepsFront at b c → KeepsFront at a c
keeps_both at a b c first second = record {
  front = front_of_front (min at (length a)) (min at (length b)) at b c (omega (arith, first.no_shorter)) (omega arith) second.front ∙ first.front;
  no_shorter = omega (arith, first.no_shorter, second.no_shorter);
}

pub keeps_less : (at more : ℕ) (a b : List ℕ) → at ≤ more → KeepsFront more a b → KeepsFront at a b
keeps_less at more a b less keeps = record {
  front = front_of_front (min at (length a)) (min more (length a)) more a b (omega (arith, less)) (omega (arith, less)) keeps.front ∙ take_min at a;
  no_shorter = keeps.no_shorter;
}

-- a write behind a place keeps what stands in front of it
pub torn_keeps : (at start end : ℕ) (old new : List ℕ) → at ≤ start → Torn start end old new → KeepsFront at old new
torn_keeps at start end old new before torn = keeps_less at start old new before (record {
  front = ap (λ (l : List ℕ). take (min start (length old)) l) (torn.around ∙ append_assoc (take start old) torn.middle (drop end old))
      ∙ take_at (take start old) (torn.middle ++ drop end old) (min start (length old)) (length-take start old);
  no_shorter = torn.no_shorter;
})

pub torn_follows_front : (at start end : ℕ) (old new : List ℕ → Type 0) → at ≤ start → Follows (Torn start end) old new → Follows (KeepsFront at) old new
torn_follows_front at start end old new before follows image left =
    let from = follows image left in (from.0, from.1, torn_keeps at start end from.0 image before from.2)

-- what a told value was, is told, and the same of a run of two steps
pub told_both : {A : Type 0} (R N S : A → A → Type 0) (a b c : Option A) → ((x y z : A) → R x y → N y z → S x z) → Told R a b → Told N b c → Told S a c
told_both R N S None None None both first second = tt
told_both R N S None None (Some z) both first second = absurd second
told_both R N S None (Some y) c both first second = absurd first
told_both R N S (Some x) None c both first second = absurd first
told_both R N S (Some x) (Some y) None both first second = absurd second
told_both R N S (Some x) (Some y) (Some z) both first second = both x y z first second

some_same : {A : Type 0} (w x : A) → Some w ≡ Some x → w ≡ x
some_same w x is = cc

pub told_at : {A : Type 0} (R : A → A → Type 0) (a b : Option A) (x : A) → a ≡ Some x → Told R a b → (y : A) × (b ≡ Some y) × R x y
told_at R None b x is told = absurd (cc)
told_at R (Some w) None x is told = absurd told
told_at R (Some w) (Some y) x is told = (y, refl, subst (λ v. R v y) (some_same w x is) told)

-- two writes, one behind the other
written_next : (at place : ℕ) (a b items old : List ℕ) → at ≤ length old → place ≡ at + length a → items ≡ a ++ b → written place b (written at a old) ≡ written at items old
written_next at place a b items old within next all =
    let front : List ℕ = take at old ++ a in
    let rest : List ℕ = drop (at + length a) old in
    let long : length front ≡ at + length a = omega (arith, length-append (take at old) a, length-take at old, within) in
    let start : take place (front ++ rest) ≡ front = take_at front rest place (long ∙ sym next) in
    let far : place + length b ≡ length front + length b = omega (arith, next, long) in
    let end : drop (place + length b) (front ++ rest) ≡ drop (at + length items) old =
    ap (λ (n : ℕ). drop n (front ++ rest)) far
    ∙ drop-append-add front rest (length b)
    ∙ drop-drop (length b) (at + length a) old
    ∙ ap (λ (n : ℕ). drop n old) (omega (arith, ap length all, length-append a b)) in
    ap (λ (l : List ℕ). l ++ b ++ drop (place + length b) (front ++ rest)) start
    ∙ ap (λ (l : List ℕ). (front ++ b) ++ l) end
    ∙ ap (λ (l : List ℕ). l ++ drop (at + length items) old) (append_assoc (take at old) a b ∙ ap (λ (l : List ℕ). take at old ++ l) (sym all))

pub told_next : (at place : ℕ) (a b items : List ℕ) (old mid new : Option (List ℕ)) (size : Option ℕ)
    → IfSome old (λ bytes. size ≡ Some (length bytes)) → IfSome size (λ size. at ≤ size) → place ≡ at + length a → items ≡ a ++ b
    → Told (λ old new. new ≡ written at a old) old mid → Told (λ old new. new ≡ written place b old) mid new → Told (λ old new. new ≡ written at items old) old new
told_next at place a b items None None None size tells within next all first second = tt
told_next at place a b items None None (Some z) size tells within next all first second = absurd second
told_next at place a b items None (Some y) new size tells within next all first second = absurd first
told_next at place a b items (Some x) None new size tells within next all first second = absurd first
told_next at place a b items (Some x) (Some y) None size tells within next all first second = absurd second
told_next at place a b items (Some x) (Some y) (Some z) size tells within next all first second =
    let inside : at ≤ length x = subst (λ s. IfSome s (λ size. at ≤ size)) tells within in
    second ∙ ap (λ (l : List ℕ). written place b l) first ∙ written_next at place a b items x inside next all

pub past_gate : (size : Option ℕ) (gate : ℕ) → IfSome size (λ size. gate < size) → IfSome size (λ size. gate + 1 ≤ size)
past_gate None gate inside = tt
past_gate (Some size) gate inside = omega arith

pub on_ok_both : {T E P Q R : Type 0} (r : Result T E) → (P → Q → R) → OnOk r P → OnOk r Q → OnOk r R
on_ok_both (Ok x) both p q = both p q
on_ok_both (Err e) both p q = tt

pub on_err_of : {T E R : Type 0} (r : Result T E) → R → OnErr r R
on_err_of (Ok x) here = tt
on_err_of (Err e) here = here
