-- References whose names rise: each is below the next.
use Rattle.std.proofs.Common.{◌≡◌, ℕ, zero, suc, ◌+◌, ◌-◌, ◌<◌, ◌≤◌, Bool, true, false, length, get_or, List, [], ◌∷◌, refl, sym, ap, subst, ◌∙◌, arith}
use Rattle.std.specs.Cmp.Lexicographic.{slice_cmp, nat_list_cmp_total}
use Rattle.std.specs.List.{AllByRecursion}
use Rattle.std.specs.List.Sorted.{IsStrictlySortedBy}
use Rattle.std.specs.Ordering.{nat_cmp, is_lt}
use Rattle.std.specs.declared.cmp.Ordering.{Ordering}
use Rattle.std.specs.declared.cmp.Ordering.TheVariants.{Less, Equal, Greater}
use Rattle.std.proofs.lemmas.List.{get_or_read_under}
use Rattle.pol_meta.specs.declared.reference.NamedRef.{NamedRef}
use Rattle.pol_metacodec.specs.Whole.{NamesAscend, ascend-told, is_below, names_ascend, told-ascend}

-- names ascend where each is below the next
abbrev Below : NamedRef → NamedRef → Type 0
Below named later = slice_cmp nat_cmp named.name later.name ≡ Less

reach : (named next : NamedRef) (refs : List NamedRef) → Below named next → AllByRecursion (Below next) refs → AllByRecursion (Below named) refs
reach named next [] below all = tt
reach named next (later ∷ refs) below all =
    (nat_list_cmp_total.trans named.name next.name later.name below all.0, reach named next refs below all.1)

less : (order : Ordering) → true ≡ is_lt order → order ≡ Less
less Less is = refl
less Equal is = absurd (cc)
less Greater is = absurd (cc)

one_on : (k : ℕ) → suc k + 1 ≡ suc (k + 1)
one_on k = omega arith

abbrev pub AreBelowTo : ℕ → List NamedRef → Type 0
AreBelowTo count refs = (k : ℕ) (d : NamedRef) → k + 1 < count → true ≡ is_below (get_or refs k d) (get_or refs (k + 1) d)

neighbours_ascend : (refs : List NamedRef) → AreBelowTo (length refs) refs → NamesAscend refs
unfolding IsStrictlySortedBy
neighbours_ascend [] all = tt
neighbours_ascend (named ∷ []) all = (tt, tt)
neighbours_ascend (named ∷ next ∷ refs) all =
    let others : NamesAscend (next ∷ refs) = neighbours_ascend (next ∷ refs) (λ k d more.
    subst (λ (n : ℕ). true ≡ is_below (get_or (next ∷ refs) k d) (get_or (named ∷ next ∷ refs) n d)) (one_on k) (all (suc k) d (omega (arith, more)))) in
    let first : Below named next = less (slice_cmp nat_cmp named.name next.name) (all 0 named (omega arith)) in
    ((first, reach named next refs first others.0), others)

-- and where one is not, they don't
ascend_below : (refs : List NamedRef) (k : ℕ) (d : NamedRef) → NamesAscend refs → k + 1 < length refs → Below (get_or refs k d) (get_or refs (k + 1) d)
unfolding IsStrictlySortedBy
ascend_below [] k d ascend more = absurd (omega (arith, more))
ascend_below (named ∷ []) k d ascend more = absurd (omega (arith, more))
ascend_below (named ∷ next ∷ refs) zero d ascend more = ascend.0.0
ascend_below (named ∷ next ∷ refs) (suc k) d ascend more =
    subst (λ (n : ℕ). Below (get_or (next ∷ refs) k d) (get_or (named ∷ next ∷ refs) n d)) (sym (one_on k)) (ascend_below (next ∷ refs) k d ascend.1 (omega (arith, more)))

not_ascending : (refs : List NamedRef) (k : ℕ) → k + 1 < length refs → ((d : NamedRef) → false ≡ is_below (get_or refs k d) (get_or refs (k + 1) d)) → (b : Bool) → names_ascend refs ≡ b → names_ascend refs ≡ false
not_ascending [] k more above b is = absurd (omega (arith, more))
not_ascending (named ∷ refs) k more above true is =
    let below : Below (get_or (named ∷ refs) k named) (get_or (named ∷ refs) (k + 1) named) = ascend_below (named ∷ refs) k named (ascend-told (named ∷ refs) is) more in
    let contrary : false ≡ true = above named ∙ ap is_lt below in
    absurd (cc)
not_ascending (named ∷ refs) k more above false is = is

pub all_neighbours_tell : (refs : List NamedRef) → AreBelowTo (length refs) refs → true ≡ names_ascend refs
all_neighbours_tell refs all = sym (told-ascend refs (neighbours_ascend refs all))

pub ref_refuses : (refs : List NamedRef) (i : ℕ) (left right : NamedRef) → 1 ≤ i → i < length refs → left ≡ get_or refs (i - 1) left → right ≡ get_or refs i right
    → false ≡ is_below left right → false ≡ names_ascend refs
ref_refuses refs i left right above more at_left at_right is =
    sym (not_ascending refs (i - 1) (omega (arith, above, more)) (λ d.
    let next : i ≡ i - 1 + 1 = omega (arith, above) in
    let one : left ≡ get_or refs (i - 1) d = get_or_read_under refs (i - 1) (length refs) left d at_left (omega (arith, above, more)) refl in
    let two : right ≡ get_or refs (i - 1 + 1) d = get_or_read_under refs i (length refs) right d at_right more refl ∙ ap (λ (n : ℕ). get_or refs n d) next in
    is ∙ ap (λ (p : NamedRef). is_below p right) one ∙ ap (λ (p : NamedRef). is_below (get_or refs (i - 1) d) p) two)
    (names_ascend refs) refl)
