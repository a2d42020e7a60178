-- Maps whose keys ascend: they are made of their own pairs, and a look at neighbours tells that keys ascend.
use Rattle.std.proofs.Common.{◌≡◌, ℕ, zero, suc, ◌+◌, ◌-◌, ◌<◌, ◌≤◌, Bool, true, false, filter, fold, length, get_or, List, [], ◌∷◌, ◌++◌, refl, sym, ap, subst, ◌∙◌, append_assoc, append-nil, arith}
use Rattle.std.specs.Cmp.Lexicographic.{slice_cmp, nat_list_cmp_total}
use Rattle.std.specs.List.{AllByRecursion}
use Rattle.std.specs.List.Sorted.{IsStrictlySortedBy}
use Rattle.std.specs.Ordering.{nat_cmp, is_lt, is_gt}
use Rattle.std.specs.declared.cmp.Ordering.{Ordering}
use Rattle.std.specs.declared.cmp.Ordering.TheVariants.{Less, Equal, Greater}
use Rattle.std.proofs.lemmas.List.{get_or_read_under}
use Rattle.pol_properties.specs.Properties.{KeysAscend, compared, of_pairs, with_value}
use Rattle.pol_properties.specs.declared.property.Property.{Property}
use Rattle.pol_forms.specs.Names.{KeysAscend-tested, is_below, keys_ascend, tested-KeysAscend}

-- the key of a pair is below that of another
abbrev Below : Property → Property → Type 0
Below pair later = slice_cmp nat_cmp pair.key later.key ≡ Less

-- a pair above all others goes last
lower : (pair : Property) (front : List Property) → AllByRecursion (λ kept. Below kept pair) front → filter (λ kept. is_lt (compared pair.key kept)) front ≡ front
lower pair [] all = refl
lower pair (kept ∷ front) all = rw all.0 (ap (λ (l : List Property). kept ∷ l) (lower pair front all.1))

higher : (pair : Property) (front : List Property) → AllByRecursion (λ kept. Below kept pair) front → filter (λ kept. is_gt (compared pair.key kept)) front ≡ []
higher pair [] all = refl
higher pair (kept ∷ front) all = rw all.0 (higher pair front all.1)

with_last : (pair : Property) (front : List Property) → AllByRecursion (λ kept. Below kept pair) front → with_value pair front ≡ front ++ pair ∷ []
unfolding with_value
with_last pair front all = rw (lower pair front all, higher pair front all) refl

-- each of these is below each of those
abbrev AreBelow : List Property → List Property → Type 0
AreBelow front pairs = AllByRecursion (λ kept. AllByRecursion (Below kept) pairs) front

first_above : (front : List Property) (pair : Property) (pairs : List Property) → AreBelow front (pair ∷ pairs) → AllByRecursion (λ kept. Below kept pair) front
first_above [] pair pairs all = tt
first_above (kept ∷ front) pair pairs all = (all.0.0, first_above front pair pairs all.1)

others_above : (front : List Property) (pair : Property) (pairs : List Property) → AreBelow front (pair ∷ pairs) → AllByRecursion (Below pair) pairs → AreBelow (front ++ pair ∷ []) pairs
others_above [] pair pairs all above = (above, tt)
others_above (kept ∷ front) pair pairs all above = (all.0.1, others_above front pair pairs all.1 above)

put_in_turn : (front pairs : List Property) → AreBelow front pairs → KeysAscend pairs → fold (λ made pair. with_value pair made) front pairs ≡ front ++ pairs
unfolding IsStrictlySortedBy
put_in_turn front [] all ascend = sym (append-nil front)
put_in_turn front (pair ∷ pairs) all ascend =
    ap (λ (made : List Property). fold (λ made pair. with_value pair made) made pairs) (with_last pair front (first_above front pair pairs all))
    ∙ put_in_turn (front ++ pair ∷ []) pairs (others_above front pair pairs all ascend.0) ascend.1
    ∙ append_assoc front (pair ∷ []) pairs

pub of_pairs-KeysAscend : (pairs : List Property) → KeysAscend pairs → of_pairs pairs ≡ pairs
of_pairs-KeysAscend pairs ascend = put_in_turn [] pairs tt ascend

pub of_pairs-tested : (pairs : List Property) → keys_ascend pairs ≡ true → of_pairs pairs ≡ pairs
of_pairs-tested pairs test = of_pairs-KeysAscend pairs (KeysAscend-tested pairs test)

-- keys ascend where each is below the next
reach : (pair next : Property) (pairs : List Property) → Below pair next → AllByRecursion (Below next) pairs → AllByRecursion (Below pair) pairs
reach pair next [] below all = tt
reach pair next (later ∷ pairs) below all =
    (nat_list_cmp_total.trans pair.key next.key later.key below all.0, reach pair next pairs below all.1)

less : (order : Ordering) → true ≡ is_lt order → order ≡ Less
less Less is = refl
less Equal is = absurd (cc)
less Greater is = absurd (cc)

one_on : (k : ℕ) → suc k + 1 ≡ suc (k + 1)
one_on k = omega arith

abbrev pub AreBelowTo : ℕ → List Property → Type 0
AreBelowTo count pairs = (k : ℕ) (d : Property) → k + 1 < count → true ≡ is_below (get_or pairs k d) (get_or pairs (k + 1) d)

abbrev AreNeighboursBelow : List Property → Type 0
AreNeighboursBelow pairs = AreBelowTo (length pairs) pairs

neighbours_ascend : (pairs : List Property) → AreNeighboursBelow pairs → KeysAscend pairs
unfolding IsStrictlySortedBy
neighbours_ascend [] all = tt
neighbours_ascend (pair ∷ []) all = (tt, tt)
neighbours_ascend (pair ∷ next ∷ pairs) all =
    let others : KeysAscend (next ∷ pairs) = neighbours_ascend (next ∷ pairs) (λ k d more.
    subst (λ (n : ℕ). true ≡ is_below (get_or (next ∷ pairs) k d) (get_or (pair ∷ next ∷ pairs) n d)) (one_on k) (all (suc k) d (omega (arith, more)))) in
    let first : Below pair next = less (slice_cmp nat_cmp pair.key next.key) (all 0 pair (omega arith)) in
    ((first, reach pair next pairs first others.0), others)

-- and where one is not, they don't
ascend_below : (pairs : List Property) (k : ℕ) (d : Property) → KeysAscend pairs → k + 1 < length pairs → Below (get_or pairs k d) (get_or pairs (k + 1) d)
unfolding IsStrictlySortedBy
ascend_below [] k d ascend more = absurd (omega (arith, more))
ascend_below (pair ∷ []) k d ascend more = absurd (omega (arith, more))
ascend_below (pair ∷ next ∷ pairs) zero d ascend more = ascend.0.0
ascend_below (pair ∷ next ∷ pairs) (suc k) d ascend more =
    subst (λ (n : ℕ). Below (get_or (next ∷ pairs) k d) (get_or (pair ∷ next ∷ pairs) n d)) (sym (one_on k)) (ascend_below (next ∷ pairs) k d ascend.1 (omega (arith, more)))

not_ascending : (pairs : List Property) (k : ℕ) → k + 1 < length pairs → ((d : Property) → false ≡ is_below (get_or pairs k d) (get_or pairs (k + 1) d)) → (b : Bool) → keys_ascend pairs ≡ b → keys_ascend pairs ≡ false
not_ascending [] k more above b is = absurd (omega (arith, more))
not_ascending (pair ∷ pairs) k more above true is =
    let below : Below (get_or (pair ∷ pairs) k pair) (get_or (pair ∷ pairs) (k + 1) pair) = ascend_below (pair ∷ pairs) k pair (KeysAscend-tested (pair ∷ pairs) is) more in
    let contrary : false ≡ true = above pair ∙ ap is_lt below in
    absurd (cc)
not_ascending (pair ∷ pairs) k more above false is = is

pub all_neighbours_tell : (pairs : List Property) → AreNeighboursBelow pairs → true ≡ keys_ascend pairs
all_neighbours_tell pairs all = sym (tested-KeysAscend pairs (neighbours_ascend pairs all))

pub pair_refuses : (pairs : List Property) (i : ℕ) (left right : Property) → 1 ≤ i → i < length pairs → left ≡ get_or pairs (i - 1) left → right ≡ get_or pairs i right
    → false ≡ is_below left right → false ≡ keys_ascend pairs
pair_refuses pairs i left right above more at_left at_right is =
    sym (not_ascending pairs (i - 1) (omega (arith, above, more)) (λ d.
    let next : i ≡ i - 1 + 1 = omega (arith, above) in
    let one : left ≡ get_or pairs (i - 1) d = get_or_read_under pairs (i - 1) (length pairs) left d at_left (omega (arith, above, more)) refl in
    let two : right ≡ get_or pairs (i - 1 + 1) d = get_or_read_under pairs i (length pairs) right d at_right more refl ∙ ap (λ (n : ℕ). get_or pairs n d) next in
    is ∙ ap (λ (p : Property). is_below p right) one ∙ ap (λ (p : Property). is_below (get_or pairs (i - 1) d) p) two)
    (keys_ascend pairs) refl)

pub ruleset property_rules = (of_pairs-tested, tested-KeysAscend)
