-- At most 100 versions are left of those under ids that differ.
use Rattle.std.proofs.Common.{◌≡◌, ◌≤◌, ◌+◌, ◌-◌, ◌==◌, ◌&&◌, ◌||◌, ◌∙◌, ℕ, zero, suc, Bool, true, false, not, List, [], ◌∷◌, cond, filter, length, refl, sym, ap, subst, arith, nat_eq, nat_lt}
use Rattle.std.specs.List.{AllByRecursion, IsDistinct, count_by}
use Rattle.std.proofs.lemmas.Bool.{eq-eqb, eqb-true, le-ltb, lt-ltb, ltb-true, ne_eqb}
use Rattle.std.proofs.lemmas.List.{length-map}
use Rattle.std.proofs.lemmas.List.Filters.{length-filter_both, sum_by-filter_both}
use Rattle.std.proofs.lemmas.List.Sums.{count_by-le-length, length-filter, sum_by-cons}
use Rattle.pol_drafts.specs.Ids.{has_id}
use Rattle.pol_updatelaws.proofs.MemberLemmas.{distinct_filter, kept_ids}
use Rattle.pol_views.specs.Left.{goes, lower, other_ids, versions_left}
use Rattle.pol_views.specs.Valid.{version_ids}
use Rattle.pol_views.specs.declared.version.ViewVersion.{ViewVersion}

-- how items are counted one by one
count_cons : {A : Type 0} (p : A → Bool) (x : A) (xs : List A) → count_by p (x ∷ xs) ≡ cond (p x) 1 0 + count_by p xs
count_cons p x xs = sum_by-cons (λ y. cond (p y) 1 0) x xs

counts : (b : Bool) → b ≡ true → ◌≡◌ {A = ℕ} (cond b 1 0) 1
counts true is = refl
counts false is = absurd (cc)

counts_not : (b : Bool) → b ≡ false → ◌≡◌ {A = ℕ} (cond b 1 0) 0
counts_not true is = absurd (cc)
counts_not false is = refl

least_count : (a b : Bool) → (a ≡ true → b ≡ true) → cond a 1 0 ≤ cond b 1 0
least_count true b implies = omega (arith, counts b (implies refl))
least_count false b implies = omega arith

count_weaker : (p q : ℕ → Bool) → ((x : ℕ) → p x ≡ true → q x ≡ true) → (xs : List ℕ) → count_by p xs ≤ count_by q xs
count_weaker p q implies [] = omega arith
count_weaker p q implies (x ∷ xs) =
    omega (arith, count_cons p x xs, count_cons q x xs, least_count (p x) (q x) (implies x), count_weaker p q implies xs)

count_filtered : (keep q : ℕ → Bool) (xs : List ℕ) → count_by (λ x. keep x && q x) xs ≡ count_by q (filter keep xs)
count_filtered keep q [] = refl
count_filtered keep q (x ∷ xs) = first (keep x) refl (count_filtered keep q xs)
  where
    first : (b : Bool) → keep x ≡ b → count_by (λ y. keep y && q y) xs ≡ count_by q (filter keep xs)
        → count_by (λ y. keep y && q y) (x ∷ xs) ≡ count_by q (cond b (x ∷ filter keep xs) (filter keep xs))
    first true is rest =
        let here : ◌≡◌ {A = ℕ} (cond (keep x && q x) 1 0) (cond (q x) 1 0) = rw is refl in
        omega (arith, count_cons (λ y. keep y && q y) x xs, count_cons q x (filter keep xs), here, rest)
    first false is rest =
        let here : ◌≡◌ {A = ℕ} (cond (keep x && q x) 1 0) 0 = rw is refl in
        omega (arith, count_cons (λ y. keep y && q y) x xs, here, rest)

-- of ids that differ at most one is that of a member
none_same : (x c : ℕ) (ys : List ℕ) → x ≡ c → AllByRecursion (λ other. nat_eq x other ≡ false) ys
    → count_by (λ id. id == c) ys ≡ 0
none_same x c [] is apart = refl
none_same x c (y ∷ ys) is apart =
    omega (arith, count_cons (λ id. id == c) y ys, counts_not (y == c) (ne_eqb y c unlike), none_same x c ys is apart.1)
  where
    unlike : y ≡ c → ⊥
    unlike same =
        let clash : nat_eq x y ≡ false = apart.0 in
        let there : nat_eq x y ≡ true = eq-eqb x y (is ∙ sym same) in
        absurd (cc)

once : (c : ℕ) (ids : List ℕ) → IsDistinct nat_eq ids → count_by (λ id. id == c) ids ≤ 1
unfolding IsDistinct
once c [] apart = omega arith
once c (x ∷ xs) apart = first (x == c) refl (once c xs apart.1)
  where
    first : (b : Bool) → (x == c) ≡ b → count_by (λ id. id == c) xs ≤ 1 → count_by (λ id. id == c) (x ∷ xs) ≤ 1
    first true is rest =
        omega (arith, count_cons (λ id. id == c) x xs, counts (x == c) is, none_same x c xs (eqb-true x c is) apart.0)
    first false is rest = omega (arith, count_cons (λ id. id == c) x xs, counts_not (x == c) is, rest)

one_less : (c : ℕ) (ids : List ℕ) → IsDistinct nat_eq ids → length ids ≤ length (filter (λ id. not (id == c)) ids) + 1
one_less c ids apart =
    omega (
      arith,
      length-filter_both (λ id. id == c) (λ id. not (id == c)) (λ id. refl) ids,
      length-filter (λ id. id == c) ids,
      once c ids apart,
    )

-- a member that passes is counted
member_counts : (m : ℕ) (q : ℕ → Bool) (ys : List ℕ) → has_id m ys ≡ true → q m ≡ true
    → 1 ≤ count_by q (filter (λ id. id == m) ys)
member_counts m q [] has passes = absurd (cc)
member_counts m q (y ∷ ys) has passes = first (y == m) refl (λ found. member_counts m q ys found passes) has
  where
    first : (b : Bool) → (y == m) ≡ b → (has_id m ys ≡ true → 1 ≤ count_by q (filter (λ id. id == m) ys))
        → (b || has_id m ys) ≡ true → 1 ≤ count_by q (cond b (y ∷ filter (λ id. id == m) ys) (filter (λ id. id == m) ys))
    first true is later found =
        let same : q y ≡ true = subst (λ id. q id ≡ true) (sym (eqb-true y m is)) passes in
        omega (arith, count_cons q y (filter (λ id. id == m) ys), counts (q y) same)
    first false is later found = later found

-- without one of them, at most one fewer is lower
lower_left : (m z : ℕ) (ys : List ℕ) → IsDistinct nat_eq ys → lower z ys ≤ lower z (filter (λ id. not (id == m)) ys) + 1
lower_left m z ys apart =
    omega (
      arith,
      sum_by-filter_both (λ id. id == m) (λ id. not (id == m)) (λ id. refl) (λ other. cond (nat_lt other z) 1 0) ys,
      count_by-le-length (λ other. nat_lt other z) (filter (λ id. id == m) ys),
      length-filter (λ id. id == m) ys,
      once m ys apart,
    )

-- the least of some
record IsLeast (m : ℕ) (ys : List ℕ) : Type 0 where
  there : has_id m ys ≡ true
  none : lower m ys ≡ 0

or_true : (b : Bool) → (b || true) ≡ true
or_true true = refl
or_true false = refl

not_lower : (y : ℕ) (ys : List ℕ) → lower y ys ≡ 0 → lower y (y ∷ ys) ≡ 0
not_lower y ys none =
    omega (arith, count_cons (λ other. nat_lt other y) y ys, counts_not (nat_lt y y) (le-ltb y y (omega arith)), none)

minimal : (y : ℕ) (ys : List ℕ) → (m : ℕ) × IsLeast m (y ∷ ys)
minimal y [] = (y, record { there = rw (eq-eqb y y refl) refl; none = not_lower y [] refl })
minimal y (x ∷ xs) = pick (minimal x xs).0 (minimal x xs).1 (nat_lt y (minimal x xs).0) refl
  where
    pick : (m : ℕ) → IsLeast m (x ∷ xs) → (b : Bool) → nat_lt y m ≡ b → (found : ℕ) × IsLeast found (y ∷ x ∷ xs)
    pick m least true is =
        let fewer = count_weaker (λ other. nat_lt other y) (λ other. nat_lt other m)
        (λ other low. lt-ltb other m (omega (arith, ltb-true other y low, ltb-true y m is))) (x ∷ xs) in
        let none : lower y (x ∷ xs) ≡ 0 = omega (arith, fewer, least.none) in
        (y, record { there = rw (eq-eqb y y refl) refl; none = not_lower y (x ∷ xs) none })
    pick m least false is = (
      m,
      record {
        there = ap (λ (b : Bool). (y == m) || b) least.there ∙ or_true (y == m);
        none = omega (arith, count_cons (λ other. nat_lt other m) y (x ∷ xs), counts_not (nat_lt y m) is, least.none);
      },
    )

-- of ids that differ, as many have fewer lower ones than a number as the number says, where there are so many
ranks : (s : ℕ) (ys : List ℕ) → IsDistinct nat_eq ys → s ≤ length ys → s ≤ count_by (λ y. nat_lt (lower y ys) s) ys
ranks zero ys apart room = omega arith
ranks (suc s) [] apart room = absurd (omega (arith, room))
ranks (suc s) (y ∷ ys) apart room =
    let least = minimal y ys in
    let m : ℕ = least.0 in
    let zs : List ℕ = filter (λ id. not (id == m)) (y ∷ ys) in
    let fewer : s ≤ length zs = omega (arith, room, one_less m (y ∷ ys) apart) in
    let inner : s ≤ count_by (λ z. nat_lt (lower z zs) s) zs =
    ranks s zs (distinct_filter (λ id. not (id == m)) (y ∷ ys) apart) fewer in
    let q : ℕ → Bool = λ z. nat_lt (lower z (y ∷ ys)) (suc s) in
    let more : count_by (λ z. nat_lt (lower z zs) s) zs ≤ count_by q zs =
    count_weaker (λ z. nat_lt (lower z zs) s) q
    (λ z low. lt-ltb (lower z (y ∷ ys)) (suc s) (omega (arith, ltb-true (lower z zs) s low, lower_left m z (y ∷ ys) apart))) zs in
    let passes : q m ≡ true = lt-ltb (lower m (y ∷ ys)) (suc s) (omega (arith, least.1.none)) in
    let one : 1 ≤ count_by q (filter (λ id. id == m) (y ∷ ys)) = member_counts m q (y ∷ ys) least.1.there passes in
    omega (
      arith,
      inner,
      more,
      one,
      sum_by-filter_both (λ id. id == m) (λ id. not (id == m)) (λ id. refl) (λ z. cond (q z) 1 0) (y ∷ ys),
    )

few_left : (current : ℕ) (ids : List ℕ) → IsDistinct nat_eq ids
    → length (filter (λ id. not (goes current (filter (λ other. not (other == current)) ids) (length ids - 100) id)) ids) ≤ 100
few_left current ids apart =
    let others : List ℕ = filter (λ other. not (other == current)) ids in
    let surplus : ℕ = length ids - 100 in
    let room : surplus ≤ length others = omega (arith, one_less current ids apart) in
    let gone : surplus ≤ count_by (λ id. nat_lt (lower id others) surplus) others =
    ranks surplus others (distinct_filter (λ other. not (other == current)) ids apart) room in
    omega (
      arith,
      gone,
      count_filtered (λ id. not (id == current)) (λ id. nat_lt (lower id others) surplus) ids,
      length-filter (goes current others surplus) ids,
      length-filter_both (goes current others surplus) (λ id. not (goes current others surplus id)) (λ id. refl) ids,
    )

pub hundred_left : (current : ℕ) (versions : List ViewVersion) → IsDistinct nat_eq (version_ids versions)
    → length (versions_left current versions) ≤ 100
hundred_left current versions apart =
    let others : List ℕ = other_ids current versions in
    let keep : ℕ → Bool = λ id. not (goes current others (length versions - 100) id) in
    let same : length (versions_left current versions) ≡ length (filter keep (version_ids versions)) =
    sym (length-map (versions_left current versions) (λ (version : ViewVersion). version.version_id))
    ∙ ap (λ (ids : List ℕ). length ids) (kept_ids (λ (version : ViewVersion). version.version_id) keep versions) in
    let count : length (version_ids versions) ≡ length versions =
    length-map versions (λ (version : ViewVersion). version.version_id) in
    let few : length (filter keep (version_ids versions)) ≤ 100 =
    subst (λ n. length (filter (λ id. not (goes current others (n - 100) id)) (version_ids versions)) ≤ 100) count
    (few_left current (version_ids versions) apart) in
    omega (arith, same, few)
