-- Locations with their owners, once one is put or taken away.
use Rattle.std.specs.Prelude.{IsTrue}
use Rattle.std.proofs.Common.{◌≡◌, ◌≢◌, ◌↔◌, ℕ, Bool, true, false, not, cond, ◌&&◌, ◌||◌, List, [], ◌∷◌, ◌++◌, filter, map, min, Some, refl, sym, ap, subst, suc, ◌∙◌, arith, true≢false}
use Rattle.std.specs.List.{fold, list_any, reduce, All, AllByRecursion, Any}
use Rattle.std.proofs.lemmas.Bool.{eq-eqb, ne_eqb}
use Rattle.std.proofs.lemmas.List.Elements.{All-cons, All-head, All-nil, All-tail}
use Rattle.std.proofs.lemmas.List.Folds.{list_any-append}
use Rattle.pol_locations.specs.LocationSet.{AreApart, Gains, IsApart, clash_of, is_clash}
use Rattle.pol_locations.specs.contracts.location_set.Member.{the_row}
use Rattle.pol_locations.specs.declared.location_set.Member.{Member}
use Rattle.pol_table_rows.specs.Places.{IsPut, IsTaken, is_owner, is_placed, least}
use Rattle.pol_tables.specs.Same.{same}
use Rattle.pol_tables.proofs.FactChangesLemmas.{holds-filter}
use Rattle.pol_tables.proofs.ListLemmas.{each-weaken, or_swapped}
use Rattle.pol_tables.proofs.SameLemmas.{same-differ, same-refl}

-- what is placed in one of two lists
pub placed-append : (other : Member) (left right : List Member) → is_placed other (left ++ right) ≡ (is_placed other left || is_placed other right)
placed-append other left right = list_any-append (same the_row.coded other) left right

-- one member more, wherever it stands
pub placed-gains : (other member : Member) (old new : List Member) → Gains old new member → is_placed other new ≡ (same the_row.coded other member || is_placed other old)
placed-gains other member old new gains =
    ap (is_placed other) gains.is
    ∙ placed-append other gains.before (member ∷ gains.after)
    ∙ or_swapped (is_placed other gains.before) (same the_row.coded other member) (is_placed other gains.after)
    ∙ ap (λ b. same the_row.coded other member || b) (sym (ap (is_placed other) gains.was ∙ placed-append other gains.before gains.after))

-- a member that is another one's owner is another member
pub other-owner : (owner : ℕ) (one other : Member) → is_owner owner one ≡ true → is_owner owner other ≡ false → same the_row.coded other one ≡ false
other-owner owner one other is apart =
    same-differ the_row.coded other one (λ alike. true≢false (sym (ap (λ (member : Member). is_owner owner member) alike ∙ is) ∙ apart))

-- of members of which none is the owner's, none is taken
pub none-placed : (owner : ℕ) (other : Member) (members : List Member) → is_owner owner other ≡ true → list_any (is_owner owner) members ≡ false → is_placed other members ≡ false
none-placed owner other [] is none = refl
none-placed owner other (first ∷ members) is none =
    by (is_owner owner first) refl none (λ rest. none-placed owner other members is rest)
  where
    by : (b : Bool) → is_owner owner first ≡ b → (b || list_any (is_owner owner) members) ≡ false → (list_any (is_owner owner) members ≡ false → is_placed other members ≡ false) → is_placed other (first ∷ members) ≡ false
    by true here some others = absurd (true≢false some)
    by false apart rest others =
        let unlike : same the_row.coded other first ≡ false = same-differ the_row.coded other first (λ alike. true≢false (sym is ∙ ap (λ (member : Member). is_owner owner member) alike ∙ apart)) in
        λ i. unlike i || others rest i

-- the members that are left once the one member of an owner is gone
pub taken-gained : (owner : ℕ) (member : Member) (old new : List Member) → is_owner owner member ≡ true → list_any (is_owner owner) new ≡ false → Gains new old member → IsTaken owner old new
taken-gained owner member old new is none gains other = by (is_owner owner other) refl
  where
    by : (b : Bool) → is_owner owner other ≡ b → is_placed other new ≡ (not b && is_placed other old)
    by true here = none-placed owner other new here none
    by false apart =
        sym (placed-gains other member new old gains ∙ ap (λ b. b || is_placed other new) (other-owner owner member other is apart))

-- what holds of each item in one way of saying it holds in the other
each-of : {X : Type 0} (P : X → Type 0) (xs : List X) → All P xs → AllByRecursion P xs
each-of P [] all = tt
each-of P (x ∷ xs) all = (All-head P x xs all, each-of P xs (All-tail P x xs all))

pub all-of : {X : Type 0} (P : X → Type 0) (xs : List X) → AllByRecursion P xs → All P xs
all-of P [] all = All-nil P
all-of P (x ∷ xs) all = All-cons P x xs all.0 (all-of P xs all.1)

middle : {X : Type 0} (P : X → Type 0) (before after : List X) (x : X) → AllByRecursion P (before ++ x ∷ after) → P x
middle P [] after x all = all.0
middle P (first ∷ before) after x all = middle P before after x all.1

-- of members that stand apart, no other one is the owner's
others-apart : (owner : ℕ) (member : Member) (before after : List Member) → member.owner ≡ owner → AreApart (before ++ member ∷ after) → AllByRecursion (λ other. other.owner ≢ owner) (before ++ after)
others-apart owner member [] after is apart =
    each-weaken (IsApart member) (λ other. other.owner ≢ owner) after (λ other two same. two.owners (is ∙ sym same)) (each-of (IsApart member) after apart.0)
others-apart owner member (first ∷ before) after is apart = (
  λ same. (middle (IsApart first) before after member (each-of (IsApart first) (before ++ member ∷ after) apart.0)).owners (same ∙ sym is),
  others-apart owner member before after is apart.1,
)

pub gone-others : (owner : ℕ) (member : Member) (old new : List Member) → member.owner ≡ owner → AreApart old → Gains new old member → AllByRecursion (λ other. other.owner ≢ owner) new
gone-others owner member old new is apart gains =
    subst (λ members. AllByRecursion (λ other. other.owner ≢ owner) members) (sym gains.was) (others-apart owner member gains.before gains.after is (subst AreApart gains.is apart))

pub none-owned : (owner : ℕ) (members : List Member) → AllByRecursion (λ other. other.owner ≢ owner) members → list_any (is_owner owner) members ≡ false
none-owned owner [] all = refl
none-owned owner (member ∷ members) all = λ i. ne_eqb member.owner owner all.0 i || none-owned owner members all.1 i

-- members of which none is the owner's are all left
pub taken-none : (owner : ℕ) (members : List Member) → list_any (is_owner owner) members ≡ false → IsTaken owner members members
taken-none owner members none other = by (is_owner owner other) refl
  where
    by : (b : Bool) → is_owner owner other ≡ b → is_placed other members ≡ (not b && is_placed other members)
    by true here = none-placed owner other members here none
    by false apart = refl

-- what is left of a list once the owner's are sorted out
pub taken-filter : (owner : ℕ) (members : List Member) → IsTaken owner members (filter (λ member. not (is_owner owner member)) members)
taken-filter owner members other = holds-filter the_row.coded other (λ member. not (is_owner owner member)) members

and-or : (a b c : Bool) → ((a && b) || (a && c)) ≡ (a && (b || c))
and-or true b c = refl
and-or false b c = refl

-- what is left of two lists
pub taken-append : (owner : ℕ) (left right kept others : List Member) → IsTaken owner left kept → IsTaken owner right others → IsTaken owner (left ++ right) (kept ++ others)
taken-append owner left right kept others one two other =
    placed-append other kept others
    ∙ (λ i. one other i || two other i)
    ∙ and-or (not (is_owner owner other)) (is_placed other left) (is_placed other right)
    ∙ ap (λ b. not (is_owner owner other) && b) (sym (placed-append other left right))

-- where none is the owner's, each is another one's
none-there : (owner : ℕ) (members : List Member) → (Any (λ member. member.owner ≡ owner) members → ⊥) → AllByRecursion (λ other. other.owner ≢ owner) members
none-there owner [] none = tt
none-there owner (member ∷ members) none = (
  λ is. none (0, member, omega arith, refl, is),
  none-there owner members (λ any. none (suc any.0, any.1, omega (arith, any.2), any.3, any.4)),
)

-- where no member of an owner is placed, none is the owner's
pub none-left : (owner : ℕ) (members : List Member) → ((other : Member) → is_owner owner other ≡ true → is_placed other members ≡ false) → list_any (is_owner owner) members ≡ false
none-left owner [] none = refl
none-left owner (first ∷ members) none = by (is_owner owner first) refl (none-left owner members (λ other is. past (same the_row.coded other first) (is_placed other members) (none other is)))
  where
    past : (a b : Bool) → (a || b) ≡ false → b ≡ false
    past true b neither = absurd (true≢false neither)
    past false b neither = neither

    by : (b : Bool) → is_owner owner first ≡ b → list_any (is_owner owner) members ≡ false → (b || list_any (is_owner owner) members) ≡ false
    by true is rest = absurd (true≢false (sym (ap (λ b. b || is_placed first members) (same-refl the_row.coded first)) ∙ none first is))
    by false apart rest = rest

-- none is the owner's once its members are taken
pub none-taken : (owner : ℕ) (old new : List Member) → IsTaken owner old new → list_any (is_owner owner) new ≡ false
none-taken owner old new taken = none-left owner new (λ other is. taken other ∙ ap (λ b. not b && is_placed other old) is)

-- so each of some of them is another one's
pub others-owned : (owner : ℕ) (left right : List Member) → list_any (is_owner owner) (left ++ right) ≡ false → All (λ other. other.owner ≢ owner) left
others-owned owner left right none = all-of (λ other. other.owner ≢ owner) left (each left none)
  where
    first : (member : Member) (rest : Bool) → (is_owner owner member || rest) ≡ false → member.owner ≢ owner
    first member rest neither same = true≢false (sym (ap (λ b. b || rest) (eq-eqb member.owner owner same)) ∙ neither)

    past : (a b : Bool) → (a || b) ≡ false → b ≡ false
    past true b neither = absurd (true≢false neither)
    past false b neither = neither

    each : (left : List Member) → list_any (is_owner owner) (left ++ right) ≡ false → AllByRecursion (λ other. other.owner ≢ owner) left
    each [] none = tt
    each (member ∷ left) none = (first member (list_any (is_owner owner) (left ++ right)) none, each left (past (is_owner owner member) (list_any (is_owner owner) (left ++ right)) none))

-- a put behind a take is a put
pub put-taken : (member : Member) (old taken new : List Member) → IsTaken member.owner old taken → IsPut member taken new → IsPut member old new
put-taken member old taken new is put other =
    put other ∙ ap (λ b. same the_row.coded other member || (not (is_owner member.owner other) && b)) (is other) ∙ ap (λ b. same the_row.coded other member || b) (twice (not (is_owner member.owner other)) (is_placed other old))
  where
    twice : (a b : Bool) → (a && (a && b)) ≡ (a && b)
    twice true b = refl
    twice false b = refl

-- what a set is left with once the member of an owner is removed, where there is one
pub forgotten : (owner : ℕ) (old new : List Member) (there : Bool) → AreApart old → IsTrue there ↔ Any (λ member. member.owner ≡ owner) old
    → (there ≡ true → (member : Member) × (member.owner ≡ owner) × Gains new old member) → (there ≡ false → new ≡ old)
    → IsTaken owner old new
forgotten owner old new true apart so taken absent =
    let one = taken refl in
    taken-gained owner one.0 old new (eq-eqb one.0.owner owner one.1) (none-owned owner new (gone-others owner one.0 old new one.1 apart one.2)) one.2
forgotten owner old new false apart so taken absent =
    let others = none-there owner old (λ any. let contrary : IsTrue false = so.1 any in cc) in
    subst (IsTaken owner old) (sym (absent refl)) (taken-none owner old (none-owned owner old others))

-- one is put where it was taken from before: into the set, or beside it
pub put-first : (member : Member) (old set beside new : List Member) → IsTaken member.owner old (set ++ beside) → Gains set new member → IsPut member old (new ++ beside)
put-first member old set beside new taken gains other =
    placed-append other new beside
    ∙ ap (λ b. b || is_placed other beside) (placed-gains other member set new gains)
    ∙ or-assoc (same the_row.coded other member) (is_placed other set) (is_placed other beside)
    ∙ ap (λ b. same the_row.coded other member || b) (sym (placed-append other set beside) ∙ taken other)
  where
    or-assoc : (a b c : Bool) → ((a || b) || c) ≡ (a || (b || c))
    or-assoc true b c = refl
    or-assoc false b c = refl

pub put-beside : (member : Member) (old set beside : List Member) → IsTaken member.owner old (set ++ beside) → IsPut member old (set ++ (beside ++ member ∷ []))
put-beside member old set beside taken other =
    placed-append other set (beside ++ member ∷ [])
    ∙ ap (λ b. is_placed other set || b) (placed-append other beside (member ∷ []))
    ∙ last (is_placed other set) (is_placed other beside) (same the_row.coded other member)
    ∙ ap (λ b. same the_row.coded other member || b) (sym (placed-append other set beside) ∙ taken other)
  where
    last : (a b c : Bool) → (a || (b || (c || false))) ≡ (c || (a || b))
    last true b true = refl
    last true b false = refl
    last false true true = refl
    last false true false = refl
    last false false true = refl
    last false false false = refl

-- the least of two lists of numbers
min-fold : (n m : ℕ) (xs : List ℕ) → fold min (min n m) xs ≡ min n (fold min m xs)
min-fold n m [] = refl
min-fold n m (x ∷ xs) = ap (λ one. fold min one xs) (min-assoc n m x) ∙ min-fold n (min m x) xs
  where
    min-assoc : (a b c : ℕ) → min (min a b) c ≡ min a (min b c)
    min-assoc a b c = omega arith

fold-append : (n : ℕ) (xs ys : List ℕ) → fold min n (xs ++ ys) ≡ fold min (fold min n xs) ys
fold-append n [] ys = refl
fold-append n (x ∷ xs) ys = fold-append (min n x) xs ys

pub reduce-append : (xs ys : List ℕ) → reduce min (xs ++ ys) ≡ least (reduce min xs) (reduce min ys)
reduce-append [] ys = refl
reduce-append (x ∷ xs) [] = ap Some (fold-append x xs [])
reduce-append (x ∷ xs) (y ∷ ys) = ap Some (fold-append x xs (y ∷ ys) ∙ min-fold (fold min x xs) y ys)

filter-append : (test : Member → Bool) (left right : List Member) → filter test (left ++ right) ≡ filter test left ++ filter test right
filter-append test [] right = refl
filter-append test (first ∷ left) right = by (test first) (filter-append test left right)
  where
    by : (b : Bool) → filter test (left ++ right) ≡ filter test left ++ filter test right → cond b (first ∷ filter test (left ++ right)) (filter test (left ++ right)) ≡ cond b (first ∷ filter test left) (filter test left) ++ filter test right
    by true rest = ap (λ xs. first ∷ xs) rest
    by false rest = rest

owners-append : (left right : List Member) → map (λ (member : Member). member.owner) (left ++ right) ≡ map (λ (member : Member). member.owner) left ++ map (λ (member : Member). member.owner) right
owners-append [] right = refl
owners-append (first ∷ left) right = ap (λ xs. first.owner ∷ xs) (owners-append left right)

-- the least owner of two lists whose location overlaps the wanted one
pub clash-append : (left right : List Member) (wanted : List (List ℕ)) (except : List ℕ) → least (clash_of left wanted except) (clash_of right wanted except) ≡ clash_of (left ++ right) wanted except
clash-append left right wanted except =
    let owners : List Member → List ℕ = map (λ (member : Member). member.owner) in
    sym (
    ap (λ members. reduce min (owners members)) (filter-append (is_clash wanted except) left right)
    ∙ ap (reduce min) (owners-append (filter (is_clash wanted except) left) (filter (is_clash wanted except) right))
    ∙ reduce-append (owners (filter (is_clash wanted except) left)) (owners (filter (is_clash wanted except) right))
    )
