-- Beginnings of one list, and the items of one number in them.
use Rattle.std.proofs.Common.{◌≡◌, ◌≢◌, ℕ, ◌≤◌, ◌==◌, List, [], ◌∷◌, ◌++◌, length, drop, Bool, cond, true, false, nat_lt, eq-eqb, ne_eqb, refl, ap, sym, ◌∙◌, ⊎_elim, arith, append_assoc, length-append, All}
use Rattle.std.proofs.lemmas.List.{append-nil}
use Rattle.std.proofs.lemmas.List.Elements.{filter-append, All-weaker}
use Rattle.std.proofs.lemmas.List.Prefix.{front_rest}
use Rattle.std.proofs.lemmas.Bool.Decides.{nat_tests}
use Rattle.std.specs.List.{AllByRecursion as ByRecursion}
use mathlib.Core.List.{IsPrefix}
use Rattle.pol_turn.specs.declared.view.Gathered.{Gathered}
use Rattle.pol_turn.specs.Known.{items_by, AddsAtMostOne}
use Rattle.pol_turn.specs.Rule.{Settles, longer, shorter}

module _ {A : Type 0} where
  pub prefix_self : (xs : List A) → IsPrefix xs xs
  prefix_self xs = ([], append-nil xs)

  pub prefix_trans : (xs ys zs : List A) → IsPrefix xs ys → IsPrefix ys zs → IsPrefix xs zs
  prefix_trans xs ys zs p q = (p.0 ++ q.0, sym (append_assoc xs p.0 q.0) ∙ (ap (λ w. w ++ q.0) p.1 ∙ q.1))

  -- of two beginnings of one list the shorter begins the longer
  pub prefix_shorter : (xs ys zs : List A) → IsPrefix xs zs → IsPrefix ys zs → length xs ≤ length ys → IsPrefix xs ys
  prefix_shorter [] ys zs p q le = (ys, refl)
  prefix_shorter (x ∷ xs) [] zs p q le = absurd (omega arith)
  prefix_shorter (x ∷ xs) (y ∷ ys) [] p q le = absurd (cc (p.1))
  prefix_shorter (x ∷ xs) (y ∷ ys) (z ∷ zs) p q le =
      let heads : x ≡ y = cc (p.1, q.1) in
      let rest = prefix_shorter xs ys zs (p.0, cc (p.1)) (q.0, cc (q.1)) (omega arith) in
      (rest.0, cc (heads, rest.1))

  -- the longer of two beginnings of one list begins it, and the shorter begins the longer
  pub longer_front : (xs ys log : List A) → IsPrefix xs log → IsPrefix ys log
      → IsPrefix (longer xs ys) log × IsPrefix (shorter xs ys) (longer xs ys) × IsPrefix xs (longer xs ys) × IsPrefix ys (longer xs ys)
  longer_front xs ys log p q = go (nat_lt (length xs) (length ys)) refl
    where
      go : (b : Bool) → nat_lt (length xs) (length ys) ≡ b
          → IsPrefix (cond b ys xs) log × IsPrefix (cond b xs ys) (cond b ys xs) × IsPrefix xs (cond b ys xs) × IsPrefix ys (cond b ys xs)
      go true is = let le : length xs ≤ length ys = grind (arith, nat_tests) in let short = prefix_shorter xs ys log p q le in (q, short, short, prefix_self ys)
      go false is = let le : length ys ≤ length xs = grind (arith, nat_tests) in let short = prefix_shorter ys xs log q p le in (p, short, prefix_self xs, short)

  short_nil : (xs : List A) → length xs ≤ 0 → xs ≡ []
  short_nil [] le = refl
  short_nil (x ∷ xs) le = absurd (omega arith)

module _ {I : Type 0} (number : I → ℕ) where
  abbrev by : ℕ → List I → List I
  by = items_by number

  -- what stands all in a front stands all in what goes on from it
  pub between : (n : ℕ) (items xs ys zs : List I) → IsPrefix xs ys → IsPrefix ys zs → by n xs ≡ items → by n zs ≡ items → by n ys ≡ items
  between n items xs ys zs p q first last =
      let near : by n ys ≡ by n xs ++ by n p.0 = ap (by n) (sym p.1) ∙ filter-append (λ x. number x == n) xs p.0 in
      let far : by n zs ≡ by n ys ++ by n q.0 = ap (by n) (sym q.1) ∙ filter-append (λ x. number x == n) ys q.0 in
      let none : by n p.0 ≡ [] = short_nil (by n p.0) (omega (arith, ap length near, ap length far, ap length first, ap length last, length-append (by n xs) (by n p.0), length-append (by n ys) (by n q.0))) in
      near ∙ (ap (λ r. by n xs ++ r) none ∙ (append-nil (by n xs) ∙ first))

  pub settles_on : (n : ℕ) (items front front' log : List I) → IsPrefix front front' → IsPrefix front' log → Settles number front log n items → Settles number front' log n items
  settles_on n items front front' log p q known = record { seen = between n items front front' log p q known.seen known.all; all = known.all }

  pub settles_all_on : (gathered : List (Gathered I)) (front front' log : List I) → IsPrefix front front' → IsPrefix front' log
      → All (λ g. Settles number front log g.number g.items) gathered → All (λ g. Settles number front' log g.number g.items) gathered
  settles_all_on gathered front front' log p q known =
      All-weaker (λ (g : Gathered I). Settles number front log g.number g.items) (λ (g : Gathered I). Settles number front' log g.number g.items) (λ g k. settles_on g.number g.items front front' log p q k) gathered known

  -- the items that are new are all of the one number
  pub record Adds (n : ℕ) (log next added : List I) : Type 0 where
    pub joined : log ++ added ≡ next
    pub mine : by n next ≡ by n log ++ added
    pub others : (m : ℕ) → m ≢ n → by m next ≡ by m log

  pub adds : (n : ℕ) (log next : List I) → AddsAtMostOne number n log next → (added : List I) × Adds n log next added
  adds n log next = ⊎_elim
      (λ same. ([], record { joined = append-nil log ∙ sym same; mine = ap (by n) same ∙ sym (append-nil (by n log)); others = λ m other. ap (by m) same }))
      (λ one. (
        one.0 ∷ [],
        record {
          joined = sym one.2;
          mine = ap (by n) one.2 ∙ (filter-append (λ x. number x == n) log (one.0 ∷ []) ∙ ap (λ r. by n log ++ r) (kept one.0 n one.1));
          others = λ m other. ap (by m) one.2 ∙ (filter-append (λ x. number x == m) log (one.0 ∷ []) ∙ (ap (λ r. by m log ++ r) (left_out one.0 m (λ e. other (sym e ∙ one.1))) ∙ append-nil (by m log)));
        },
      ))
    where
      kept : (item : I) (m : ℕ) → number item ≡ m → by m (item ∷ []) ≡ item ∷ []
      kept item m is = rw (eq-eqb (number item) m is) refl

      left_out : (item : I) (m : ℕ) → number item ≢ m → by m (item ∷ []) ≡ []
      left_out item m other = rw (ne_eqb (number item) m other) refl

  -- what is new is what the longer log has past the old one
  pub added_is : (n : ℕ) (log next added : List I) → Adds n log next added → drop (length log) next ≡ added
  added_is n log next added it = front_rest next log added (sym it.joined)

  -- where a list has no item of a number, no beginning of it has
  pub none_before : (n : ℕ) (xs ys : List I) → IsPrefix xs ys → by n ys ≡ [] → by n xs ≡ []
  none_before n xs ys p none =
      let all : by n ys ≡ by n xs ++ by n p.0 = ap (by n) (sym p.1) ∙ filter-append (λ x. number x == n) xs p.0 in
      short_nil (by n xs) (omega (arith, ap length all, ap length none, length-append (by n xs) (by n p.0)))

  -- of items that are all of one number
  pub by_same : (n : ℕ) (xs : List I) → ByRecursion (λ x. number x ≡ n) xs → by n xs ≡ xs
  by_same n [] all = refl
  by_same n (x ∷ xs) all = rw (eq-eqb (number x) n all.0) (ap (λ r. x ∷ r) (by_same n xs all.1))

  pub by_other : (n m : ℕ) (xs : List I) → m ≢ n → ByRecursion (λ x. number x ≡ n) xs → by m xs ≡ []
  by_other n m [] other all = refl
  by_other n m (x ∷ xs) other all = rw (ne_eqb (number x) m (λ e. other (sym e ∙ all.0))) (by_other n m xs other all.1)
