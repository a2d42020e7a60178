-- Counts of views, tickets in a ring, functions that change at one place, and what all views meet.
use Rattle.std.proofs.Common.{◌≡◌, ◌≢◌, ◌⊎◌, ℕ, zero, suc, ◌+◌, ◌≤◌, ◌<◌, ◌%◌, List, [], ◌∷◌, ◌++◌, length, get_or, set, Bool, true, false, cond, not, ◌&&◌, count_by, refl, ap, sym, ◌∙◌, subst, ⊎_elim, inl, inr, arith}
use Rattle.std.proofs.lemmas.List.Sums.{sum_by-set, sum_by-le-sum_by, sum_by_push}
use Rattle.std.proofs.Math.Nat.{mod-add-mod}
use mathlib.Core.Logic.{dite}
use mathlib.Core.Option.{some, some-injective, some-ne-none}
use native.Mathlib.Decide.{ℕ_discrete}
use lib.ListN.{get_elem?}
use Rattle.atomic_table.proofs.Lists.{at_set, one_turn}
use Rattle.pol_turn.specs.declared.view.View.{View}
use Rattle.pol_turn.specs.Rule.{lives, queues, round}

abbrev pub bit : Bool → ℕ
bit b = cond b 1 0

pub is_false : (b : Bool) → (b ≡ true → ⊥) → b ≡ false
is_false true not_so = absurd (not_so refl)
is_false false not_so = refl

module _ {A : Type 0} where
  abbrev pick : {P : Type 0} → Dec P → A → A → A
  pick (yes _) a b = a
  pick (no _) a b = b

  -- the function with another value at one place
  pub put : (ℕ → A) → ℕ → A → ℕ → A
  put f i a j = pick (ℕ_discrete j i) a (f j)

  pub put_here : (f : ℕ → A) (i : ℕ) (a : A) → put f i a i ≡ a
  unfolding put
  put_here f i a = go (ℕ_discrete i i)
    where
      go : (d : Dec (i ≡ i)) → pick d a (f i) ≡ a
      go (yes _) = refl
      go (no n) = absurd (n refl)

  pub put_else : (f : ℕ → A) (i : ℕ) (a : A) (j : ℕ) → j ≢ i → put f i a j ≡ f j
  unfolding put
  put_else f i a j other = go (ℕ_discrete j i)
    where
      go : (d : Dec (j ≡ i)) → pick d a (f j) ≡ f j
      go (yes e) = absurd (other e)
      go (no _) = refl

  -- a place that is cleared stays clear
  pub put_clear : (f : ℕ → A) (i : ℕ) (a : A) (j : ℕ) → f j ≡ a → put f i a j ≡ a
  put_clear f i a j clear = dite (ℕ_discrete j i) (λ e. subst (λ (x : ℕ). put f i a x ≡ a) (sym e) (put_here f i a)) (λ other. put_else f i a j other ∙ clear)

  -- an element of a list that was pushed to, and where the new one stands
  pub at_end : (l : List A) (a b : A) (j : ℕ) → get_elem? (l ++ a ∷ []) j ≡ some b → (get_elem? l j ≡ some b) ⊎ ((a ≡ b) × (j ≡ length l))
  at_end [] a b zero e = inr (some-injective a b e, refl)
  at_end [] a b (suc j) e = absurd (some-ne-none b (sym e))
  at_end (x ∷ xs) a b zero e = inl e
  at_end (x ∷ xs) a b (suc j) e = ⊎_elim (λ t. inl t) (λ t. inr (t.0, ap suc t.1)) (at_end xs a b j e)

  pub at_length : (xs : List A) (i : ℕ) (a : A) → get_elem? xs i ≡ some a → i < length xs
  at_length [] i a e = absurd (some-ne-none a (sym e))
  at_length (x ∷ xs) zero a e = omega arith
  at_length (x ∷ xs) (suc i) a e = let h = at_length xs i a e in omega arith

  pub at_get : (xs : List A) (i : ℕ) (a d : A) → get_elem? xs i ≡ some a → get_or xs i d ≡ a
  at_get [] i a d e = absurd (some-ne-none a (sym e))
  at_get (x ∷ xs) zero a d e = some-injective x a e
  at_get (x ∷ xs) (suc i) a d e = at_get xs i a d e

  -- a count after one element has changed
  pub count_set : (p : A → Bool) (xs : List A) (i : ℕ) (v w : A) → get_elem? xs i ≡ some v → count_by p (set xs i w) + bit (p v) ≡ count_by p xs + bit (p w)
  count_set p xs i v w at =
      subst (λ (u : A). count_by p (set xs i w) + bit (p u) ≡ count_by p xs + bit (p w)) (at_get xs i v v at) (sum_by-set (λ x. cond (p x) 1 0) xs i w v (at_length xs i v at))

  pub count_push : (p : A → Bool) (xs : List A) (w : A) → count_by p (xs ++ w ∷ []) ≡ count_by p xs + bit (p w)
  count_push p xs w = sum_by_push (λ x. cond (p x) 1 0) xs w

module _ {I F : Type 0} where
  queue_lives : (v : View I F) → bit (queues v) ≤ bit (lives v)
  queue_lives v = by_cases v.waits v.spent
    where
      by_cases : (waits spent : Bool) → bit (waits && not spent) ≤ bit (not spent)
      by_cases true true = omega arith
      by_cases true false = omega arith
      by_cases false true = omega arith
      by_cases false false = omega arith

  -- only those that live wait
  pub queue_short : (vs : List (View I F)) → count_by queues vs ≤ count_by lives vs
  queue_short vs = sum_by-le-sum_by (λ (v : View I F). cond (queues v) 1 0) (λ (v : View I F). cond (lives v) 1 0) vs queue_lives

  -- where one that lives does not wait, fewer wait
  pub queue_shorter : (vs : List (View I F)) (i : ℕ) (v : View I F) → get_elem? vs i ≡ some v → queues v ≡ false → lives v ≡ true → count_by queues vs < count_by lives vs
  queue_shorter vs i v at idle alive =
      let gone : View I F = record v { waits = false; spent = true } in
      let one = count_set queues vs i v gone at in
      let two = count_set lives vs i v gone at in
      let short = queue_short (set vs i gone) in
      omega (arith, ap bit idle, ap bit alive)

  -- what holds of each unspent view holds after a step of one seat
  pub others_stay : (P : ℕ → View I F → Type 0) (vs : List (View I F)) (id : ℕ) (w : View I F) → P id w
      → ((j : ℕ) (u : View I F) → j ≢ id → get_elem? vs j ≡ some u → u.spent ≡ false → P j u)
      → (j : ℕ) (u : View I F) → get_elem? (set vs id w) j ≡ some u → u.spent ≡ false → P j u
  others_stay P vs id w mine others j u at alive = ⊎_elim
      (λ (t : (j ≡ id) × (w ≡ u)). subst (λ (x : ℕ × View I F). P x.0 x.1) (λ i. (sym t.0 i, t.1 i)) mine)
      (λ (t : (j ≢ id) × (get_elem? vs j ≡ some u)). others j u t.0 t.1 alive) (at_set vs id j w u at)

-- the next ticket, modulo 2^64
pub next_ticket : (ticket : ℕ) → (ticket % round + 1) % round ≡ (ticket + 1) % round
next_ticket ticket = mod-add-mod ticket round 1

-- a ticket that is still to be served is the one that is served where their words are equal
pub own_turn : (serving ticket next made : ℕ) → serving ≤ ticket → ticket < next → next ≤ serving + made → made < round → serving % round ≡ ticket % round → ticket ≡ serving
own_turn serving ticket next made from to long few same = sym (one_turn serving ticket round from (omega arith) same)
