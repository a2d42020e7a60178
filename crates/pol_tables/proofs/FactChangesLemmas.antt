-- The difference of two sets of facts: of equal ones, after a put, an append and a filter, and the way back.
use Rattle.std.proofs.Common.{◌≡◌, Bool, true, false, not, cond, ◌||◌, ◌&&◌, List, [], ◌∷◌, ◌++◌, map, filter, refl, sym, ap, subst, ◌∙◌, inl, inr, append-nil}
use Rattle.std.specs.Coded.{Coded}
use Rattle.std.specs.List.{AllByRecursion, IsDistinct, list_any, fold}
use Rattle.std.specs.Ordering.{is_lt}
use Rattle.std.specs.declared.cmp.Ordering.{Ordering}
use Rattle.std.proofs.lemmas.Bool.{cases_Bool}
use Rattle.std.proofs.lemmas.List.Sums.{fold-append}
use Rattle.std.proofs.lemmas.Map.Keys.{IsDistinct-head, IsDistinct-tail}
use Rattle.pol_tables.specs.Same.{same}
use Rattle.pol_tables.specs.Facts.{holds, facts_with, facts_without}
use Rattle.pol_tables.specs.Changes.{new_rows, fact_changes, ActsOnFacts}
use Rattle.pol_tables.specs.Order.{in_order, placed}
use Rattle.pol_tables.proofs.ListLemmas.{and_false, and_true, or_swapped, each-weaken, filter-none, filter-alike}
use Rattle.pol_tables.proofs.SameLemmas.{same-true, same-symmetric}
use Rattle.pol_tables.proofs.FactsLemmas.{facts_with-known, facts_with-new}
use Rattle.pol_tables.proofs.ChangesLemmas.{each_held, each_held_itself, new_rows-none, new_rows-itself, new_rows-append, new_rows-filter}

module _ {T : Type 0} (cmp : T → T → Ordering) where
  pub in_order-one : (fact : T) → in_order cmp (fact ∷ []) ≡ fact ∷ []
  unfolding in_order placed
  in_order-one fact = refl

  -- facts in order pass a test as they did
  any-placed : (test : T → Bool) (fact : T) (facts : List T) → list_any test (placed cmp fact facts) ≡ (test fact || list_any test facts)
  unfolding placed
  any-placed test fact [] = refl
  any-placed test fact (next ∷ facts) = by (is_lt (cmp next fact)) (any-placed test fact facts)
    where
      by : (b : Bool) → list_any test (placed cmp fact facts) ≡ (test fact || list_any test facts) → list_any test (cond b (next ∷ placed cmp fact facts) (fact ∷ next ∷ facts)) ≡ (test fact || (test next || list_any test facts))
      by true rest = ap (λ later. test next || later) rest ∙ or_swapped (test next) (test fact) (list_any test facts)
      by false rest = refl

  pub any-in_order : (test : T → Bool) (facts : List T) → list_any test (in_order cmp facts) ≡ list_any test facts
  unfolding in_order
  any-in_order test [] = refl
  any-in_order test (fact ∷ facts) =
      any-placed test fact (in_order cmp facts) ∙ ap (λ later. test fact || later) (any-in_order test facts)

module _ {T : Type 0} (code : Coded T) where
  -- a filter holds what it keeps
  pub holds-filter : (fact : T) (keep : T → Bool) (facts : List T) → holds code fact (filter keep facts) ≡ (keep fact && holds code fact facts)
  holds-filter fact keep [] = sym (and_false (keep fact))
  holds-filter fact keep (first ∷ facts) =
      let rest = holds-filter fact keep facts in
      elim (cases_Bool (same code fact first)) [
        | inl here ↦ rw here (ap (λ other. holds code fact (cond (keep other) (first ∷ filter keep facts) (filter keep facts))) (sym (same-true code fact first here)) ∙ at_here (keep fact) here rest)
        | inr apart ↦ rw apart (elsewhere (keep first) apart ∙ rest)
      ]
    where
      at_here : (b : Bool) → same code fact first ≡ true → holds code fact (filter keep facts) ≡ (b && holds code fact facts) → holds code fact (cond b (first ∷ filter keep facts) (filter keep facts)) ≡ (b && true)
      at_here true here rest = rw here refl
      at_here false here rest = rest

      elsewhere : (b : Bool) → same code fact first ≡ false → holds code fact (cond b (first ∷ filter keep facts) (filter keep facts)) ≡ holds code fact (filter keep facts)
      elsewhere true apart = rw apart refl
      elsewhere false apart = refl

  pub holds-pushed : (fact new : T) (held : List T) → holds code fact (held ++ new ∷ []) ≡ (same code fact new || holds code fact held)
  holds-pushed fact new [] = refl
  holds-pushed fact new (first ∷ held) = ap (λ later. same code fact first || later) (holds-pushed fact new held) ∙ or_swapped (same code fact first) (same code fact new) (holds code fact held)

  pub holds-facts_with : (fact new : T) (facts : List T) → holds code fact (facts_with code new facts) ≡ (same code fact new || holds code fact facts)
  holds-facts_with fact new facts = elim (cases_Bool (holds code new facts)) [
    | inl known ↦ rw (facts_with-known code new facts known) (elim (cases_Bool (same code fact new)) [
      | inl is ↦ rw is (ap (λ other. holds code other facts) (same-true code fact new is) ∙ known)
      | inr apart ↦ rw apart refl
    ])
    | inr unknown ↦ rw (facts_with-new code new facts unknown) (holds-pushed fact new facts)
  ]

  pub holds-facts_without : (fact gone : T) (facts : List T) → holds code fact (facts_without code gone facts) ≡ (not (same code fact gone) && holds code fact facts)
  unfolding facts_without
  holds-facts_without fact gone facts =
      holds-filter fact (λ kept. not (same code gone kept)) facts ∙ ap (λ b. not b && holds code fact facts) (same-symmetric code gone fact)

  pub holds-new_rows : (fact : T) (old new : List T) → holds code fact (new_rows code old new) ≡ (not (holds code fact old) && holds code fact new)
  unfolding new_rows
  holds-new_rows fact old new = holds-filter fact (λ kept. not (holds code kept old)) new

  -- what a filter leaves out is gone
  new_rows-left_out : (keep : T → Bool) (facts : List T) → new_rows code (filter keep facts) facts ≡ filter (λ fact. not (keep fact)) facts
  unfolding new_rows
  new_rows-left_out keep facts =
      filter-alike (λ fact. not (holds code fact (filter keep facts))) (λ fact. not (keep fact)) facts
      (each-weaken (λ fact. holds code fact facts ≡ true) (λ fact. not (holds code fact (filter keep facts)) ≡ not (keep fact)) facts
      (λ fact held. ap not (holds-filter fact keep facts ∙ ap (λ b. keep fact && b) held ∙ and_true (keep fact)))
      (each_held_itself code facts))

  -- where facts differ, each stands once
  filter-only : (fact : T) (facts : List T) → IsDistinct (same code) facts → holds code fact facts ≡ true → filter (λ kept. not (not (same code fact kept))) facts ≡ fact ∷ []
  filter-only fact [] differ held = cc
  filter-only fact (first ∷ facts) differ held =
      let rest = filter-only fact facts (IsDistinct-tail (same code) first facts differ) in
      elim (cases_Bool (same code fact first)) [
        | inl here ↦
            let is = same-true code fact first here in
            let apart = subst (λ other. AllByRecursion (λ later. same code other later ≡ false) facts) (sym is) (IsDistinct-head (same code) first facts differ) in
            rw here (λ i. sym is i ∷ none apart i)
        | inr apart ↦ rw apart (rest (sym (ap (λ b. b || holds code fact facts) apart) ∙ held))
      ]
    where
      none : AllByRecursion (λ later. same code fact later ≡ false) facts → filter (λ kept. not (not (same code fact kept))) facts ≡ []
      none apart = filter-none (λ kept. not (not (same code fact kept))) facts (each-weaken (λ kept. same code fact kept ≡ false) (λ kept. not (not (same code fact kept)) ≡ false) facts (λ kept other. ap (λ b. not (not b)) other) apart)

  module _ (cmp : T → T → Ordering) {Change : Type 0} (put drop : T → Change) where
    abbrev changes : List T → List T → List Change
    changes old new = fact_changes code cmp put drop old new

    -- from what is new and what is gone
    changes-of : (old new fresh gone : List T) → new_rows code old new ≡ fresh → new_rows code new old ≡ gone → changes old new ≡ map put (in_order cmp fresh) ++ map drop (in_order cmp gone)
    unfolding fact_changes
    changes-of old new fresh gone is_fresh is_gone =
        λ i. map put (in_order cmp (is_fresh i)) ++ map drop (in_order cmp (is_gone i))

    pub fact_changes-itself : (facts : List T) → changes facts facts ≡ []
    unfolding in_order
    fact_changes-itself facts = changes-of facts facts [] [] (new_rows-itself code facts) (new_rows-itself code facts)

    pub fact_changes-append : (old more : List T) → AllByRecursion (λ fact. holds code fact old ≡ false) more → changes old (old ++ more) ≡ map put (in_order cmp more)
    unfolding in_order
    fact_changes-append old more unknown =
        changes-of old (old ++ more) more [] (new_rows-append code old more unknown) (new_rows-none code (old ++ more) old (each_held code old more)) ∙ append-nil (map put (in_order cmp more))

    pub fact_changes-filter : (keep : T → Bool) (facts : List T) → changes facts (filter keep facts) ≡ map drop (in_order cmp (filter (λ fact. not (keep fact)) facts))
    unfolding in_order
    fact_changes-filter keep facts =
        changes-of facts (filter keep facts) [] _ (new_rows-filter code keep facts) (new_rows-left_out keep facts)

    pub fact_changes-put_new : (fact : T) (facts : List T) → holds code fact facts ≡ false → changes facts (facts_with code fact facts) ≡ put fact ∷ []
    fact_changes-put_new fact facts new =
        ap (changes facts) (facts_with-new code fact facts new) ∙ fact_changes-append facts (fact ∷ []) (new, tt) ∙ ap (map put) (in_order-one cmp fact)

    pub fact_changes-put_known : (fact : T) (facts : List T) → holds code fact facts ≡ true → changes facts (facts_with code fact facts) ≡ []
    fact_changes-put_known fact facts known =
        ap (changes facts) (facts_with-known code fact facts known) ∙ fact_changes-itself facts

    pub fact_changes-take : (fact : T) (facts : List T) → IsDistinct (same code) facts → holds code fact facts ≡ true → changes facts (facts_without code fact facts) ≡ drop fact ∷ []
    unfolding facts_without
    fact_changes-take fact facts differ held =
        fact_changes-filter (λ kept. not (same code fact kept)) facts
        ∙ ap (λ gone. map drop (in_order cmp gone)) (filter-only fact facts differ held)
        ∙ ap (map drop) (in_order-one cmp fact)

    -- a state whose facts are told by the changes that act on it
    module _ {S : Type 0} (act : S → Change → S) (facts_in : S → List T) (acts : ActsOnFacts code put drop act facts_in) where
      puts : (fact : T) (more : List T) (state : S) → holds code fact (facts_in (fold act state (map put more))) ≡ (holds code fact more || holds code fact (facts_in state))
      puts fact [] state = refl
      puts fact (new ∷ more) state =
          puts fact more (act state (put new))
          ∙ ap (λ facts. holds code fact more || holds code fact facts) (acts.puts state new)
          ∙ ap (λ b. holds code fact more || b) (holds-facts_with fact new (facts_in state))
          ∙ swapped (holds code fact more) (same code fact new) (holds code fact (facts_in state))
        where
          swapped : (a b c : Bool) → (a || (b || c)) ≡ ((b || a) || c)
          swapped true true c = refl
          swapped true false c = refl
          swapped false true c = refl
          swapped false false c = refl

      drops : (fact : T) (less : List T) (state : S) → holds code fact (facts_in (fold act state (map drop less))) ≡ (not (holds code fact less) && holds code fact (facts_in state))
      drops fact [] state = refl
      drops fact (gone ∷ less) state =
          drops fact less (act state (drop gone))
          ∙ ap (λ facts. not (holds code fact less) && holds code fact facts) (acts.drops state gone)
          ∙ ap (λ b. not (holds code fact less) && b) (holds-facts_without fact gone (facts_in state))
          ∙ swapped (holds code fact less) (same code fact gone) (holds code fact (facts_in state))
        where
          swapped : (a b c : Bool) → (not a && (not b && c)) ≡ (not (b || a) && c)
          swapped true true c = refl
          swapped true false c = refl
          swapped false true c = refl
          swapped false false c = refl

      -- applying the changes gives a set of the new facts
      pub holds-replayed : (state : S) (new : List T) (fact : T) → holds code fact (facts_in (fold act state (fact_changes code cmp put drop (facts_in state) new))) ≡ holds code fact new
      unfolding fact_changes
      holds-replayed state new fact =
          let old = facts_in state in
          let fresh = in_order cmp (new_rows code old new) in
          let gone = in_order cmp (new_rows code new old) in
          ap (λ after. holds code fact (facts_in after)) (fold-append act state (map put fresh) (map drop gone))
          ∙ drops fact gone (fold act state (map put fresh))
          ∙ ap (λ b. not (holds code fact gone) && b) (puts fact fresh state)
          ∙ ap (λ b. not b && (holds code fact fresh || holds code fact old)) (any-in_order cmp (same code fact) (new_rows code new old) ∙ holds-new_rows fact new old)
          ∙ ap (λ b. not (not (holds code fact new) && holds code fact old) && (b || holds code fact old)) (any-in_order cmp (same code fact) (new_rows code old new) ∙ holds-new_rows fact old new)
          ∙ settled (holds code fact old) (holds code fact new)
        where
          settled : (old new : Bool) → (not (not new && old) && ((not old && new) || old)) ≡ new
          settled true true = refl
          settled true false = refl
          settled false true = refl
          settled false false = refl
