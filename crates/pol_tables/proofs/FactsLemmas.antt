-- The facts of a set, put and taken.
use Rattle.std.proofs.Common.{◌≡◌, true, false, not, List, [], ◌∷◌, ◌++◌, filter, refl, ap}
use Rattle.std.specs.Coded.{Coded}
use Rattle.std.specs.List.{AllByRecursion}
use Rattle.pol_tables.specs.Same.{same}
use Rattle.pol_tables.specs.Facts.{holds, facts_with}
use Rattle.pol_tables.proofs.ListLemmas.{each-weaken, filter-every}

module _ {T : Type 0} (code : Coded T) where
  pub facts_with-known : (fact : T) (facts : List T) → holds code fact facts ≡ true → facts_with code fact facts ≡ facts
  unfolding facts_with
  facts_with-known fact facts known = rw known refl

  pub facts_with-new : (fact : T) (facts : List T) → holds code fact facts ≡ false → facts_with code fact facts ≡ facts ++ fact ∷ []
  unfolding facts_with
  facts_with-new fact facts new = rw new refl

  -- a filter without a fact that isn't there keeps all
  pub filter-lacks : (fact : T) (facts : List T) → AllByRecursion (λ kept. same code fact kept ≡ false) facts → filter (λ kept. not (same code fact kept)) facts ≡ facts
  filter-lacks fact facts none =
      filter-every (λ kept. not (same code fact kept)) facts (each-weaken (λ kept. same code fact kept ≡ false) (λ kept. not (same code fact kept) ≡ true) facts (λ kept no_. ap not no_) none)
