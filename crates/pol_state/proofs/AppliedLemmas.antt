-- Changes applied one after the other: drops of facts and rows that pass a test.
use Rattle.std.proofs.Common.{◌≡◌, ℕ, Bool, true, false, not, ◌&&◌, ◌||◌, List, [], ◌∷◌, ◌++◌, filter, map, refl, sym, ap, subst, ◌∙◌, true≢false, cond}
use Rattle.std.specs.Coded.{Coded}
use Rattle.std.specs.List.{fold, AllByRecursion}
use Rattle.std.specs.declared.cmp.Ordering.{Ordering}
use Rattle.std.proofs.lemmas.Bool.{or_parts}
use Rattle.std.proofs.lemmas.List.{append-nil}
use Rattle.std.proofs.lemmas.List.Sums.{fold-append}
use Rattle.pol_tables.specs.Changes.{gone_ids, new_rows}
use Rattle.pol_tables.specs.Facts.{facts_without, holds}
use Rattle.pol_tables.specs.Order.{in_order}
use Rattle.pol_tables.specs.Rising.{KeysBelow, KeysRise}
use Rattle.pol_tables.specs.Same.{same}
use Rattle.pol_tables.specs.Table.{knows, rows_with, rows_without}
use Rattle.pol_tables.proofs.ChangesLemmas.{each_held_itself, each_known, gone_ids-filter, gone_ids-map, new_rows-filter, new_rows-map}
use Rattle.pol_tables.proofs.FactChangesLemmas.{any-in_order, holds-filter}
use Rattle.pol_tables.proofs.ListLemmas.{and_true, each-all, each-filter, each-map, each-weaken, filter-alike, filter-every}
use Rattle.pol_tables.proofs.ReplayLemmas.{rebuilt-new}
use Rattle.pol_tables.proofs.RisingLemmas.{IdsDiffer-rising, KeysRise-filter, KeysRise-map}
use Rattle.pol_tables.proofs.SameLemmas.{same-symmetric}
use Rattle.pol_content.specs.declared.change.Change.{Change}
use Rattle.pol_state.specs.Applied.{changed}
use Rattle.pol_state.specs.Rows.{Rows}
use Rattle.pol_state.proofs.ChangesLemmas.{filter-twice}

-- the rows that changes make, and those that more changes make of these
pub record Makes (s : Rows) (changes : List Change) (next : Rows) : Type 0 where
  pub is : fold changed s changes ≡ next

pub and_then : {s next last : Rows} {first rest : List Change} → Makes s first next → Makes next rest last → Makes s (first ++ rest) last
and_then {s = s} {first = first} {rest = rest} made more =
    record { is = fold-append changed s first rest ∙ ap (λ (now : Rows). fold changed now rest) made.is ∙ more.is }

-- changes of one kind touch their own list alone
module _ {R X : Type 0} (holding : List R → Rows) (step : List R → X → List R) (change : X → Change) (acts : (rows : List R) (x : X) → changed (holding rows) (change x) ≡ holding (step rows x)) where
  alone : (rows : List R) (xs : List X) → fold changed (holding rows) (map change xs) ≡ holding (fold step rows xs)
  alone rows [] = refl
  alone rows (x ∷ xs) = ap (λ (now : Rows). fold changed now (map change xs)) (acts rows x) ∙ alone (step rows x) xs

-- facts that are taken away one after the other
module _ {T : Type 0} (code : Coded T) where
  abbrev without_each : List T → List T → List T
  without_each facts gone = fold (λ kept fact. facts_without code fact kept) facts gone

  abbrev others : List T → List T → List T
  others facts gone = filter (λ fact. not (holds code fact gone)) facts

  kept-both : (first second : T → Bool) (fact : T) (facts rest : List T) (b : Bool) → first fact ≡ b → filter second (filter first facts) ≡ rest → filter second (filter first (fact ∷ facts)) ≡ cond (b && second fact) (fact ∷ rest) rest
  kept-both first second fact facts rest true is kept = rw is (ap (λ others. cond (second fact) (fact ∷ others) others) kept)
  kept-both first second fact facts rest false is kept = rw is kept

  filter-both : (first second : T → Bool) (facts : List T) → filter second (filter first facts) ≡ filter (λ fact. first fact && second fact) facts
  filter-both first second [] = refl
  filter-both first second (fact ∷ facts) =
      kept-both first second fact facts (filter (λ fact. first fact && second fact) facts) (first fact) refl (filter-both first second facts)

  apart : (same_first rest : Bool) → (not same_first && not rest) ≡ not (same_first || rest)
  apart true rest = refl
  apart false rest = refl

  without-others : (facts gone : List T) → without_each facts gone ≡ others facts gone
  unfolding facts_without
  without-others facts [] = sym (filter-every (λ fact. true) facts (each-all (λ fact. true ≡ true) facts (λ fact. refl)))
  without-others facts (fact ∷ gone) =
      without-others (filter (λ kept. not (same code fact kept)) facts) gone
      ∙ filter-both (λ kept. not (same code fact kept)) (λ kept. not (holds code kept gone)) facts
      ∙ filter-alike (λ kept. not (same code fact kept) && not (holds code kept gone)) (λ kept. not (holds code kept (fact ∷ gone))) facts
      (each-all (λ kept. (not (same code fact kept) && not (holds code kept gone)) ≡ not (holds code kept (fact ∷ gone))) facts (λ kept. ap (λ b. not b && not (holds code kept gone)) (same-symmetric code fact kept) ∙ apart (same code kept fact) (holds code kept gone)))

  -- those that pass a test, in order, leave those that don't
  without-passing : (cmp : T → T → Ordering) (gone : T → Bool) (facts : List T) → without_each facts (in_order cmp (filter gone facts)) ≡ filter (λ fact. not (gone fact)) facts
  without-passing cmp gone facts =
      without-others facts (in_order cmp (filter gone facts))
      ∙ filter-alike (λ fact. not (holds code fact (in_order cmp (filter gone facts)))) (λ fact. not (gone fact)) facts
      (each-weaken (λ fact. holds code fact facts ≡ true) (λ fact. not (holds code fact (in_order cmp (filter gone facts))) ≡ not (gone fact)) facts
      (λ fact held. ap not (any-in_order cmp (same code fact) (filter gone facts) ∙ holds-filter code fact gone facts ∙ ap (λ b. gone fact && b) held ∙ and_true (gone fact))) (each_held_itself code facts))

  pub facts-dropped : (cmp : T → T → Ordering) (drop : T → Change) (holding : List T → Rows) → ((facts : List T) (fact : T) → changed (holding facts) (drop fact) ≡ holding (facts_without code fact facts)) → (gone : T → Bool) (facts : List T)
      → Makes (holding facts) (map drop (in_order cmp (filter gone facts))) (holding (filter (λ fact. not (gone fact)) facts))
  facts-dropped cmp drop holding drops gone facts =
      record { is = alone holding (λ kept fact. facts_without code fact kept) drop drops facts (in_order cmp (filter gone facts)) ∙ ap holding (without-passing cmp gone facts) }

  -- a fact that isn't there is taken away without a change
  each-other : (fact : T) (facts : List T) → holds code fact facts ≡ false → AllByRecursion (λ kept. not (same code fact kept) ≡ true) facts
  each-other fact [] none = tt
  each-other fact (first ∷ facts) none =
      let parts = or_parts (same code fact first) (holds code fact facts) none in
      (ap not parts.0, each-other fact facts parts.1)

  pub facts_without-unknown : (fact : T) (facts : List T) → holds code fact facts ≡ false → facts_without code fact facts ≡ facts
  unfolding facts_without
  facts_without-unknown fact facts none = filter-every (λ kept. not (same code fact kept)) facts (each-other fact facts none)

-- rows whose ids rise that pass a test leave those that don't
module _ {R : Type 0} (code : Coded R) (key : R → ℕ) where
  without-gone : (gone : R → Bool) (rows : List R) → KeysRise key rows → fold (λ kept id. rows_without key id kept) rows (map key (filter gone rows)) ≡ filter (λ row. not (gone row)) rows
  without-gone gone rows rise =
      let keep : R → Bool = λ row. not (gone row) in
      let own = subst (λ all. AllByRecursion (λ row. knows key (key row) all ≡ true) rows) (append-nil rows) (each_known code key rows []) in
      let known = each-filter (λ row. knows key (key row) rows ≡ true) keep rows own in
      let above = each-weaken (λ row. knows key (key row) rows ≡ true) (λ row. knows key (key row) rows ≡ false → KeysBelow key (key row) rows) (filter keep rows) (λ row here none. absurd (true≢false (sym here ∙ none))) known in
      ap (λ ids. fold (λ kept id. rows_without key id kept) rows ids) (sym (gone_ids-filter code key keep rows (IdsDiffer-rising key rows rise) ∙ ap (map key) (filter-twice gone rows)))
      ∙ ap (λ more. fold (λ kept id. rows_without key id kept) (fold (λ kept row. rows_with key row kept) rows more) (gone_ids key rows (filter keep rows))) (sym (new_rows-filter code keep rows))
      ∙ rebuilt-new key code rows (filter keep rows) rise (KeysRise-filter key keep rows rise) above

  pub rows-dropped : (drop : ℕ → Change) (holding : List R → Rows) → ((rows : List R) (id : ℕ) → changed (holding rows) (drop id) ≡ holding (rows_without key id rows)) → (gone : R → Bool) (rows : List R) → KeysRise key rows
      → Makes (holding rows) (map drop (map key (filter gone rows))) (holding (filter (λ row. not (gone row)) rows))
  rows-dropped drop holding drops gone rows rise =
      record { is = alone holding (λ kept id. rows_without key id kept) drop drops rows (map key (filter gone rows)) ∙ ap holding (without-gone gone rows rise) }

  -- rows whose ids rise, altered under their ids, are made by putting those that change
  with-altered : (alter : R → R) → ((row : R) → key (alter row) ≡ key row) → (rows : List R) → KeysRise key rows → fold (λ kept row. rows_with key row kept) rows (map alter (filter (λ row. not (same code (alter row) row)) rows)) ≡ map alter rows
  with-altered alter keeps rows rise =
      let differ = IdsDiffer-rising key rows rise in
      let own = subst (λ all. AllByRecursion (λ row. knows key (key row) all ≡ true) rows) (append-nil rows) (each_known code key rows []) in
      let above = each-map (λ row. knows key (key row) rows ≡ false → KeysBelow key (key row) rows) alter rows (each-weaken (λ row. knows key (key row) rows ≡ true) (λ row. knows key (key (alter row)) rows ≡ false → KeysBelow key (key (alter row)) rows) rows (λ row here none. absurd (true≢false (sym here ∙ ap (λ id. knows key id rows) (sym (keeps row)) ∙ none))) own) in
      ap (λ more. fold (λ kept row. rows_with key row kept) rows more) (sym (new_rows-map code key alter keeps rows differ))
      ∙ ap (λ gone. fold (λ kept id. rows_without key id kept) (fold (λ kept row. rows_with key row kept) rows (new_rows code rows (map alter rows))) gone) (sym (gone_ids-map code key alter keeps rows))
      ∙ rebuilt-new key code rows (map alter rows) rise (KeysRise-map key alter keeps rows rise) above

  pub rows-altered : (put : R → Change) (holding : List R → Rows) → ((rows : List R) (row : R) → changed (holding rows) (put row) ≡ holding (rows_with key row rows)) → (alter : R → R) → ((row : R) → key (alter row) ≡ key row) → (rows : List R) → KeysRise key rows
      → Makes (holding rows) (map put (map alter (filter (λ row. not (same code (alter row) row)) rows))) (holding (map alter rows))
  rows-altered put holding puts alter keeps rows rise =
      record { is = alone holding (λ kept row. rows_with key row kept) put puts rows (map alter (filter (λ row. not (same code (alter row) row)) rows)) ∙ ap holding (with-altered alter keeps rows rise) }
