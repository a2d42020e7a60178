-- Rows whose ids were given out, pushed to, altered and filtered.
use Rattle.std.proofs.Common.{◌≡◌, ℕ, ◌+◌, ◌<◌, ◌≤◌, Bool, List, [], ◌∷◌, ◌++◌, map, filter, sym, subst, arith}
use Rattle.std.specs.List.{AllByRecursion}
use Rattle.pol_tables.specs.Numbered.{AreNumbered, IsGiven}
use Rattle.pol_tables.specs.Rising.{KeysBelow}
use Rattle.pol_tables.proofs.ListLemmas.{each-filter, each-map, each-push, each-weaken}
use Rattle.pol_tables.proofs.RisingLemmas.{KeysRise-filter, KeysRise-map, KeysRise-push}

module _ {R : Type 0} (key : R → ℕ) where
  abbrev Given : ℕ → R → Type 0
  Given next_id row = IsGiven next_id (key row)

  pub given-more : (low high : ℕ) → low ≤ high → (rows : List R) → AllByRecursion (Given low) rows → AllByRecursion (Given high) rows
  given-more low high within rows given =
      each-weaken (Given low) (Given high) rows (λ row here. let under : key row < high = omega (arith, here.1) in (here.0, under)) given

  pub AreNumbered-more : (low high : ℕ) → low ≤ high → (rows : List R) → AreNumbered key low rows → AreNumbered key high rows
  AreNumbered-more low high within rows numbered = record { rise = numbered.rise; given = given-more low high within rows numbered.given }

  pub below-next : (next_id : ℕ) (rows : List R) → AreNumbered key next_id rows → KeysBelow key next_id rows
  below-next next_id rows numbered = each-weaken (Given next_id) (λ row. key row < next_id) rows (λ row here. here.1) numbered.given

  pub AreNumbered-push : (next_id : ℕ) (row : R) (rows : List R) → 1 ≤ next_id → key row ≡ next_id → AreNumbered key next_id rows → AreNumbered key (next_id + 1) (rows ++ row ∷ [])
  AreNumbered-push next_id row rows first is numbered =
      let above : 1 ≤ key row = omega arith in
      let under : key row < next_id + 1 = omega arith in
      let step : next_id ≤ next_id + 1 = omega arith in
      record {
        rise = KeysRise-push key row rows numbered.rise (subst (λ n. KeysBelow key n rows) (sym is) (below-next next_id rows numbered));
        given = each-push (Given (next_id + 1)) rows row (given-more next_id (next_id + 1) step rows numbered.given) (above, under);
      }

  pub AreNumbered-filter : (next_id : ℕ) (keep : R → Bool) (rows : List R) → AreNumbered key next_id rows → AreNumbered key next_id (filter keep rows)
  AreNumbered-filter next_id keep rows numbered = record { rise = KeysRise-filter key keep rows numbered.rise; given = each-filter (Given next_id) keep rows numbered.given }

  pub AreNumbered-map : (next_id : ℕ) (alter : R → R) → ((row : R) → key (alter row) ≡ key row) → (rows : List R) → AreNumbered key next_id rows → AreNumbered key next_id (map alter rows)
  AreNumbered-map next_id alter keeps rows numbered = record {
    rise = KeysRise-map key alter keeps rows numbered.rise;
    given = each-map (Given next_id) alter rows (each-weaken (Given next_id) (λ row. Given next_id (alter row)) rows (λ row here. subst (IsGiven next_id) (sym (keeps row)) here) numbered.given);
  }
