-- Rows whose keys rise, judged one after the other.
use Rattle.std.proofs.Common.{ℕ, ◌+◌, ◌<◌, ◌≤◌, ◌&&◌, nat_le, nat_lt, List, [], ◌∷◌, refl, arith}
use Rattle.std.specs.Prelude.{Decides}
use Rattle.std.specs.List.{AllByRecursion}
use Rattle.std.proofs.lemmas.Bool.{le-leb, leb-true}
use Rattle.std.proofs.lemmas.Bool.Decides.{Decides-and, Decides-like, Decides-ltb}
use Rattle.pol_tables.specs.Rising.{KeysRise}
use Rattle.pol_tables.proofs.ListLemmas.{each-join, each-weaken}
use Rattle.pol_sound_access.specs.Judged.{rises}

module _ {R : Type 0} (key : R → ℕ) where
  abbrev pub Within : ℕ → ℕ → R → Type 0
  Within least next row = (least ≤ key row) × (key row < next)

  -- the keys rise from a least one to below the next one
  abbrev pub Rises : ℕ → ℕ → List R → Type 0
  Rises least next rows = KeysRise key rows × AllByRecursion (Within least next) rows

  module _ (next : ℕ) where
    grows : (low : ℕ) (row : R) (rows : List R) → (low ≤ key row) × ((key row < next) × Rises (key row + 1) next rows) → Rises low next (row ∷ rows)
    unfolding KeysRise
    grows low row rows all =
        let above = each-weaken (Within (key row + 1) next) (λ later. key row < key later) rows (λ later one. let from = one.0 in omega arith) all.1.1.1 in
        let rest = each-weaken (Within (key row + 1) next) (Within low next) rows (λ later one. let from = one.0 in let least = all.0 in let over : low ≤ key later = omega arith in (over, one.1)) all.1.1.1 in
        ((above, all.1.1.0), ((all.0, all.1.0), rest))

    parts : (low : ℕ) (row : R) (rows : List R) → Rises low next (row ∷ rows) → (low ≤ key row) × ((key row < next) × Rises (key row + 1) next rows)
    unfolding KeysRise
    parts low row rows all =
        let rest = each-join (λ later. key row < key later) (Within low next) (Within (key row + 1) next) rows (λ later over one. let from : key row + 1 ≤ key later = omega arith in (from, one.1)) all.0.0 all.1.1 in
        (all.1.0.0, (all.1.0.1, (all.0.1, rest)))

    pub rises-decides : (low : ℕ) (rows : List R) → Decides (rises key low next rows) (Rises low next rows)
    unfolding KeysRise rises
    rises-decides low [] = (λ is. (tt, tt), λ all. refl)
    rises-decides low (row ∷ rows) =
        Decides-like (rises key low next (row ∷ rows)) (grows low row rows) (parts low row rows)
        (Decides-and (nat_le low (key row)) (nat_lt (key row) next && rises key (key row + 1) next rows) (leb-true low (key row), le-leb low (key row))
        (Decides-and (nat_lt (key row) next) (rises key (key row + 1) next rows) (Decides-ltb (key row) next) (rises-decides (key row + 1) rows)))
