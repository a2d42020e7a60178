-- Principals that are known, and rows that are put once.
use Rattle.std.proofs.Common.{◌≡◌, ℕ, ◌<◌, ◌||◌, false, List, [], ◌∷◌, ◌++◌, Option, is_some, refl, sym, ap, subst, ◌∙◌, append-nil, arith}
use Rattle.std.specs.List.{fold, AllByRecursion}
use Rattle.std.proofs.lemmas.Bool.{ne_eqb, or_from}
use Rattle.std.proofs.lemmas.List.{append_assoc}
use Rattle.pol_tables.specs.Rising.{KeysRise}
use Rattle.pol_tables.specs.Table.{has_id, knows, row_of}
use Rattle.pol_tables.proofs.RisingLemmas.{rise_head, rise_tail}
use Rattle.pol_tables.proofs.TableLemmas.{is_some-row_of}
use Rattle.pol_tokens.specs.HeldTable.{rows_once}
use Rattle.pol_tokens.proofs.HeldLemmas.{once-new}

-- an id is known exactly where its row is found
pub known_row : {R : Type 0} (key : R → ℕ) (id : ℕ) (rows : List R) (found : Option R) → found ≡ row_of key id rows → knows key id rows ≡ is_some found
known_row key id rows found is = sym (is_some-row_of key id rows) ∙ ap is_some (sym is)

-- rows whose serials rise, put one after the other
module _ {R : Type 0} (key : R → ℕ) where
  unseen : (done : List R) (row : R) (rest : List R) → KeysRise key (done ++ row ∷ rest) → knows key (key row) done ≡ false
  unseen [] row rest rise = refl
  unseen (first ∷ done) row rest rise =
      or_from (has_id key (key row) first) (knows key (key row) done) (ne_eqb (key row) (key first) (λ is. omega (arith, is, above done (rise_head key first (done ++ row ∷ rest) rise)))) (unseen done row rest (rise_tail key first (done ++ row ∷ rest) rise))
    where
      above : (between : List R) → AllByRecursion (λ later. key first < key later) (between ++ row ∷ rest) → key first < key row
      above [] all = all.0
      above (next ∷ between) all = above between all.1

  put-after : (done rest : List R) → KeysRise key (done ++ rest) → fold (λ kept row. rows_once key row kept) done rest ≡ done ++ rest
  put-after done [] rise = sym (append-nil done)
  put-after done (row ∷ rest) rise =
      let moved = append_assoc done (row ∷ []) rest in
      ap (λ kept. fold (λ kept row. rows_once key row kept) kept rest) (once-new key row done (unseen done row rest rise))
      ∙ put-after (done ++ row ∷ []) rest (subst (KeysRise key) (sym moved) rise)
      ∙ moved

  pub all-once : (rows : List R) → KeysRise key rows → fold (λ kept row. rows_once key row kept) [] rows ≡ rows
  all-once rows rise = put-after [] rows rise
