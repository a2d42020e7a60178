-- Storage tokens fit the tables once these change.
use Rattle.std.proofs.Common.{◌≡◌, ◌≤◌, ◌<◌, ℕ, Bool, true, false, cond, List, [], ◌∷◌, map, Option, None, Some, nat_eq, refl, sym, ap, subst, ◌∙◌, arith}
use Rattle.std.specs.List.{AllByRecursion}
use Rattle.std.specs.Option.{option_map}
use Rattle.std.proofs.lemmas.Bool.{eqb-true, ne_eqb}
use Rattle.pol_table_rows.specs.Tables.{table_id}
use Rattle.pol_table_rows.specs.declared.row.TableRow.{TableRow}
use Rattle.pol_tables.specs.Table.{has_id, row_of, rows_with, rows_without}
use Rattle.pol_tables.proofs.ListLemmas.{each-join, each-weaken}
use Rattle.pol_tables.proofs.ReplayLemmas.{row_of-rows_with, row_of-rows_without}
use Rattle.pol_tokens.specs.declared.token.TokenRow.{TokenRow}
use Rattle.pol_state.specs.Rows.{Rows}
use Rattle.pol_state.specs.Sound.{FitsFound, FitsTable, IsFit, IsSound, IsTokenOf}

-- a table that stands for another of its id: it has seen no fewer moves, and as many only where it lies in the same place
pub record MovesOn (old new : TableRow) : Type 0 where
  pub moves : old.moves ≤ new.moves
  pub stays : new.moves ≡ old.moves → new.location ≡ old.location

fits-on : (token : TokenRow) (old new : TableRow) → MovesOn old new → IsFit token old → IsFit token new
fits-on token old new on fit = record {
  moves = omega (arith, fit.moves, on.moves);
  location = λ same. fit.location (omega (arith, same, fit.moves, on.moves)) ∙ sym (on.stays (omega (arith, same, fit.moves, on.moves)));
}

-- a look-up in altered tables that keep their ids
found-altered : (alter : TableRow → TableRow) → ((row : TableRow) → (alter row).id ≡ row.id) → (id : ℕ) (rows : List TableRow) → row_of table_id id (map alter rows) ≡ option_map alter (row_of table_id id rows)
found-altered alter keeps id [] = refl
found-altered alter keeps id (row ∷ rows) =
    ap (λ own. cond (nat_eq id own) (Some (alter row)) (row_of table_id id (map alter rows))) (keeps row) ∙ by (nat_eq id row.id) (found-altered alter keeps id rows)
  where
    by : (b : Bool) → row_of table_id id (map alter rows) ≡ option_map alter (row_of table_id id rows) → cond b (Some (alter row)) (row_of table_id id (map alter rows)) ≡ option_map alter (cond b (Some row) (row_of table_id id rows))
    by true rest = refl
    by false rest = rest

each-on : (alter : TableRow → TableRow) (id : ℕ) (rows : List TableRow) → AllByRecursion (λ row. MovesOn row (alter row)) rows → (token : TokenRow) → FitsFound token (row_of table_id id rows) → FitsFound token (option_map alter (row_of table_id id rows))
each-on alter id [] on token fits = tt
each-on alter id (row ∷ rows) on token fits =
    by (nat_eq id row.id) fits (each-on alter id rows on.1 token)
  where
    by : (b : Bool) → FitsFound token (cond b (Some row) (row_of table_id id rows)) → (FitsFound token (row_of table_id id rows) → FitsFound token (option_map alter (row_of table_id id rows))) → FitsFound token (option_map alter (cond b (Some row) (row_of table_id id rows)))
    by true fits rest = fits-on token row (alter row) on.0 fits
    by false fits rest = rest fits

module _ (s : Rows) (sound : IsSound s) where
  -- tables that are altered under their ids
  pub fit-altered : (alter : TableRow → TableRow) → ((row : TableRow) → (alter row).id ≡ row.id) → AllByRecursion (λ row. MovesOn row (alter row)) s.content.tables → AllByRecursion (FitsTable (map alter s.content.tables)) s.tokens.tokens
  fit-altered alter keeps on =
      each-weaken (FitsTable s.content.tables) (FitsTable (map alter s.content.tables)) s.tokens.tokens (λ token fits. subst (FitsFound token) (sym (found-altered alter keeps token.table s.content.tables)) (each-on alter token.table s.content.tables on token fits)) sound.orderly.tokens_fit

  -- a table that is replaced
  pub fit-replaced : (old new : TableRow) → row_of table_id new.id s.content.tables ≡ Some old → MovesOn old new → AllByRecursion (FitsTable (rows_with table_id new s.content.tables)) s.tokens.tokens
  fit-replaced old new own on =
      each-weaken (FitsTable s.content.tables) (FitsTable (rows_with table_id new s.content.tables)) s.tokens.tokens (λ token fits. subst (FitsFound token) (sym (row_of-rows_with table_id token.table new s.content.tables)) (by token (nat_eq token.table new.id) refl fits)) sound.orderly.tokens_fit
    where
      by : (token : TokenRow) (b : Bool) → nat_eq token.table new.id ≡ b → FitsTable s.content.tables token → FitsFound token (cond b (Some new) (row_of table_id token.table s.content.tables))
      by token true same fits =
          fits-on token old new on (subst (FitsFound token) (ap (λ id. row_of table_id id s.content.tables) (eqb-true token.table new.id same) ∙ own) fits)
      by token false other fits = fits

  -- a table that goes
  pub fit-dropped : (id : ℕ) → AllByRecursion (FitsTable (rows_without table_id id s.content.tables)) s.tokens.tokens
  fit-dropped id =
      each-weaken (FitsTable s.content.tables) (FitsTable (rows_without table_id id s.content.tables)) s.tokens.tokens (λ token fits. subst (FitsFound token) (sym (row_of-rows_without table_id token.table id s.content.tables)) (by token (nat_eq token.table id) fits)) sound.orderly.tokens_fit
    where
      by : (token : TokenRow) (b : Bool) → FitsTable s.content.tables token → FitsFound token (cond b None (row_of table_id token.table s.content.tables))
      by token true fits = tt
      by token false fits = fits

  -- a new table, of which no token is
  pub fit-placed : (row : TableRow) → row.id ≡ s.next_id → AllByRecursion (FitsTable (rows_with table_id row s.content.tables)) s.tokens.tokens
  fit-placed row id =
      each-join (IsTokenOf s.next_id s.next_serial) (FitsTable s.content.tables) (FitsTable (rows_with table_id row s.content.tables)) s.tokens.tokens (λ token known fits. subst (FitsFound token) (sym (row_of-rows_with table_id token.table row s.content.tables ∙ ap (λ b. cond b (Some row) (row_of table_id token.table s.content.tables)) (ne_eqb token.table row.id (λ same. omega (arith, id, same, known.table.1))))) fits) sound.orderly.tokens.tokens sound.orderly.tokens_fit
