-- Commits one after the other.
use Rattle.std.proofs.Common.{◌≡◌, ℕ, ◌+◌, ◌<◌, ◌≤◌, ◌^◌, List, [], ◌∷◌, refl, sym, ap, subst, ◌∙◌, arith}
use Rattle.std.specs.List.{AllByRecursion}
use Rattle.std.proofs.lemmas.Bool.{ne_eqb}
use Rattle.pol_access.proofs.KeptLemmas.{found-holds}
use Rattle.pol_content.specs.declared.change.Change.{Change}
use Rattle.pol_content.specs.declared.change.Change.TheVariants.{PutTable}
use Rattle.pol_content.proofs.TiesLemmas.{row_of-other}
use Rattle.pol_sound_steps.specs.Commits.{HaveLed, IsCommit}
use Rattle.pol_sound_steps.proofs.TableLemmas.{commit-sound}
use Rattle.pol_soundness.specs.Base.{rows_after, PutsValid}
use Rattle.pol_state.specs.Applied.{changed}
use Rattle.pol_state.specs.Rows.{Rows}
use Rattle.pol_state.specs.Sound.{IsGiven, IsSound}
use Rattle.pol_state.proofs.BoundsLemmas.{next_id_bound}
use Rattle.pol_table_rows.specs.Tables.{table_id}
use Rattle.pol_table_rows.specs.declared.row.TableRow.{TableRow}
use Rattle.pol_tables.specs.Table.{has_id, row_of}
use Rattle.pol_tables.proofs.TableLemmas.{key-row_of}

module _ (s : Rows) (changes : List Change) (rows : Rows) where
  -- before the first
  pub none-led : IsSound rows → rows.content.tables ≡ s.content.tables → AllByRecursion PutsValid changes → HaveLed s changes rows 0 changes
  none-led sound tables valid = record {
    now = rows;
    sound = sound;
    leads = refl;
    kept = λ id within. ap (row_of table_id id) tables;
    valid = valid;
  }

  -- one more
  pub more-led : (least id : ℕ) (change : Change) (left : List Change) → HaveLed s changes rows least (change ∷ left) → IsCommit s least change id → HaveLed s changes rows (id + 1) left
  unfolding rows_after
  more-led least id change left led one = record {
    now = changed led.now change;
    sound = subst (λ (put : Change). IsSound (changed led.now put)) (sym one.is) (commit-sound led.now led.sound one.old one.row (led.kept one.row.id one.within ∙ one.found) (led.valid.0.table one.row one.is) one.commits);
    leads = led.leads;
    kept = λ other within. ap (λ (put : Change). row_of table_id other (changed led.now put).content.tables) one.is ∙ past other within ∙ led.kept other (omega (arith, one.within, one.id_is, within));
    valid = led.valid.1;
  }
    where
      past : (other : ℕ) → id + 1 ≤ other → row_of table_id other (changed led.now (PutTable one.row)).content.tables ≡ row_of table_id other led.now.content.tables
      past other within =
          row_of-other table_id other one.row led.now.content.tables (ne_eqb other one.row.id (λ same. omega (arith, one.id_is, within, same)))

  -- after the last
  pub all-led : (least : ℕ) → HaveLed s changes rows least [] → IsSound (rows_after changes rows)
  unfolding rows_after
  all-led least led = subst IsSound (sym led.leads) led.sound

-- the id of a table that is there is no large number
pub id-bound : (s : Rows) → IsSound s → (least id : ℕ) (change : Change) → IsCommit s least change id → id < 2 ^ 62
id-bound s sound least id change one =
    let own = key-row_of table_id one.row.id one.old s.content.tables one.found in
    let given = found-holds (has_id table_id one.row.id) (λ (row : TableRow). IsGiven s.next_id row.id) s.content.tables one.old sound.orderly.content.tables.numbered.given one.found in
    let bound = next_id_bound s sound in
    omega (arith, own, given.1, bound, one.id_is)
