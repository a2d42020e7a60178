-- The rows that commits change, by rising ids, are those of the state that are altered.
use Rattle.std.proofs.Common.{◌≡◌, ℕ, ◌<◌, Bool, true, false, not, cond, ◌||◌, ◌==◌, nat_eq, nat_lt, All, List, [], ◌∷◌, filter, map, Option, None, Some, is_some, unwrap_or, refl, sym, ap, subst, ◌∙◌, inl, inr, arith, true≢false}
use Rattle.std.specs.Cmp.{nat_eq_equiv}
use Rattle.std.specs.List.{AllByRecursion, IsDistinct}
use Rattle.std.specs.Ordering.{is_lt, nat_cmp}
use Rattle.std.specs.declared.cmp.Ordering.TheVariants.{Less, Equal, Greater}
use Rattle.std.proofs.lemmas.Bool.{cases_Bool, eq-eqb, eqb-true, le-ltb, lt-ltb, ne_eqb}
use Rattle.std.proofs.lemmas.List.Elements.{All-head, All-tail}
use Rattle.std.proofs.lemmas.Map.Keys.{IsDistinct-head, IsDistinct-tail}
use Rattle.pol_access.proofs.KeptLemmas.{map-each}
use Rattle.pol_state.specs.Rows.{Rows}
use Rattle.pol_table_rows.specs.Tables.{table_id}
use Rattle.pol_table_rows.specs.contracts.row.TableRow as table
use Rattle.pol_table_rows.specs.declared.row.TableRow.{TableRow}
use Rattle.pol_tables.specs.Order.{in_order, placed}
use Rattle.pol_tables.specs.Rising.{KeysAbove, KeysRise}
use Rattle.pol_tables.specs.Same.{same}
use Rattle.pol_tables.specs.Table.{has_id, knows, row_of}
use Rattle.pol_tables.proofs.ListLemmas.{each-all, each-filter, each-weaken, filter-alike}
use Rattle.pol_tables.proofs.NamedLemmas.{each-own}
use Rattle.pol_tables.proofs.RisingLemmas.{IdsDiffer-rising, KeysAbove-map}
use Rattle.pol_tables.proofs.SameLemmas.{same-differ, same-refl}
use Rattle.pol_tables.proofs.TableLemmas.{is_some-row_of, key-row_of, some_is}
use Rattle.pol_commit_actions.specs.Outcome.{CommittedTable, left_as, rows_after}
use Rattle.pol_commit_actions.specs.Replaced.{by_id, changed_rows, is_changed}
use Rattle.pol_commit_actions.proofs.ReplacedLemmas.{HasItsId, StaysWithVersion, WasOfState}

-- a number comes before another exactly where it is less
less-is : (x y : ℕ) → is_lt (nat_cmp x y) ≡ nat_lt x y
less-is x y = by (nat_lt x y) (x == y)
  where
    by : (below same : Bool) → is_lt (cond below Less (cond same Equal Greater)) ≡ below
    by true same = refl
    by false true = refl
    by false false = refl

-- an id that is known among ids above a number is above it
known-above : (low id : ℕ) (rows : List TableRow) → KeysAbove table_id low rows → knows table_id id rows ≡ true → low < id
known-above low id [] above known = absurd (true≢false (sym known))
known-above low id (row ∷ rows) above known = elim (cases_Bool (has_id table_id id row)) [
  | inl here ↦ omega (arith, above.0, eqb-true id row.id here)
  | inr apart ↦ known-above low id rows above.1 (ap (λ b. b || knows table_id id rows) (sym apart) ∙ known)
]

-- a row below all others goes first
placed-first : (new : TableRow) (rows : List TableRow) → KeysAbove table_id new.id rows → placed by_id new rows ≡ new ∷ rows
unfolding placed
placed-first new [] above = refl
placed-first new (row ∷ rows) above =
    ap (λ b. cond b (row ∷ placed by_id new rows) (new ∷ row ∷ rows)) (less-is row.id new.id ∙ le-ltb row.id new.id (omega (arith, above.0)))

-- one more row that is altered is placed among those that are
module _ (alter : TableRow → TableRow) (keeps : (row : TableRow) → (alter row).id ≡ row.id) (chosen : TableRow → Bool) (new : TableRow) where
  abbrev has : TableRow → Bool
  has row = has_id table_id new.id row

  abbrev alter_more : TableRow → TableRow
  alter_more row = cond (has row) new (alter row)

  abbrev chosen_more : TableRow → Bool
  chosen_more row = has row || chosen row

  above-stay : (rows : List TableRow) → KeysAbove table_id new.id rows → map alter_more (filter chosen_more rows) ≡ map alter (filter chosen rows)
  above-stay [] above = refl
  above-stay (row ∷ rows) above =
      let apart : has row ≡ false = ne_eqb new.id row.id (λ is. omega (arith, above.0, is)) in
      ap (λ b. map alter_more (cond (b || chosen row) (row ∷ filter chosen_more rows) (filter chosen_more rows))) apart ∙ by (chosen row) apart (above-stay rows above.1)
    where
      by : (c : Bool) → has row ≡ false → map alter_more (filter chosen_more rows) ≡ map alter (filter chosen rows)
          → map alter_more (cond c (row ∷ filter chosen_more rows) (filter chosen_more rows)) ≡ map alter (cond c (row ∷ filter chosen rows) (filter chosen rows))
      by true apart rest = λ i. cond (apart i) new (alter row) ∷ rest i
      by false apart rest = rest

  placed-among : (rows : List TableRow) → KeysRise table_id rows → knows table_id new.id rows ≡ true → AllByRecursion (λ row. has row ≡ true → chosen row ≡ false) rows
      → map alter_more (filter chosen_more rows) ≡ placed by_id new (map alter (filter chosen rows))
  unfolding KeysRise placed
  placed-among [] rise known fresh = absurd (true≢false (sym known))
  placed-among (row ∷ rows) rise known fresh = elim (cases_Bool (has row)) [
    | inl here ↦
        let above : KeysAbove table_id new.id rows = subst (λ id. KeysAbove table_id id rows) (sym (eqb-true new.id row.id here)) rise.0 in
        let others = KeysAbove-map table_id alter keeps new.id (filter chosen rows) (each-filter (λ other. new.id < table_id other) chosen rows above) in
        ap (λ b. map alter_more (cond (b || chosen row) (row ∷ filter chosen_more rows) (filter chosen_more rows))) here
        ∙ (λ i. cond (here i) new (alter row) ∷ above-stay rows above i)
        ∙ sym (placed-first new (map alter (filter chosen rows)) others)
        ∙ ap (λ b. placed by_id new (map alter (cond b (row ∷ filter chosen rows) (filter chosen rows)))) (sym (fresh.0 here))
    | inr apart ↦
        let later : knows table_id new.id rows ≡ true = ap (λ b. b || knows table_id new.id rows) (sym apart) ∙ known in
        let below : nat_lt (alter row).id new.id ≡ true = ap (λ id. nat_lt id new.id) (keeps row) ∙ lt-ltb row.id new.id (known-above row.id new.id rows rise.0 later) in
        ap (λ b. map alter_more (cond (b || chosen row) (row ∷ filter chosen_more rows) (filter chosen_more rows))) apart
        ∙ by (chosen row) apart below (placed-among rows rise.1 later fresh.1)
  ]
    where
      by : (c : Bool) → has row ≡ false → nat_lt (alter row).id new.id ≡ true → map alter_more (filter chosen_more rows) ≡ placed by_id new (map alter (filter chosen rows))
          → map alter_more (cond c (row ∷ filter chosen_more rows) (filter chosen_more rows)) ≡ placed by_id new (map alter (cond c (row ∷ filter chosen rows) (filter chosen rows)))
      by true apart below rest =
          (λ i. cond (apart i) new (alter row) ∷ rest i)
          ∙ ap (λ b. cond b (alter row ∷ placed by_id new (map alter (filter chosen rows))) (new ∷ alter row ∷ map alter (filter chosen rows))) (sym (less-is (alter row).id new.id ∙ below))
      by false apart below rest = rest

-- a table that stands in another's place has its id
pub left-id : (rows : List TableRow) (row : TableRow) → table_id (left_as rows row) ≡ table_id row
left-id rows row = by (row_of table_id row.id rows) refl
  where
    by : (found : Option TableRow) → row_of table_id row.id rows ≡ found → table_id (unwrap_or found row) ≡ row.id
    by None is = refl
    by (Some one) is = sym (key-row_of table_id row.id one rows is)

-- what a table is left as once one row more stands in another's place
left-more : (new : TableRow) (news : List TableRow) (row : TableRow) → left_as (new ∷ news) row ≡ cond (has_id table_id new.id row) new (left_as news row)
left-more new news row =
    ap (λ b. unwrap_or (cond b (Some new) (row_of table_id row.id news)) row) (nat_eq_equiv.symm row.id new.id) ∙ by (nat_eq new.id row.id) (row_of table_id row.id news)
  where
    by : (b : Bool) (found : Option TableRow) → unwrap_or (cond b (Some new) found) row ≡ cond b new (unwrap_or found row)
    by true found = refl
    by false found = refl

-- an id that no table had before is none's after
unlisted : (id : ℕ) (tables : List CommittedTable) → All HasItsId tables → AllByRecursion (λ other. nat_eq id other ≡ false) (map (λ (one : CommittedTable). one.before.id) tables) → row_of table_id id (rows_after tables) ≡ None
unlisted id [] ids apart = refl
unlisted id (one ∷ tables) ids apart =
    ap (λ b. cond b (Some one.after) (row_of table_id id (rows_after tables))) (ap (nat_eq id) (All-head HasItsId one tables ids) ∙ apart.0)
    ∙ unlisted id tables (All-tail HasItsId one tables ids) apart.1

module _ (s : Rows) where
  abbrev changed_at : List TableRow → TableRow → Bool
  changed_at news row = not (same table.the_row.coded (left_as news row) row)

  -- a row in whose place none stands isn't changed
  unchanged : (news : List TableRow) (row : TableRow) → row_of table_id row.id news ≡ None → changed_at news row ≡ false
  unchanged news row none =
      ap (λ found. not (same table.the_row.coded (unwrap_or found row) row)) none ∙ ap not (same-refl table.the_row.coded row)

  -- without commits none is
  none-changed : (rows : List TableRow) → filter (changed_at []) rows ≡ []
  none-changed [] = refl
  none-changed (row ∷ rows) = ap (λ b. cond b (row ∷ filter (changed_at []) rows) (filter (changed_at []) rows)) (unchanged [] row refl) ∙ none-changed rows

  module _ (rise : KeysRise table_id s.content.tables) where
    rows-own : AllByRecursion (λ row. row_of table_id row.id s.content.tables ≡ Some row) s.content.tables
    rows-own = each-own table_id s.content.tables (IdsDiffer-rising table_id s.content.tables rise)

    -- the row of the state in whose place a table stands
    own-before : (one : CommittedTable) (row : TableRow) → WasOfState s one → HasItsId one → row_of table_id row.id s.content.tables ≡ Some row → has_id table_id one.after.id row ≡ true → one.before ≡ row
    own-before one row was id own has =
        some_is one.before row (sym was ∙ ap (λ n. row_of table_id n s.content.tables) (sym id ∙ eqb-true one.after.id row.id has) ∙ own)

    -- the same of tables of which one is changed by its commit
    changed-more : (one : CommittedTable) (news : List TableRow) → WasOfState s one → HasItsId one → is_changed one ≡ true → (row : TableRow) → row_of table_id row.id s.content.tables ≡ Some row
        → (has_id table_id one.after.id row || changed_at news row) ≡ changed_at (one.after ∷ news) row
    changed-more one news was id changed row own = by (has_id table_id one.after.id row) refl ∙ sym (ap (λ left. not (same table.the_row.coded left row)) (left-more one.after news row))
      where
        other : (one.before ≡ row) → same table.the_row.coded one.after row ≡ false
        other is =
            same-differ table.the_row.coded one.after row (λ same_one. true≢false (sym changed ∙ ap not (eq-eqb one.after.version one.before.version (ap (λ (now : TableRow). now.version) (same_one ∙ sym is)))))

        by : (b : Bool) → has_id table_id one.after.id row ≡ b → (b || changed_at news row) ≡ not (same table.the_row.coded (cond b one.after (left_as news row)) row)
        by true has = sym (ap not (other (own-before one row was id own has)))
        by false has = refl

    -- and of tables of which one isn't
    left-same : (one : CommittedTable) (news : List TableRow) → WasOfState s one → HasItsId one → one.after ≡ one.before → row_of table_id one.before.id news ≡ None → (row : TableRow) → row_of table_id row.id s.content.tables ≡ Some row
        → left_as (one.after ∷ news) row ≡ left_as news row
    left-same one news was id kept none row own = left-more one.after news row ∙ by (has_id table_id one.after.id row) refl
      where
        by : (b : Bool) → has_id table_id one.after.id row ≡ b → cond b one.after (left_as news row) ≡ left_as news row
        by true has =
            let is = own-before one row was id own has in
            kept ∙ is ∙ sym (ap (λ found. unwrap_or found row) (ap (λ (before : TableRow). row_of table_id before.id news) (sym is) ∙ none))
        by false has = refl

    pub sorted-altered : (tables : List CommittedTable) → All (WasOfState s) tables → All HasItsId tables → All StaysWithVersion tables → IsDistinct nat_eq (map (λ (one : CommittedTable). one.before.id) tables)
        → changed_rows tables ≡ map (left_as (rows_after tables)) (filter (changed_at (rows_after tables)) s.content.tables)
    unfolding in_order
    sorted-altered [] was ids kept differ = sym (ap (map (left_as [])) (none-changed s.content.tables))
    sorted-altered (one ∷ tables) was ids kept differ =
        let here = All-head (WasOfState s) one tables was in
        let id = All-head HasItsId one tables ids in
        let apart = IsDistinct-head nat_eq one.before.id (map (λ (other : CommittedTable). other.before.id) tables) differ in
        let none = unlisted one.before.id tables (All-tail HasItsId one tables ids) apart in
        let rest = sorted-altered tables (All-tail (WasOfState s) one tables was) (All-tail HasItsId one tables ids) (All-tail StaysWithVersion one tables kept) (IsDistinct-tail nat_eq one.before.id (map (λ (other : CommittedTable). other.before.id) tables) differ) in
        elim (cases_Bool (is_changed one)) [
          | inl changed ↦
              ap (λ b. in_order by_id (map (λ (now : CommittedTable). now.after) (cond b (one ∷ filter is_changed tables) (filter is_changed tables)))) changed
              ∙ ap (placed by_id one.after) rest ∙ more one tables here id none changed
          | inr stays ↦
              ap (λ b. in_order by_id (map (λ (now : CommittedTable). now.after) (cond b (one ∷ filter is_changed tables) (filter is_changed tables)))) stays
              ∙ rest ∙ less one tables here id none (All-head StaysWithVersion one tables kept (same_version one.after.version one.before.version stays))
        ]
      where
        same_version : (n m : ℕ) → not (nat_eq n m) ≡ false → n ≡ m
        same_version n m stays = eqb-true n m (by (nat_eq n m) stays)
          where
            by : (b : Bool) → not b ≡ false → b ≡ true
            by true is = refl
            by false is = absurd (true≢false is)

        more : (one : CommittedTable) (tables : List CommittedTable) → WasOfState s one → HasItsId one → row_of table_id one.before.id (rows_after tables) ≡ None → is_changed one ≡ true
            → placed by_id one.after (map (left_as (rows_after tables)) (filter (changed_at (rows_after tables)) s.content.tables)) ≡ map (left_as (one.after ∷ rows_after tables)) (filter (changed_at (one.after ∷ rows_after tables)) s.content.tables)
        more one tables here id none changed =
            let news = rows_after tables in
            let known : knows table_id one.after.id s.content.tables ≡ true =
            sym (is_some-row_of table_id one.after.id s.content.tables) ∙ ap (λ n. is_some (row_of table_id n s.content.tables)) id ∙ ap is_some here in
            let fresh = each-all (λ row. has_id table_id one.after.id row ≡ true → changed_at news row ≡ false) s.content.tables (λ row has. unchanged news row (ap (λ n. row_of table_id n news) (sym (eqb-true one.after.id row.id has) ∙ id) ∙ none)) in
            let alike = each-weaken (λ row. row_of table_id row.id s.content.tables ≡ Some row) (λ row. (has_id table_id one.after.id row || changed_at news row) ≡ changed_at (one.after ∷ news) row) s.content.tables (λ row own. changed-more one news here id changed row own) rows-own in
            sym (placed-among (left_as news) (left-id news) (changed_at news) one.after s.content.tables rise known fresh)
            ∙ ap (map (λ row. cond (has_id table_id one.after.id row) one.after (left_as news row))) (filter-alike (λ row. has_id table_id one.after.id row || changed_at news row) (changed_at (one.after ∷ news)) s.content.tables alike)
            ∙ map-each (λ row. cond (has_id table_id one.after.id row) one.after (left_as news row)) (left_as (one.after ∷ news)) (filter (changed_at (one.after ∷ news)) s.content.tables) (each-all (λ row. cond (has_id table_id one.after.id row) one.after (left_as news row) ≡ left_as (one.after ∷ news) row) (filter (changed_at (one.after ∷ news)) s.content.tables) (λ row. sym (left-more one.after news row)))

        less : (one : CommittedTable) (tables : List CommittedTable) → WasOfState s one → HasItsId one → row_of table_id one.before.id (rows_after tables) ≡ None → one.after ≡ one.before
            → map (left_as (rows_after tables)) (filter (changed_at (rows_after tables)) s.content.tables) ≡ map (left_as (one.after ∷ rows_after tables)) (filter (changed_at (one.after ∷ rows_after tables)) s.content.tables)
        less one tables here id none stays =
            let news = rows_after tables in
            let left = each-weaken (λ row. row_of table_id row.id s.content.tables ≡ Some row) (λ row. left_as news row ≡ left_as (one.after ∷ news) row) s.content.tables (λ row own. sym (left-same one news here id stays none row own)) rows-own in
            let alike = each-weaken (λ row. left_as news row ≡ left_as (one.after ∷ news) row) (λ row. changed_at news row ≡ changed_at (one.after ∷ news) row) s.content.tables (λ row same_left. ap (λ now. not (same table.the_row.coded now row)) same_left) left in
            ap (map (left_as news)) (filter-alike (changed_at news) (changed_at (one.after ∷ news)) s.content.tables alike)
            ∙ map-each (left_as news) (left_as (one.after ∷ news)) (filter (changed_at (one.after ∷ news)) s.content.tables) (each-filter (λ row. left_as news row ≡ left_as (one.after ∷ news) row) (changed_at (one.after ∷ news)) s.content.tables left)
