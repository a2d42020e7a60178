-- The places of tables, once one is put or taken away, and the table that overlaps a location.
use Rattle.std.proofs.Common.{◌≡◌, ℕ, Bool, true, false, not, cond, ◌&&◌, ◌||◌, List, [], ◌∷◌, filter, map, nat_eq, None, Some, Option, is_some, refl, sym, ap, ◌∙◌, inl, inr, true≢false}
use Rattle.std.specs.Cmp.Lexicographic.{bytes_decides, pointwise_decides}
use Rattle.std.specs.List.{list_any}
use Rattle.std.proofs.lemmas.Bool.{cases_Bool, eq-eqb, eqb-true}
use Rattle.std.proofs.lemmas.List.Folds.{list_any-append}
use Rattle.pol_locations.specs.contracts.location_set.Member.{the_row}
use Rattle.pol_locations.specs.declared.location_set.Member.{Member}
use Rattle.pol_table_rows.specs.Places.{IsPut, IsTaken, is_owner, is_placed}
use Rattle.pol_table_rows.specs.Tables.{ArePlaced, member_of, stays_at, table_id}
use Rattle.pol_table_rows.specs.declared.row.TableRow.{TableRow}
use Rattle.pol_table_rows.proofs.PlacesLemmas.{none-left}
use Rattle.pol_tables.specs.Same.{same}
use Rattle.pol_tables.specs.Table.{has_id, knows, row_of, rows_with, rows_without, IdsDiffer}
use Rattle.pol_tables.proofs.ListLemmas.{and_false, or_false}
use Rattle.pol_tables.proofs.SameLemmas.{same-true}
use Rattle.pol_tables.proofs.TableLemmas.{differ_past, knows-lacks, lacks_past, some_is, rows_with-known, rows_with-new}

module _ (other : Member) where
  abbrev lies : TableRow → Bool
  lies row = same the_row.coded other (member_of row)

  -- a table that has the member as its place owns it
  owns : (row : TableRow) → is_owner row.id other ≡ false → lies row ≡ false
  owns row apart = elim (cases_Bool (lies row)) [
    | inl is ↦ absurd (true≢false (sym (eq-eqb other.owner row.id (ap (λ (member : Member). member.owner) (same-true the_row.coded other (member_of row) is))) ∙ apart))
    | inr fails ↦ fails
  ]

  -- a table of the owner's id, and one of another
  owner-of : (id : ℕ) (row : TableRow) → has_id table_id id row ≡ true → is_owner id other ≡ is_owner row.id other
  owner-of id row has = ap (nat_eq other.owner) (eqb-true id row.id has)

  owner-not : (id : ℕ) (row : TableRow) → is_owner id other ≡ true → has_id table_id id row ≡ false → is_owner row.id other ≡ false
  owner-not id row is apart = ap (λ n. nat_eq n row.id) (eqb-true other.owner id is) ∙ apart

  -- the places of the rows without those of an id
  pub lies-without : (id : ℕ) (rows : List TableRow) → list_any lies (rows_without table_id id rows) ≡ (not (is_owner id other) && list_any lies rows)
  unfolding rows_without
  lies-without id rows = by (is_owner id other) refl rows
    where
      one : (owned : Bool) → is_owner id other ≡ owned → (row : TableRow) (kept rest : List TableRow) → list_any lies kept ≡ (not owned && list_any lies rest) → (has : Bool) → has_id table_id id row ≡ has
          → list_any lies (cond (not has) (row ∷ kept) kept) ≡ (not owned && (lies row || list_any lies rest))
      one true is row kept rest before true has = before
      one true is row kept rest before false apart = (λ i. owns row (owner-not id row is apart) i || before i)
      one false is row kept rest before true has =
          before ∙ ap (λ b. b || list_any lies rest) (sym (owns row (sym (owner-of id row has) ∙ is)))
      one false is row kept rest before false apart = ap (λ b. lies row || b) before

      by : (owned : Bool) → is_owner id other ≡ owned → (rows : List TableRow) → list_any lies (filter (λ row. not (has_id table_id id row)) rows) ≡ (not owned && list_any lies rows)
      by true is [] = refl
      by false is [] = refl
      by owned is (row ∷ rows) =
          one owned is row (filter (λ row. not (has_id table_id id row)) rows) rows (by owned is rows) (has_id table_id id row) refl

  module _ (row : TableRow) where
    abbrev in_place : TableRow → TableRow
    in_place kept = cond (has_id table_id row.id kept) row kept

    -- where the member is another owner's, the rows that are replaced and the row itself don't have it
    replaced-other : is_owner row.id other ≡ false → (rows : List TableRow) → list_any lies (map in_place rows) ≡ list_any lies rows
    replaced-other apart [] = refl
    replaced-other apart (kept ∷ rows) = λ i. by (has_id table_id row.id kept) refl i || replaced-other apart rows i
      where
        by : (has : Bool) → has_id table_id row.id kept ≡ has → lies (cond has row kept) ≡ lies kept
        by false elsewhere = refl
        by true has = owns row apart ∙ sym (owns kept (sym (owner-of row.id kept has) ∙ apart))

    -- where it is the owner's, the row alone may have it
    replaced-own : is_owner row.id other ≡ true → (rows : List TableRow) → list_any lies (map in_place rows) ≡ (lies row && knows table_id row.id rows)
    replaced-own is [] = sym (and_false (lies row))
    replaced-own is (kept ∷ rows) = by (has_id table_id row.id kept) refl (replaced-own is rows)
      where
        whole : (a b : Bool) → (a || (a && b)) ≡ (a && true)
        whole true b = refl
        whole false b = refl

        by : (has : Bool) → has_id table_id row.id kept ≡ has → list_any lies (map in_place rows) ≡ (lies row && knows table_id row.id rows)
            → (lies (cond has row kept) || list_any lies (map in_place rows)) ≡ (lies row && (has || knows table_id row.id rows))
        by true has rest = ap (λ b. lies row || b) rest ∙ whole (lies row) (knows table_id row.id rows)
        by false elsewhere rest = λ i. owns kept (owner-not row.id kept is elsewhere) i || rest i

    -- none of the rows of other ids has it
    pub none-own : is_owner row.id other ≡ true → (rows : List TableRow) → knows table_id row.id rows ≡ false → list_any lies rows ≡ false
    none-own is [] unknown = refl
    none-own is (kept ∷ rows) unknown =
        by (has_id table_id row.id kept) refl unknown (λ rest. none-own is rows rest)
      where
        by : (has : Bool) → has_id table_id row.id kept ≡ has → (has || knows table_id row.id rows) ≡ false → (knows table_id row.id rows ≡ false → list_any lies rows ≡ false) → list_any lies (kept ∷ rows) ≡ false
        by true has some others = absurd (true≢false some)
        by false elsewhere rest others = λ i. owns kept (owner-not row.id kept is elsewhere) i || others rest i

    -- the places of the rows with one that is put
    pub lies-with : (rows : List TableRow) → list_any lies (rows_with table_id row rows) ≡ (lies row || (not (is_owner row.id other) && list_any lies rows))
    lies-with rows = elim (cases_Bool (knows table_id row.id rows)) [
      | inl known ↦ ap (list_any lies) (rows_with-known table_id row rows known) ∙ replaced known (is_owner row.id other) refl
      | inr unknown ↦ ap (list_any lies) (rows_with-new table_id row rows unknown) ∙ list_any-append lies rows (row ∷ []) ∙ pushed unknown (is_owner row.id other) refl
    ]
      where
        only : (a : Bool) → (a && true) ≡ (a || false)
        only true = refl
        only false = refl

        replaced : knows table_id row.id rows ≡ true → (owned : Bool) → is_owner row.id other ≡ owned → list_any lies (map in_place rows) ≡ (lies row || (not owned && list_any lies rows))
        replaced known true is = replaced-own is rows ∙ ap (λ b. lies row && b) known ∙ only (lies row)
        replaced known false apart =
            replaced-other apart rows ∙ ap (λ b. b || list_any lies rows) (sym (owns row apart))

        pushed : knows table_id row.id rows ≡ false → (owned : Bool) → is_owner row.id other ≡ owned → (list_any lies rows || (lies row || false)) ≡ (lies row || (not owned && list_any lies rows))
        pushed unknown true is = ap (λ b. b || (lies row || false)) (none-own is rows unknown)
        pushed unknown false apart =
            ap (λ b. list_any lies rows || (b || false)) (owns row apart) ∙ or_false (list_any lies rows) ∙ ap (λ b. b || list_any lies rows) (sym (owns row apart))

    -- where a row of distinct ones has the row's id and its location, whether they have the owner's member is whether the row does
    own-found : is_owner row.id other ≡ true → (known : TableRow) → known.location ≡ row.location → (rows : List TableRow) → IdsDiffer table_id rows → row_of table_id row.id rows ≡ Some known
        → list_any lies rows ≡ lies row
    own-found is known there [] differ found = absurd (true≢false (sym (ap is_some found)))
    own-found is known there (kept ∷ rows) differ found =
        by (has_id table_id row.id kept) refl found (λ rest. own-found is known there rows (differ_past table_id kept rows differ) rest)
      where
        here : has_id table_id row.id kept ≡ true → Some kept ≡ Some known → (lies kept || list_any lies rows) ≡ lies row
        here has one =
            let same_row : kept ≡ known = some_is kept known one in
            let member : member_of kept ≡ member_of row =
            λ i. record { owner = sym (eqb-true row.id kept.id has) i; location = (ap (λ (one : TableRow). one.location) same_row ∙ there) i } in
            ap (λ b. lies kept || b) (none-own is rows (knows-lacks table_id row.id rows (lacks_past table_id row.id kept rows differ has)))
            ∙ or_false (lies kept)
            ∙ ap (λ one. same the_row.coded other one) member

        by : (has : Bool) → has_id table_id row.id kept ≡ has → cond has (Some kept) (row_of table_id row.id rows) ≡ Some known → (row_of table_id row.id rows ≡ Some known → list_any lies rows ≡ lies row)
            → (lies kept || list_any lies rows) ≡ lies row
        by true has one others = here has one
        by false elsewhere rest others =
            ap (λ b. b || list_any lies rows) (owns kept (owner-not row.id kept is elsewhere)) ∙ others rest

    -- so the row that is put has the places of those before it
    pub lies-found : (known : TableRow) → known.location ≡ row.location → (rows : List TableRow) → IdsDiffer table_id rows → row_of table_id row.id rows ≡ Some known
        → list_any lies rows ≡ (lies row || (not (is_owner row.id other) && list_any lies rows))
    lies-found known there rows differ found = by (is_owner row.id other) refl
      where
        by : (owned : Bool) → is_owner row.id other ≡ owned → list_any lies rows ≡ (lies row || (not owned && list_any lies rows))
        by true is = own-found is known there rows differ found ∙ sym (or_false (lies row))
        by false apart = ap (λ b. b || list_any lies rows) (sym (owns row apart))

-- members stay the places of the tables once a table and its location are put, or both are taken
pub placed-put : (row : TableRow) (rows : List TableRow) (old new : List Member) → ArePlaced old rows → IsPut (member_of row) old new → ArePlaced new (rows_with table_id row rows)
placed-put row rows old new placed put other =
    put other ∙ ap (λ b. same the_row.coded other (member_of row) || (not (is_owner row.id other) && b)) (placed other) ∙ sym (lies-with other row rows)

-- of a table that is new no member is the owner's
pub placed-new : (row : TableRow) (rows : List TableRow) (members : List Member) → ArePlaced members rows → knows table_id row.id rows ≡ false → list_any (is_owner row.id) members ≡ false
placed-new row rows members placed unknown = none-left row.id members (λ other is. placed other ∙ none-own other row is rows unknown)

-- and where the table stays at its location, they stay as they are
pub placed-stays : (row : TableRow) (rows : List TableRow) (members : List Member) → IdsDiffer table_id rows → stays_at row.location (row_of table_id row.id rows) ≡ true
    → ArePlaced members rows → ArePlaced members (rows_with table_id row rows)
placed-stays row rows members differ stays placed other = by (row_of table_id row.id rows) refl stays
  where
    by : (found : Option TableRow) → row_of table_id row.id rows ≡ found → stays_at row.location found ≡ true → is_placed other members ≡ list_any (lies other) (rows_with table_id row rows)
    by None none stays = absurd (true≢false (sym stays))
    by (Some known) found stays =
        placed other ∙ lies-found other row known ((pointwise_decides bytes_decides known.location row.location).0 stays) rows differ found ∙ sym (lies-with other row rows)

pub placed-taken : (id : ℕ) (rows : List TableRow) (old new : List Member) → ArePlaced old rows → IsTaken id old new → ArePlaced new (rows_without table_id id rows)
placed-taken id rows old new placed taken other =
    taken other ∙ ap (λ b. not (is_owner id other) && b) (placed other) ∙ sym (lies-without other id rows)
