-- The overlapping table of the least id, among those that stay and those that are committed to.
use Rattle.std.proofs.Common.{◌≡◌, ℕ, zero, suc, ◌<◌, ◌≤◌, Bool, true, false, not, cond, ◌&&◌, ◌||◌, nat_eq, nat_lt, All, List, [], ◌∷◌, get_or, length, map, Option, None, Some, unwrap_or, refl, sym, ap, subst, ◌∙◌, inl, inr, arith, true≢false}
use Rattle.std.specs.Prelude.{◌⊎◌}
use Rattle.std.specs.Cmp.{nat_eq_equiv}
use Rattle.std.specs.List.{find, fold, list_any, AllByRecursion, IsDistinct}
use Rattle.std.specs.Option.{option_map}
use Rattle.std.proofs.lemmas.Bool.{cases_Bool, eq-eqb, eqb-true, ltb-true, ltb-false}
use Rattle.std.proofs.lemmas.List.Elements.{All-head, All-tail}
use Rattle.std.proofs.lemmas.Map.Keys.{IsDistinct-head, IsDistinct-tail}
use Rattle.pol_locations.specs.Location.{is_overlap}
use Rattle.pol_locations.specs.LocationSet.{is_clash}
use Rattle.pol_commands.specs.declared.reply.Refusal.TheVariants.{LocationOverlap}
use Rattle.pol_state.specs.Rows.{Rows}
use Rattle.pol_state.specs.Sound.{IsSound}
use Rattle.pol_table_rows.specs.Tables.{member_of, overlapping, table_id}
use Rattle.pol_table_rows.specs.declared.row.TableRow.{TableRow}
use Rattle.pol_tables.specs.Rising.{KeysAbove, KeysRise}
use Rattle.pol_tables.specs.Table.{has_id, row_of}
use Rattle.pol_tables.proofs.RisingLemmas.{KeysRise-map}
use Rattle.pol_tables.proofs.TableLemmas.{key-row_of, some_is}
use Rattle.pol_commit_actions.specs.Outcome.{CommittedTable, left_as, rows_after, tables_left}
use Rattle.pol_commit_actions.specs.Overlaps.{is_over, least_over, lesser, lesser_over}
use Rattle.pol_commit_actions.specs.Replaced.{AreReplaced}
use Rattle.pol_commit_actions.specs.Rules.{overlap_among}
use Rattle.pol_commit_actions.specs.Seen.{committed_tables}
use Rattle.pol_commit_actions.specs.declared.target.Committed.{Committed}
use Rattle.pol_commit_actions.proofs.ReplacedLemmas.{HasItsId, WasOfState}
use Rattle.pol_commit_actions.proofs.SortedLemmas.{left-id}

-- a table of those that are wanted whose id is the least of all of them, or none where none is wanted
pub IsLeast : (TableRow → Type 0) → Option TableRow → Type 0
IsLeast P None = (row : TableRow) → P row → ⊥
IsLeast P (Some one) = P one × ((row : TableRow) → P row → one.id ≤ row.id)

least-unique : (P : TableRow → Type 0) → ((left right : TableRow) → P left → P right → left.id ≡ right.id → left ≡ right) → (first second : Option TableRow) → IsLeast P first → IsLeast P second → first ≡ second
unfolding IsLeast
least-unique P only None None least other = refl
least-unique P only None (Some right) least other = absurd (least right other.0)
least-unique P only (Some left) None least other = absurd (other left least.0)
least-unique P only (Some left) (Some right) least other =
    let below = least.1 right other.0 in
    let above = other.1 left least.0 in
    ap Some (only left right least.0 other.0 (omega (arith, below, above)))

least-same : (P Q : TableRow → Type 0) → ((row : TableRow) → P row → Q row) → ((row : TableRow) → Q row → P row) → (found : Option TableRow) → IsLeast P found → IsLeast Q found
unfolding IsLeast
least-same P Q to back None least = λ row wanted. least row (back row wanted)
least-same P Q to back (Some one) least = (to one least.0, λ row wanted. least.1 row (back row wanted))

-- the lesser of the least of two kinds is the least of both
least-joined : (P Q : TableRow → Type 0) (first second : Option TableRow) → IsLeast P first → IsLeast Q second → IsLeast (λ row. P row ⊎ Q row) (lesser first second)
unfolding IsLeast
least-joined P Q None None least other = none
  where
    none : (row : TableRow) → P row ⊎ Q row → ⊥
    none row (inl wanted) = least row wanted
    none row (inr wanted) = other row wanted
least-joined P Q None (Some right) least other = (inr other.0, above)
  where
    above : (row : TableRow) → P row ⊎ Q row → right.id ≤ row.id
    above row (inl wanted) = absurd (least row wanted)
    above row (inr wanted) = other.1 row wanted
least-joined P Q (Some left) None least other = (inl least.0, above)
  where
    above : (row : TableRow) → P row ⊎ Q row → left.id ≤ row.id
    above row (inl wanted) = least.1 row wanted
    above row (inr wanted) = absurd (other row wanted)
least-joined P Q (Some left) (Some right) least other = by (nat_lt right.id left.id) refl
  where
    above-right : right.id < left.id → (row : TableRow) → P row ⊎ Q row → right.id ≤ row.id
    above-right below row (inl wanted) = let more = least.1 row wanted in omega (arith, below, more)
    above-right below row (inr wanted) = other.1 row wanted

    above-left : left.id ≤ right.id → (row : TableRow) → P row ⊎ Q row → left.id ≤ row.id
    above-left below row (inl wanted) = least.1 row wanted
    above-left below row (inr wanted) = let more = other.1 row wanted in omega (arith, below, more)

    by : (b : Bool) → nat_lt right.id left.id ≡ b → IsLeast (λ row. P row ⊎ Q row) (cond b (Some right) (Some left))
    by true is = (inr other.0, above-right (ltb-true right.id left.id is))
    by false is = (inl least.0, above-left (ltb-false right.id left.id is))

-- a row among others
pub IsIn : List TableRow → TableRow → Type 0
IsIn [] row = ⊥
IsIn (first ∷ rows) row = (row ≡ first) ⊎ IsIn rows row

-- the overlapping table of the least id, sought in any order
module _ (row : TableRow) where
  abbrev Over : List TableRow → TableRow → Type 0
  Over others other = IsIn others other × (is_over row other ≡ true)

  one-over : (other : TableRow) (b : Bool) → is_over row other ≡ b → IsLeast (λ one. (one ≡ other) × (is_over row other ≡ true)) (cond b (Some other) None)
  unfolding IsLeast
  one-over other true is = ((refl, is), λ one wanted. subst (λ id. other.id ≤ id) (sym (ap (λ (kept : TableRow). kept.id) wanted.0)) (omega arith))
  one-over other false is = λ one wanted. absurd (true≢false (sym wanted.1 ∙ is))

  lesser-none : (least : Option TableRow) → lesser least None ≡ least
  lesser-none None = refl
  lesser-none (Some one) = refl

  lesser-one : (least : Option TableRow) (other : TableRow) (b : Bool) → cond b (lesser least (Some other)) least ≡ lesser least (cond b (Some other) None)
  lesser-one least other true = refl
  lesser-one least other false = sym (lesser-none least)

  least-folded : (others : List TableRow) (P : TableRow → Type 0) (least : Option TableRow) → IsLeast P least → IsLeast (λ one. P one ⊎ Over others one) (fold (lesser_over row) least others)
  unfolding IsIn
  least-folded [] P least is =
      least-same P (λ one. P one ⊎ Over [] one) (λ one wanted. inl wanted) (λ one wanted. elim wanted [ inl first ↦ first | inr other ↦ absurd other.0 ]) least is
  least-folded (other ∷ others) P least is =
      let Q : TableRow → Type 0 = λ one. (one ≡ other) × (is_over row other ≡ true) in
      let step = subst (IsLeast (λ one. P one ⊎ Q one)) (sym (lesser-one least other (is_over row other))) (least-joined P Q least (cond (is_over row other) (Some other) None) is (one-over other (is_over row other) refl)) in
      let rest = least-folded others (λ one. P one ⊎ Q one) (lesser_over row least other) step in
      least-same (λ one. (P one ⊎ Q one) ⊎ Over others one) (λ one. P one ⊎ Over (other ∷ others) one) to back (fold (lesser_over row) (lesser_over row least other) others) rest
    where
      to : (one : TableRow) → (P one ⊎ ((one ≡ other) × (is_over row other ≡ true))) ⊎ Over others one → P one ⊎ Over (other ∷ others) one
      to one (inl (inl wanted)) = inl wanted
      to one (inl (inr is)) = inr (inl is.0, ap (is_over row) is.0 ∙ is.1)
      to one (inr more) = inr (inr more.0, more.1)

      back : (one : TableRow) → P one ⊎ Over (other ∷ others) one → (P one ⊎ ((one ≡ other) × (is_over row other ≡ true))) ⊎ Over others one
      back one (inl wanted) = inl (inl wanted)
      back one (inr (inl is, over)) = inl (inr (is, sym (ap (is_over row) is) ∙ over))
      back one (inr (inr more, over)) = inr (more, over)

  least-among : (others : List TableRow) → IsLeast (Over others) (least_over row others)
  unfolding least_over IsLeast
  least-among others =
      least-same (λ one. ⊥ ⊎ Over others one) (Over others) (λ one wanted. elim wanted [ inl never ↦ absurd never | inr over ↦ over ]) (λ one wanted. inr wanted) (least_over row others) (least-folded others (λ one. ⊥) None (λ one never. never))

-- the first of rows whose ids rise has the least id
module _ (test : TableRow → Bool) where
  abbrev Own : List TableRow → TableRow → Type 0
  Own rows row = (row_of table_id row.id rows ≡ Some row) × (test row ≡ true)

  own-later : (first : TableRow) (rows : List TableRow) (row : TableRow) → KeysAbove table_id first.id rows → row_of table_id row.id rows ≡ Some row → first.id < row.id
  own-later first [] row above own = let contrary : None ≡ Some row = own in cc
  own-later first (next ∷ rows) row above own = elim (cases_Bool (has_id table_id row.id next)) [
    | inl here ↦ let ids = eqb-true row.id next.id here in let more = above.0 in omega (arith, ids, more)
    | inr apart ↦ own-later first rows row above.1 (sym (ap (λ b. cond b (Some next) (row_of table_id row.id rows)) apart) ∙ own)
  ]

  own-cases : (first : TableRow) (rows : List TableRow) (row : TableRow) → row_of table_id row.id (first ∷ rows) ≡ Some row → (first ≡ row) ⊎ (row_of table_id row.id rows ≡ Some row)
  own-cases first rows row own = by (has_id table_id row.id first) own
    where
      by : (b : Bool) → cond b (Some first) (row_of table_id row.id rows) ≡ Some row → (first ≡ row) ⊎ (row_of table_id row.id rows ≡ Some row)
      by true own = inl (some_is first row own)
      by false own = inr own

  own-past : (first : TableRow) (rows : List TableRow) (row : TableRow) → first.id < row.id → row_of table_id row.id rows ≡ Some row → row_of table_id row.id (first ∷ rows) ≡ Some row
  own-past first rows row below own = by (has_id table_id row.id first) refl
    where
      by : (b : Bool) → has_id table_id row.id first ≡ b → cond b (Some first) (row_of table_id row.id rows) ≡ Some row
      by true here = let ids = eqb-true row.id first.id here in absurd (omega (arith, ids, below))
      by false apart = own

  pub least-found : (rows : List TableRow) → KeysRise table_id rows → IsLeast (Own rows) (find test rows)
  unfolding IsLeast KeysRise
  least-found [] rise = λ row own. let contrary : None ≡ Some row = own.0 in cc
  least-found (first ∷ rows) rise = by (test first) refl (find test rows) (least-found rows rise.1)
    where
      at-least : (row : TableRow) → Own (first ∷ rows) row → first.id ≤ row.id
      at-least row own = elim (own-cases first rows row own.0) [
        | inl is ↦ let ids : first.id ≡ row.id = ap (λ (one : TableRow). one.id) is in omega (arith, ids)
        | inr later ↦ let below = own-later first rows row rise.0 later in omega (arith, below)
      ]

      later-own : test first ≡ false → (row : TableRow) → Own (first ∷ rows) row → Own rows row
      later-own fails row own = elim (own-cases first rows row own.0) [
        | inl is ↦ absurd (true≢false (sym own.1 ∙ ap test (sym is) ∙ fails))
        | inr later ↦ (later, own.1)
      ]

      by : (b : Bool) → test first ≡ b → (found : Option TableRow) → IsLeast (Own rows) found → IsLeast (Own (first ∷ rows)) (cond b (Some first) found)
      by true passes found least = ((ap (λ b. cond b (Some first) (row_of table_id first.id rows)) (eq-eqb first.id first.id refl), passes), at-least)
      by false fails found least =
          least-same (Own rows) (Own (first ∷ rows)) (λ row own. (own-past first rows row (own-later first rows row rise.0 own.0) own.0, own.1)) (later-own fails) found least

-- the row of an id once rows are altered under their ids
found-altered : (alter : TableRow → TableRow) → ((row : TableRow) → (alter row).id ≡ row.id) → (id : ℕ) (rows : List TableRow) → row_of table_id id (map alter rows) ≡ option_map alter (row_of table_id id rows)
found-altered alter ids id [] = refl
found-altered alter ids id (row ∷ rows) =
    ap (λ other. cond (nat_eq id other) (Some (alter row)) (row_of table_id id (map alter rows))) (ids row) ∙ by (has_id table_id id row) (found-altered alter ids id rows)
  where
    by : (b : Bool) → row_of table_id id (map alter rows) ≡ option_map alter (row_of table_id id rows) → cond b (Some (alter row)) (row_of table_id id (map alter rows)) ≡ option_map alter (cond b (Some row) (row_of table_id id rows))
    by true rest = refl
    by false rest = rest

-- the ids of rows
abbrev ids_of : List TableRow → List ℕ
ids_of rows = map (λ (one : TableRow). one.id) rows

found-in : (id : ℕ) (rows : List TableRow) (row : TableRow) → row_of table_id id rows ≡ Some row → IsIn rows row
unfolding IsIn
found-in id [] row found = let contrary : None ≡ Some row = found in cc
found-in id (first ∷ rows) row found = by (has_id table_id id first) found (found-in id rows row)
  where
    by : (b : Bool) → cond b (Some first) (row_of table_id id rows) ≡ Some row → (row_of table_id id rows ≡ Some row → IsIn rows row) → (row ≡ first) ⊎ IsIn rows row
    by true found rest = inl (sym (some_is first row found))
    by false found rest = inr (rest found)

-- a row's id is among the ids, and a row of an id that isn't isn't there
listed : (rows : List TableRow) (row : TableRow) → IsIn rows row → list_any (λ owner. nat_eq owner row.id) (ids_of rows) ≡ true
unfolding IsIn
listed [] row in_ = absurd in_
listed (first ∷ rows) row (inl is) =
    ap (λ b. b || list_any (λ owner. nat_eq owner row.id) (ids_of rows)) (eq-eqb first.id row.id (ap (λ (one : TableRow). one.id) (sym is)))
listed (first ∷ rows) row (inr later) = by (nat_eq first.id row.id) (listed rows row later)
  where
    by : (b : Bool) → list_any (λ owner. nat_eq owner row.id) (ids_of rows) ≡ true → (b || list_any (λ owner. nat_eq owner row.id) (ids_of rows)) ≡ true
    by true rest = refl
    by false rest = rest

unlisted : (id : ℕ) (rows : List TableRow) → list_any (λ owner. nat_eq owner id) (ids_of rows) ≡ false → row_of table_id id rows ≡ None
unlisted id [] none = refl
unlisted id (first ∷ rows) none = by (nat_eq id first.id) (nat_eq_equiv.symm id first.id) none (unlisted id rows)
  where
    by : (b : Bool) → b ≡ nat_eq first.id id → (nat_eq first.id id || list_any (λ owner. nat_eq owner id) (ids_of rows)) ≡ false → (list_any (λ owner. nat_eq owner id) (ids_of rows) ≡ false → row_of table_id id rows ≡ None) → cond b (Some first) (row_of table_id id rows) ≡ None
    by true is none rest = absurd (true≢false (ap (λ b. b || list_any (λ owner. nat_eq owner id) (ids_of rows)) is ∙ none))
    by false is none rest = rest (ap (λ b. b || list_any (λ owner. nat_eq owner id) (ids_of rows)) is ∙ none)

none-listed : (id : ℕ) (rows : List TableRow) → row_of table_id id rows ≡ None → list_any (λ owner. nat_eq owner id) (ids_of rows) ≡ false
none-listed id [] none = refl
none-listed id (first ∷ rows) none = by (nat_eq id first.id) (nat_eq_equiv.symm id first.id) none (none-listed id rows)
  where
    by : (b : Bool) → b ≡ nat_eq first.id id → cond b (Some first) (row_of table_id id rows) ≡ None → (row_of table_id id rows ≡ None → list_any (λ owner. nat_eq owner id) (ids_of rows) ≡ false) → (nat_eq first.id id || list_any (λ owner. nat_eq owner id) (ids_of rows)) ≡ false
    by true is found rest = let contrary : Some first ≡ None = found in cc
    by false is found rest = ap (λ b. b || list_any (λ owner. nat_eq owner id) (ids_of rows)) (sym is) ∙ rest found

-- rows whose ids differ are found by them
found-own : (rows : List TableRow) (row : TableRow) → IsDistinct nat_eq (ids_of rows) → IsIn rows row → row_of table_id row.id rows ≡ Some row
unfolding IsIn
found-own [] row differ in_ = absurd in_
found-own (first ∷ rows) row differ (inl is) =
    ap (λ b. cond b (Some first) (row_of table_id row.id rows)) (eq-eqb row.id first.id (ap (λ (one : TableRow). one.id) is)) ∙ ap Some (sym is)
found-own (first ∷ rows) row differ (inr later) =
    let rest = found-own rows row (IsDistinct-tail nat_eq first.id (ids_of rows) differ) later in
    by (has_id table_id row.id first) refl rest
  where
    unequal : (rows : List TableRow) (row : TableRow) (id : ℕ) → AllByRecursion (λ other. nat_eq id other ≡ false) (ids_of rows) → IsIn rows row → nat_eq id row.id ≡ false
    unequal [] row id apart in_ = absurd in_
    unequal (one ∷ rows) row id apart (inl is) = ap (λ (kept : TableRow). nat_eq id kept.id) is ∙ apart.0
    unequal (one ∷ rows) row id apart (inr more) = unequal rows row id apart.1 more

    by : (b : Bool) → has_id table_id row.id first ≡ b → row_of table_id row.id rows ≡ Some row → cond b (Some first) (row_of table_id row.id rows) ≡ Some row
    by true here rest =
        absurd (true≢false (sym (nat_eq_equiv.symm first.id row.id ∙ here) ∙ unequal rows row first.id (IsDistinct-head nat_eq first.id (ids_of rows) differ) later))
    by false apart rest = rest

-- a table of the state stands where each table after is
stands : (s : Rows) (tables : List CommittedTable) → All (WasOfState s) tables → All HasItsId tables → (row : TableRow) → IsIn (rows_after tables) row → (old : TableRow) × (row_of table_id row.id s.content.tables ≡ Some old)
unfolding IsIn
stands s [] was ids row in_ = absurd in_
stands s (one ∷ tables) was ids row (inl is) =
    (one.before, ap (λ (kept : TableRow). row_of table_id kept.id s.content.tables) is ∙ ap (λ id. row_of table_id id s.content.tables) (All-head HasItsId one tables ids) ∙ All-head (WasOfState s) one tables was)
stands s (one ∷ tables) was ids row (inr later) =
    stands s tables (All-tail (WasOfState s) one tables was) (All-tail HasItsId one tables ids) row later

-- what a test on locations and owners tells
clash-parts : (over listed : Bool) → (over && not listed) ≡ true → (over ≡ true) × (listed ≡ false)
clash-parts true true passes = absurd (true≢false (sym passes))
clash-parts true false passes = (refl, refl)
clash-parts false listed passes = absurd (true≢false (sym passes))

module _ (s : Rows) (rise : KeysRise table_id s.content.tables) (tables : List CommittedTable) (was : All (WasOfState s) tables) (ids : All HasItsId tables)
    (differ : IsDistinct nat_eq (ids_of (rows_after tables))) (row : TableRow) (among : list_any (λ owner. nat_eq owner row.id) (ids_of (rows_after tables)) ≡ true) where
  abbrev news : List TableRow
  news = rows_after tables

  abbrev rows : List TableRow
  rows = s.content.tables

  abbrev after : List TableRow
  after = map (left_as news) rows

  abbrev over_other : TableRow → Bool
  over_other other = is_clash row.location (row.id ∷ []) (member_of other)

  abbrev over_staying : TableRow → Bool
  over_staying other = is_clash row.location (ids_of news) (member_of other)

  abbrev Both : TableRow → Type 0
  Both other = Own over_staying rows other ⊎ Over row news other

  over-is : (over same : Bool) → (over && not (same || false)) ≡ (not same && over)
  over-is true true = refl
  over-is true false = refl
  over-is false true = refl
  over-is false false = refl

  tests-same : (other : TableRow) → over_other other ≡ is_over row other
  tests-same other =
      over-is (is_overlap other.location row.location) (nat_eq row.id other.id) ∙ ap (λ b. not b && is_overlap other.location row.location) (nat_eq_equiv.symm row.id other.id)

  stays-in : (other : TableRow) → Own over_staying rows other → Own over_other after other
  stays-in other own =
      let parts = clash-parts (is_overlap other.location row.location) (list_any (λ owner. nat_eq owner other.id) (ids_of news)) own.1 in
      let none = unlisted other.id news parts.1 in (
        found-altered (left_as news) (left-id news) other.id rows ∙ ap (option_map (left_as news)) own.0 ∙ ap (λ found. Some (unwrap_or found other)) none,
        (λ i. parts.0 i && not (by (nat_eq row.id other.id) refl i || false)),
      )
    where
      by : (b : Bool) → nat_eq row.id other.id ≡ b → nat_eq row.id other.id ≡ false
      by false is = is
      by true is =
          absurd (true≢false (sym among ∙ ap (λ id. list_any (λ owner. nat_eq owner id) (ids_of news)) (eqb-true row.id other.id is) ∙ (clash-parts (is_overlap other.location row.location) (list_any (λ owner. nat_eq owner other.id) (ids_of news)) own.1).1))

  new-in : (other : TableRow) → Over row news other → Own over_other after other
  new-in other over =
      let there = stands s tables was ids other over.0 in
      let ids_same : other.id ≡ there.0.id = key-row_of table_id other.id there.0 rows there.1 in (
        found-altered (left_as news) (left-id news) other.id rows ∙ ap (option_map (left_as news)) there.1
            ∙ ap (λ id. Some (unwrap_or (row_of table_id id news) there.0)) (sym ids_same) ∙ ap (λ found. Some (unwrap_or found there.0)) (found-own news other differ over.0),
        tests-same other ∙ over.1,
      )

  back-to : (other : TableRow) → Own over_other after other → Both other
  back-to other own = by-old (row_of table_id other.id rows) refl (sym (found-altered (left_as news) (left-id news) other.id rows) ∙ own.0)
    where
      by-new : (old : TableRow) → row_of table_id other.id rows ≡ Some old → (found : Option TableRow) → row_of table_id old.id news ≡ found → unwrap_or found old ≡ other → Both other
      by-new old there (Some made) is same =
          inr (subst (IsIn news) same (found-in old.id news made is), sym (tests-same other) ∙ own.1)
      by-new old there None is same =
          let parts = clash-parts (is_overlap other.location row.location) (nat_eq row.id other.id || false) own.1 in
          let none = none-listed other.id news (ap (λ (one : TableRow). row_of table_id one.id news) (sym same) ∙ is) in
          inl (there ∙ ap Some same, λ i. parts.0 i && not (none i))

      by-old : (found : Option TableRow) → row_of table_id other.id rows ≡ found → option_map (left_as news) found ≡ Some other → Both other
      by-old None there none = let contrary : None ≡ Some other = none in cc
      by-old (Some old) there is = by-new old there (row_of table_id old.id news) refl (some_is (left_as news old) other is)

  pub apart_least : overlapping row.location (row.id ∷ []) after ≡ lesser (overlapping row.location (ids_of news) rows) (least_over row news)
  apart_least =
      let left = least-found over_other after (KeysRise-map table_id (left_as news) (left-id news) rows rise) in
      let joined = least-joined (Own over_staying rows) (Over row news) (find over_staying rows) (least_over row news) (least-found over_staying rows rise) (least-among row news) in
      let right = least-same Both (Own over_other after) (λ other both. elim both [ inl stays ↦ stays-in other stays | inr new ↦ new-in other new ]) back-to (lesser (find over_staying rows) (least_over row news)) joined in
      least-unique (Own over_other after) (λ one other first second same. some_is one other (sym first.0 ∙ ap (λ id. row_of table_id id after) same ∙ second.0)) (overlapping row.location (row.id ∷ []) after) (lesser (overlapping row.location (ids_of news) rows) (least_over row news)) left right

-- the ids of tables after their commits are those before
after-ids : (tables : List CommittedTable) → All HasItsId tables → ids_of (rows_after tables) ≡ map (λ (one : CommittedTable). one.before.id) tables
after-ids [] ids = refl
after-ids (one ∷ tables) ids = λ i. All-head HasItsId one tables ids i ∷ after-ids tables (All-tail HasItsId one tables ids) i

-- so a table's overlap with others, as it is sought
pub overlap_is : (s : Rows) → IsSound s → (tables : List CommittedTable) → AreReplaced s tables → (row : TableRow) (ids : List ℕ) → ids ≡ ids_of (rows_after tables) → list_any (λ owner. nat_eq owner row.id) ids ≡ true
    → overlap_among (tables_left (rows_after tables) s.content.tables) row ≡ option_map (λ (other : TableRow). LocationOverlap row.location other.location) (lesser (overlapping row.location ids s.content.tables) (least_over row (rows_after tables)))
unfolding overlap_among tables_left
overlap_is s sound tables replaced row ids are among =
    let differ = subst (IsDistinct nat_eq) (sym (after-ids tables replaced.ids)) replaced.differ in
    let found = apart_least s sound.orderly.content.tables.numbered.rise tables replaced.there replaced.ids differ row (ap (list_any (λ owner. nat_eq owner row.id)) (sym are) ∙ among) in
    ap (option_map (λ (other : TableRow). LocationOverlap row.location other.location)) (found ∙ ap (λ except. lesser (overlapping row.location except s.content.tables) (least_over row (rows_after tables))) (sym are))

-- a table's id is among those of all
pub among-at : (tables : List Committed) (i : ℕ) (table : Committed) → i < length tables → table ≡ get_or tables i table → list_any (λ owner. nat_eq owner table.after.id) (map (λ (one : Committed). one.after.id) tables) ≡ true
among-at [] i table inside is = absurd (omega (arith, inside))
among-at (first ∷ tables) zero table inside is =
    ap (λ b. b || list_any (λ owner. nat_eq owner table.after.id) (map (λ (one : Committed). one.after.id) tables)) (eq-eqb first.after.id table.after.id (ap (λ (one : Committed). one.after.id) (sym is)))
among-at (first ∷ tables) (suc i) table inside is =
    by (nat_eq first.after.id table.after.id) (among-at tables i table (omega (arith, inside)) is)
  where
    by : (b : Bool) → list_any (λ owner. nat_eq owner table.after.id) (map (λ (one : Committed). one.after.id) tables) ≡ true → (b || list_any (λ owner. nat_eq owner table.after.id) (map (λ (one : Committed). one.after.id) tables)) ≡ true
    by true rest = refl
    by false rest = rest

-- the ids of tables after their commits, as the rows after have them
pub ids-seen : (tables : List Committed) → map (λ (one : Committed). one.after.id) tables ≡ ids_of (rows_after (committed_tables tables))
ids-seen [] = refl
ids-seen (table ∷ tables) = ap (λ ids. table.after.id ∷ ids) (ids-seen tables)
