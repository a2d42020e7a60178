-- The table of the least id that overlaps a location is the one whose place has the least owner.
use Rattle.std.proofs.Common.{◌≡◌, ℕ, ◌≤◌, ◌<◌, Bool, true, false, cond, ◌||◌, List, [], ◌∷◌, ◌++◌, filter, map, min, nat_eq, Option, Some, None, option_and_then, refl, sym, ap, subst, ◌∙◌, inl, inr, arith, append_assoc, true≢false}
use Rattle.std.specs.List.{find, fold, list_any, reduce, AllByRecursion}
use Rattle.std.proofs.lemmas.Bool.{cases_Bool, eq-eqb, eqb-true}
use Rattle.pol_access.proofs.KeptLemmas.{found-holds, found-passes}
use Rattle.pol_locations.specs.LocationSet.{clash_of, is_clash}
use Rattle.pol_locations.specs.contracts.location_set.Member.{the_row}
use Rattle.pol_locations.specs.declared.location_set.Member.{Member}
use Rattle.pol_table_rows.specs.Places.{is_placed}
use Rattle.pol_table_rows.specs.Tables.{ArePlaced, member_of, overlapping, table_id}
use Rattle.pol_table_rows.specs.declared.row.TableRow.{TableRow}
use Rattle.pol_table_rows.proofs.PlacesLemmas.{placed-append}
use Rattle.pol_tables.specs.Rising.{KeysRise}
use Rattle.pol_tables.specs.Same.{same}
use Rattle.pol_tables.specs.Table.{row_of}
use Rattle.pol_tables.proofs.ListLemmas.{each-weaken, or_false, or_true}
use Rattle.pol_tables.proofs.RisingLemmas.{IdsDiffer-rising, rise_head, rise_tail}
use Rattle.pol_tables.proofs.NamedLemmas.{each-own}
use Rattle.pol_tables.proofs.SameLemmas.{same-refl, same-true}
use Rattle.pol_tables.proofs.TableLemmas.{some_is}

-- a number that is there, and not above any other, is the least
fold-least : (n x : ℕ) (xs : List ℕ) → n ≤ x → AllByRecursion (λ y. n ≤ y) xs → (nat_eq n x || list_any (nat_eq n) xs) ≡ true → fold min x xs ≡ n
fold-least n x [] below all has = sym (eqb-true n x (sym (or_false (nat_eq n x)) ∙ has))
fold-least n x (y ∷ ys) below all has = fold-least n (min x y) ys (omega (arith, below, all.0)) all.1 (by (nat_eq n x) refl (nat_eq n y) refl has)
  where
    by : (first : Bool) → nat_eq n x ≡ first → (second : Bool) → nat_eq n y ≡ second → (first || (second || list_any (nat_eq n) ys)) ≡ true → (nat_eq n (min x y) || list_any (nat_eq n) ys) ≡ true
    by true is second next some =
        let same : n ≡ min x y = let one = eqb-true n x is in omega (arith, one, all.0) in
        ap (λ b. b || list_any (nat_eq n) ys) (eq-eqb n (min x y) same)
    by false other true is some =
        let same : n ≡ min x y = let one = eqb-true n y is in omega (arith, one, below) in
        ap (λ b. b || list_any (nat_eq n) ys) (eq-eqb n (min x y) same)
    by false other false next some = ap (λ b. nat_eq n (min x y) || b) some ∙ or_true (nat_eq n (min x y))

reduce-least : (n : ℕ) (xs : List ℕ) → AllByRecursion (λ x. n ≤ x) xs → list_any (nat_eq n) xs ≡ true → reduce min xs ≡ Some n
reduce-least n [] all has = absurd (true≢false (sym has))
reduce-least n (x ∷ xs) all has = ap Some (fold-least n x xs all.0 all.1 has)

-- each member of a list is placed in it
each-placed : (front back : List Member) → AllByRecursion (λ member. is_placed member (front ++ back) ≡ true) back
each-placed front [] = tt
each-placed front (member ∷ back) = (
  placed-append member front (member ∷ back) ∙ ap (λ b. is_placed member front || (b || is_placed member back)) (same-refl the_row.coded member) ∙ or_true (is_placed member front),
  subst (λ whole. AllByRecursion (λ one. is_placed one whole ≡ true) back) (append_assoc front (member ∷ []) back) (each-placed (front ++ member ∷ []) back),
)

module _ (wanted : List (List ℕ)) (except : List ℕ) where
  abbrev clash : Member → Bool
  clash member = is_clash wanted except member

  abbrev row_clash : TableRow → Bool
  row_clash row = is_clash wanted except (member_of row)

  -- what holds of each row that clashes holds of a member that is the place of one
  member-by : (P : ℕ → Type 0) (member : Member) (rows : List TableRow) → AllByRecursion (λ row. row_clash row ≡ true → P row.id) rows → list_any (λ row. same the_row.coded member (member_of row)) rows ≡ true → clash member ≡ true → P member.owner
  member-by P member [] all has passes = absurd (true≢false (sym has))
  member-by P member (row ∷ rows) all has passes =
      by (same the_row.coded member (member_of row)) refl has (λ some. member-by P member rows all.1 some passes)
    where
      by : (b : Bool) → same the_row.coded member (member_of row) ≡ b → (b || list_any (λ one. same the_row.coded member (member_of one)) rows) ≡ true → (list_any (λ one. same the_row.coded member (member_of one)) rows ≡ true → P member.owner) → P member.owner
      by true is some others =
          let one = same-true the_row.coded member (member_of row) is in
          subst (λ (of : Member). P of.owner) (sym one) (all.0 (sym (ap clash one) ∙ passes))
      by false other some others = others some

  -- no row before the first one that clashes does, and those after it have greater ids
  first-least : (rows : List TableRow) (first : TableRow) → KeysRise table_id rows → find row_clash rows ≡ Some first → AllByRecursion (λ row. row_clash row ≡ true → first.id ≤ row.id) rows
  first-least [] first rise found = tt
  first-least (row ∷ rows) first rise found = elim (cases_Bool (row_clash row)) [
    | inl passes ↦
        let one : row ≡ first = some_is row first (sym (ap (λ b. cond b (Some row) (find row_clash rows)) passes) ∙ found) in
        let same_id : row.id ≡ first.id = ap (λ (of : TableRow). of.id) one in (
          λ here. omega (arith, same_id),
          each-weaken (λ later. row.id < later.id) (λ later. row_clash later ≡ true → first.id ≤ later.id) rows (λ later above here. omega (arith, above, same_id)) (rise_head table_id row rows rise),
        )
    | inr fails ↦ (
      λ passes. absurd (true≢false (sym passes ∙ fails)),
      first-least rows first (rise_tail table_id row rows rise) (sym (ap (λ b. cond b (Some row) (find row_clash rows)) fails) ∙ found),
    )
  ]

  none-clashes : (rows : List TableRow) → find row_clash rows ≡ None → AllByRecursion (λ row. row_clash row ≡ true → ⊥) rows
  none-clashes [] none = tt
  none-clashes (row ∷ rows) none = elim (cases_Bool (row_clash row)) [
    | inl passes ↦ let contrary : Some row ≡ None = sym (ap (λ b. cond b (Some row) (find row_clash rows)) passes) ∙ none in cc
    | inr fails ↦ (
      λ passes. true≢false (sym passes ∙ fails),
      none-clashes rows (sym (ap (λ b. cond b (Some row) (find row_clash rows)) fails) ∙ none),
    )
  ]

  abbrev owners : List Member → List ℕ
  owners members = map (λ (member : Member). member.owner) (filter clash members)

  -- a member that clashes has its owner among theirs
  owner-among : (wanted_one : Member) (members : List Member) → is_placed wanted_one members ≡ true → clash wanted_one ≡ true → list_any (nat_eq wanted_one.owner) (owners members) ≡ true
  owner-among one [] has passes = has
  owner-among one (member ∷ members) has passes =
      by (same the_row.coded one member) refl has (λ some. owner-among one members some passes)
    where
      rest : (b : Bool) → list_any (nat_eq one.owner) (owners members) ≡ true → list_any (nat_eq one.owner) (map (λ (kept : Member). kept.owner) (cond b (member ∷ filter clash members) (filter clash members))) ≡ true
      rest true some = ap (λ b. nat_eq one.owner member.owner || b) some ∙ or_true (nat_eq one.owner member.owner)
      rest false some = some

      by : (b : Bool) → same the_row.coded one member ≡ b → (b || is_placed one members) ≡ true → (is_placed one members ≡ true → list_any (nat_eq one.owner) (owners members) ≡ true) → list_any (nat_eq one.owner) (owners (member ∷ members)) ≡ true
      by true is some others =
          let alike = same-true the_row.coded one member is in
          let here : clash member ≡ true = sym (ap clash alike) ∙ passes in
          ap (λ b. list_any (nat_eq one.owner) (map (λ (kept : Member). kept.owner) (cond b (member ∷ filter clash members) (filter clash members)))) here
          ∙ ap (λ b. b || list_any (nat_eq one.owner) (owners members)) (eq-eqb one.owner member.owner (ap (λ (of : Member). of.owner) alike))
      by false other some others = rest (clash member) (others some)

  -- what holds of each member that clashes holds of each of their owners
  each-owner : (P : ℕ → Type 0) (members : List Member) → AllByRecursion (λ member. clash member ≡ true → P member.owner) members → AllByRecursion P (owners members)
  each-owner P [] all = tt
  each-owner P (member ∷ members) all = by (clash member) refl (each-owner P members all.1)
    where
      by : (b : Bool) → clash member ≡ b → AllByRecursion P (owners members) → AllByRecursion P (map (λ (kept : Member). kept.owner) (cond b (member ∷ filter clash members) (filter clash members)))
      by true passes others = (all.0 passes, others)
      by false fails others = others

  -- a row has its place in the list of them all
  row-there : (row : TableRow) (rows : List TableRow) → find row_clash rows ≡ Some row → list_any (λ one. same the_row.coded (member_of row) (member_of one)) rows ≡ true
  row-there row [] found = let contrary : None ≡ Some row = found in cc
  row-there row (first ∷ rows) found = elim (cases_Bool (row_clash first)) [
    | inl passes ↦
        let one : first ≡ row = some_is first row (sym (ap (λ b. cond b (Some first) (find row_clash rows)) passes) ∙ found) in
        ap (λ b. b || list_any (λ other. same the_row.coded (member_of row) (member_of other)) rows) (ap (λ (of : TableRow). same the_row.coded (member_of row) (member_of of)) one ∙ same-refl the_row.coded (member_of row))
    | inr fails ↦
        ap (λ b. same the_row.coded (member_of row) (member_of first) || b) (row-there row rows (sym (ap (λ b. cond b (Some first) (find row_clash rows)) fails) ∙ found)) ∙ or_true (same the_row.coded (member_of row) (member_of first))
  ]

  module _ (members : List Member) (rows : List TableRow) (placed : ArePlaced members rows) where
    each-by : (P : ℕ → Type 0) → AllByRecursion (λ row. row_clash row ≡ true → P row.id) rows → AllByRecursion P (owners members)
    each-by P all =
        each-owner P members (each-weaken (λ member. is_placed member members ≡ true) (λ member. clash member ≡ true → P member.owner) members (λ member there passes. member-by P member rows all (sym (placed member) ∙ there) passes) (each-placed [] members))

    -- the row of the least owner whose place overlaps the wanted location is the first row that does
    pub first-clash : KeysRise table_id rows → option_and_then (λ id. row_of table_id id rows) (clash_of members wanted except) ≡ overlapping wanted except rows
    first-clash rise = by (overlapping wanted except rows) refl
      where
        by : (found : Option TableRow) → overlapping wanted except rows ≡ found → option_and_then (λ id. row_of table_id id rows) (clash_of members wanted except) ≡ found
        by None none =
            ap (λ ids. option_and_then (λ id. row_of table_id id rows) (reduce min ids)) (no-owners (owners members) (each-by (λ id. ⊥) (none-clashes rows none)))
          where
            no-owners : (ids : List ℕ) → AllByRecursion (λ id. ⊥) ids → ids ≡ []
            no-owners [] all = refl
            no-owners (id ∷ ids) all = absurd all.0
        by (Some row) found =
            let least = reduce-least row.id (owners members) (each-by (λ id. row.id ≤ id) (first-least rows row rise found)) (owner-among (member_of row) members (placed (member_of row) ∙ row-there row rows found) (found-passes row_clash rows row found)) in
            ap (option_and_then (λ id. row_of table_id id rows)) least ∙ found-holds row_clash (λ one. row_of table_id one.id rows ≡ Some one) rows row (each-own table_id rows (IdsDiffer-rising table_id rows rise)) found
