-- The tables of a state once some are committed to: each stays, or is one of these.
use Rattle.std.proofs.Common.{◌≡◌, ℕ, Bool, true, false, not, cond, ◌||◌, ◌&&◌, nat_eq, List, [], ◌∷◌, map, filter, Option, None, Some, unwrap_or, refl, sym, ap, subst, ◌∙◌, inl, inr, true≢false}
use Rattle.std.specs.Prelude.{◌⊎◌}
use Rattle.std.specs.Cmp.{nat_eq_equiv}
use Rattle.std.specs.List.{list_any, AllByRecursion, IsDistinct}
use Rattle.std.specs.Option.{option_map}
use Rattle.std.proofs.Math.Bool.{or_comm}
use Rattle.std.proofs.lemmas.Bool.{cases_Bool, eqb-true}
use Rattle.std.proofs.lemmas.Map.Keys.{IsDistinct-cons, IsDistinct-head, IsDistinct-tail}
use Rattle.pol_commands.specs.declared.reply.Refusal.{Refusal}
use Rattle.pol_commands.specs.declared.reply.Refusal.TheVariants.{LocationOverlap}
use Rattle.pol_locations.specs.Location.{is_cover, is_overlap}
use Rattle.pol_locations.specs.LocationSet.{is_clash}
use Rattle.pol_content.proofs.SoundLemmas.{each-fails, none-found}
use Rattle.pol_state.specs.Bounds.{first_refusal}
use Rattle.pol_state.specs.Rows.{Rows}
use Rattle.pol_table_rows.specs.Tables.{is_table_named, member_of, overlapping, table_id}
use Rattle.pol_table_rows.specs.declared.row.TableRow.{TableRow}
use Rattle.pol_tables.specs.Table.{has_id, row_of, IdsDiffer}
use Rattle.pol_tables.proofs.ListLemmas.{each-join, each-map, each-weaken}
use Rattle.pol_tables.proofs.TableLemmas.{differ_head, differ_past, some_is}
use Rattle.pol_commit_actions.specs.Outcome.{CommittedTable, is_moved, left_as, rows_after}
use Rattle.pol_commit_actions.specs.Rules.{overlap_among}
use Rattle.pol_commit_actions.proofs.SingleLemmas.{IsKept}

-- what is refused in no case was there in no case
mapped-none : {X : Type 0} (refuse : X → Refusal) (found : Option X) → option_map refuse found ≡ None → found ≡ None
mapped-none refuse None none = refl
mapped-none refuse (Some one) some = let contrary : Some (refuse one) ≡ None = some in cc

-- no rule on those that pass a test refuses
passed : (rule : Option Refusal) (rules : List (Option Refusal)) → first_refusal (rule ∷ rules) ≡ None → (rule ≡ None) × (first_refusal rules ≡ None)
passed None rules none = (refl, none)
passed (Some why) rules none = let contrary : Some why ≡ None = none in cc

pub each-passed : {X : Type 0} (test : X → Bool) (rule : X → Option Refusal) (xs : List X) → first_refusal (map rule (filter test xs)) ≡ None → AllByRecursion (λ x. test x ≡ true → rule x ≡ None) xs
each-passed test rule [] none = tt
each-passed test rule (x ∷ xs) none = elim (cases_Bool (test x)) [
  | inl here ↦
      let parts = passed (rule x) (map rule (filter test xs)) (sym (ap (λ b. first_refusal (map rule (cond b (x ∷ filter test xs) (filter test xs)))) here) ∙ none) in
      (λ is. parts.0, each-passed test rule xs parts.1)
  | inr other ↦
      (λ is. absurd (true≢false (sym is ∙ other)), each-passed test rule xs (sym (ap (λ b. first_refusal (map rule (cond b (x ∷ filter test xs) (filter test xs)))) other) ∙ none))
]

-- what holds of each of the altered holds of each once it is altered
each-unmap : {X Y : Type 0} (P : Y → Type 0) (f : X → Y) (xs : List X) → AllByRecursion P (map f xs) → AllByRecursion (λ x. P (f x)) xs
each-unmap P f [] all = tt
each-unmap P f (x ∷ xs) all = (all.0, each-unmap P f xs all.1)

-- a table that is committed to, and where it is moved no other one is there among the tables after
pub record IsPlaced (s : Rows) (after : List TableRow) (one : CommittedTable) : Type 0 where
  pub kept : IsKept s one
  pub clear : is_moved one ≡ true → overlap_among after one.after ≡ None

module _ (s : Rows) (after : List TableRow) where
  -- the row of an id among those after commits
  found-after : (tables : List CommittedTable) (id : ℕ) (row : TableRow) → AllByRecursion (IsPlaced s after) tables → row_of table_id id (rows_after tables) ≡ Some row
      → (one : CommittedTable) × (IsPlaced s after one) × (one.after ≡ row) × (id ≡ one.before.id)
  found-after [] id row each found = let contrary : None ≡ Some row = found in cc
  found-after (one ∷ tables) id row each found = elim (cases_Bool (has_id table_id id one.after)) [
    | inl here ↦
        (one, each.0, some_is one.after row (sym (ap (λ b. cond b (Some one.after) (row_of table_id id (rows_after tables))) here) ∙ found), eqb-true id one.after.id here ∙ each.0.kept.id)
    | inr apart ↦
        found-after tables id row each.1 (sym (ap (λ b. cond b (Some one.after) (row_of table_id id (rows_after tables))) apart) ∙ found)
  ]

  -- what holds of a table and of what it is committed to holds of what it is left as
  pub left-holds : (tables : List CommittedTable) (P : TableRow → Type 0) (row : TableRow) → AllByRecursion (IsPlaced s after) tables → row_of table_id row.id s.content.tables ≡ Some row
      → P row → ((one : CommittedTable) → IsPlaced s after one → one.before ≡ row → P one.after) → P (left_as (rows_after tables) row)
  left-holds tables P row each own here there = by (row_of table_id row.id (rows_after tables)) refl
    where
      by : (found : Option TableRow) → row_of table_id row.id (rows_after tables) ≡ found → P (unwrap_or found row)
      by None is = here
      by (Some made) is =
          let parts = found-after tables row.id made each is in
          let before : parts.0.before ≡ row = some_is parts.0.before row (sym (ap (λ id. row_of table_id id s.content.tables) parts.3 ∙ parts.1.kept.there) ∙ own) in
          subst P parts.2 (there parts.0 parts.1 before)

-- names that stay differ
pub record IsAlike (alter : TableRow → TableRow) (row : TableRow) : Type 0 where
  pub namespace : (alter row).namespace ≡ row.namespace
  pub name : (alter row).name ≡ row.name

abbrev same_table : TableRow → TableRow → Bool
same_table left right = is_table_named left.namespace left.name right

pub names-differ : (alter : TableRow → TableRow) (rows : List TableRow) → AllByRecursion (IsAlike alter) rows → IsDistinct same_table rows → IsDistinct same_table (map alter rows)
names-differ alter [] alike differ = differ
names-differ alter (row ∷ rows) alike differ =
    IsDistinct-cons same_table (alter row) (map alter rows)
    (each-map (λ other. same_table (alter row) other ≡ false) alter rows
    (each-join (IsAlike alter) (λ other. same_table row other ≡ false) (λ other. same_table (alter row) (alter other) ≡ false) rows
    (λ other like apart. (λ i. is_table_named (alike.0.namespace i) (alike.0.name i) (record (alter other) { namespace = like.namespace i; name = like.name i })) ∙ apart)
    alike.1 (IsDistinct-head same_table row rows differ)))
    (names-differ alter rows alike.1 (IsDistinct-tail same_table row rows differ))

-- and where no table has a name, none has it then
pub none-named : (alter : TableRow → TableRow) (namespace : ℕ) (name : List ℕ) (rows : List TableRow) → AllByRecursion (IsAlike alter) rows → list_any (is_table_named namespace name) (map alter rows) ≡ list_any (is_table_named namespace name) rows
none-named alter namespace name [] alike = refl
none-named alter namespace name (row ∷ rows) alike =
    λ i. is_table_named namespace name (record (alter row) { namespace = alike.0.namespace i; name = alike.0.name i }) || none-named alter namespace name rows alike.1 i

-- locations
overlap-symmetric : (a b : List (List ℕ)) → is_overlap a b ≡ is_overlap b a
overlap-symmetric a b = or_comm (is_cover a b) (is_cover b a)

abbrev overlap_rows : TableRow → TableRow → Bool
overlap_rows left right = is_overlap left.location right.location

clash-other : (overlaps same : Bool) → (overlaps && not (same || false)) ≡ false → same ≡ false → overlaps ≡ false
clash-other true true none other = absurd (true≢false other)
clash-other true false none other = absurd (true≢false none)
clash-other false same none other = refl

-- a table that is clear of the others overlaps none of another id
abbrev ClearOf : TableRow → TableRow → Type 0
ClearOf row other = nat_eq row.id other.id ≡ false → is_overlap other.location row.location ≡ false

clear-others : (after : List TableRow) (row : TableRow) → overlap_among after row ≡ None → AllByRecursion (ClearOf row) after
unfolding overlap_among
clear-others after row none =
    let nothing = mapped-none (λ (other : TableRow). LocationOverlap row.location other.location) (overlapping row.location (row.id ∷ []) after) none in
    let fails = each-fails (λ (other : TableRow). is_clash row.location (row.id ∷ []) (member_of other)) after (none-found (λ (other : TableRow). is_clash row.location (row.id ∷ []) (member_of other)) after nothing) in
    each-weaken (λ (other : TableRow). is_clash row.location (row.id ∷ []) (member_of other) ≡ false) (ClearOf row) after (λ other none. clash-other (is_overlap other.location row.location) (nat_eq row.id other.id) none) fails

-- a table lies where it lay, or clear of the others
abbrev pub Spot : (TableRow → TableRow) → List TableRow → TableRow → Type 0
Spot alter after row = ((alter row).location ≡ row.location) ⊎ (overlap_among after (alter row) ≡ None)

module _ (alter : TableRow → TableRow) (ids : (row : TableRow) → (alter row).id ≡ row.id) (after : List TableRow) where
  pair-apart : (row other : TableRow) → Spot alter after row → Spot alter after other → overlap_rows row other ≡ false → nat_eq row.id other.id ≡ false → nat_eq other.id row.id ≡ false
      → ((overlap_among after (alter row) ≡ None) → ClearOf (alter row) (alter other)) → ((overlap_among after (alter other) ≡ None) → ClearOf (alter other) (alter row))
      → overlap_rows (alter row) (alter other) ≡ false
  pair-apart row other (inr clear) spot apart differ differs first second =
      overlap-symmetric (alter row).location (alter other).location ∙ first clear ((λ i. nat_eq (ids row i) (ids other i)) ∙ differ)
  pair-apart row other (inl stays) (inr clear) apart differ differs first second =
      second clear ((λ i. nat_eq (ids other i) (ids row i)) ∙ differs)
  pair-apart row other (inl stays) (inl stay) apart differ differs first second =
      (λ i. is_overlap (stays i) (stay i)) ∙ apart

  -- what follows of a premise for each follows for each of the premise
  each-given : {Q : Type 0} (P : TableRow → Type 0) (rows : List TableRow) → (Q → AllByRecursion P rows) → AllByRecursion (λ row. Q → P row) rows
  each-given P [] all = tt
  each-given P (row ∷ rows) all = (λ so. (all so).0, each-given P rows (λ so. (all so).1))

  -- tables that are all among those after overlap nowhere once they are altered, where they overlapped nowhere
  pub apart-rows : (rows : List TableRow) → ((P : TableRow → Type 0) → AllByRecursion P after → AllByRecursion P (map alter rows)) → AllByRecursion (Spot alter after) rows → IdsDiffer table_id rows → IsDistinct overlap_rows rows
      → IsDistinct overlap_rows (map alter rows)
  apart-rows [] among spots differ apart = apart
  apart-rows (row ∷ rows) among spots differ apart =
      let clear = each-given (λ other. ClearOf (alter row) (alter other)) rows (λ so. each-unmap (ClearOf (alter row)) alter rows (among (ClearOf (alter row)) (clear-others after (alter row) so)).1) in
      let ids_apart = each-join (λ other. overlap_rows row other ≡ false) (λ other. nat_eq row.id other.id ≡ false) (λ other. (overlap_rows row other ≡ false) × (nat_eq row.id other.id ≡ false)) rows (λ other one more. (one, more)) (IsDistinct-head overlap_rows row rows apart) (differ_head table_id row rows differ) in
      let spot = each-join (Spot alter after) (λ other. (overlap_rows row other ≡ false) × (nat_eq row.id other.id ≡ false)) (λ other. (overlap_among after (alter row) ≡ None → ClearOf (alter row) (alter other)) → overlap_rows (alter row) (alter other) ≡ false) rows
      (λ other at known first. pair-apart row other spots.0 at known.0 known.1 (nat_eq_equiv.symm other.id row.id ∙ known.1) first (λ so. (among (ClearOf (alter other)) (clear-others after (alter other) so)).0)) spots.1 ids_apart in
      IsDistinct-cons overlap_rows (alter row) (map alter rows)
      (each-map (λ other. overlap_rows (alter row) other ≡ false) alter rows (each-join (λ other. overlap_among after (alter row) ≡ None → ClearOf (alter row) (alter other)) (λ other. (overlap_among after (alter row) ≡ None → ClearOf (alter row) (alter other)) → overlap_rows (alter row) (alter other) ≡ false) (λ other. overlap_rows (alter row) (alter other) ≡ false) rows (λ other first so. so first) clear spot))
      (apart-rows rows (λ P all. (among P all).1) spots.1 (differ_past table_id row rows differ) (IsDistinct-tail overlap_rows row rows apart))
