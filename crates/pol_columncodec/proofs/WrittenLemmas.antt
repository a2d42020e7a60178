-- What is written of columns, of one column after another.
use Rattle.std.proofs.Common.{◌≡◌, ◌+◌, ℕ, true, false, nat_lt, List, [], ◌∷◌, ◌++◌, Result, Ok, Err, refl, sym, ap, subst, ◌∙◌, append_assoc, append-nil}
use Rattle.std.specs.Prelude.{OnOk}
use Rattle.pol_forms.specs.Enums.{truth}
use Rattle.pol_meta.specs.declared.column.Column.{Column}
use Rattle.pol_meta.specs.declared.column.Kind.TheVariants as kind
use Rattle.pol_columnforms.specs.Columns.{TypeForm, beside_of, chunks, element, inner_forms, inner_of, pair, value_to}
use Rattle.pol_columnforms.proofs.DepthLemmas.{list_unwritten, map_unwritten, struct_unwritten}
use Rattle.pol_partcodec.specs.Numbers.{column_id}

-- a deeper column is passed over, and another one is written with the deeper ones behind it
pub deeper_passed : (depth : ℕ) (column : Column) (others : List Column) → nat_lt depth column.depth ≡ true → chunks depth (column ∷ others) ≡ chunks depth others
deeper_passed depth column others is = rw is refl

pub beside_taken : (depth : ℕ) (column : Column) (others : List Column) → nat_lt depth column.depth ≡ false
    → chunks depth (column ∷ others) ≡ (column ∷ inner_of depth others) ∷ chunks depth others
beside_taken depth column others is = rw is refl

-- a map is written as its key and an element
module _ (depth : ℕ) (type : TypeForm (depth + 1)) where
  abbrev ids : ℕ → List ℕ
  ids id = column_id.write id

  value_written : (key : Column) (inner beside : List Column) →
      (let it = value_to depth type key inner beside in ids it.0 ++ (type.form.write it.1.0 ++ (ids it.1.1.0 ++ (type.form.write it.1.1.1.0 ++ truth.write it.1.1.1.1))))
      ≡ (ids key.id ++ type.form.write (key.kind, inner)) ++ (element depth type).write beside
  unfolding element
  value_written key inner [] = sym (append_assoc (ids key.id) (type.form.write (key.kind, inner)) _)
  value_written key inner (column ∷ columns) = sym (append_assoc (ids key.id) (type.form.write (key.kind, inner)) _)

  pair_written : (key : Column) (columns : List Column)
      → (pair depth type).write (key ∷ columns) ≡ (ids key.id ++ type.form.write (key.kind, inner_of depth columns)) ++ (element depth type).write (beside_of depth columns)
  unfolding pair
  pair_written key columns = value_written key (inner_of depth columns) (beside_of depth columns)

  none_written : (pair depth type).write [] ≡ (ids 0 ++ type.form.write (kind.Boolean, [])) ++ (element depth type).write []
  unfolding pair element
  none_written = sym (append_assoc (ids 0) (type.form.write (kind.Boolean, [])) _)

  -- the same, written one behind the other
  pub pair_told : {A E : Type 0} (columns : List Column) (key : Column) (others inner beside : List Column) (result : Result A E) (start middle last : List ℕ)
      → columns ≡ key ∷ others → inner ≡ inner_of depth others → beside ≡ beside_of depth others
      → middle ≡ start ++ (ids key.id ++ type.form.write (key.kind, inner)) → OnOk result (last ≡ middle ++ (element depth type).write beside)
      → OnOk result (last ≡ start ++ (pair depth type).write columns)
  pair_told columns key others inner beside (Ok value) start middle last is inner_is beside_is first second =
      second
      ∙ ap (λ (front : List ℕ). front ++ (element depth type).write beside) first
      ∙ append_assoc start (ids key.id ++ type.form.write (key.kind, inner)) ((element depth type).write beside)
      ∙ ap (λ (within : List Column). start ++ ((ids key.id ++ type.form.write (key.kind, within)) ++ (element depth type).write beside)) inner_is
      ∙ ap (λ (after : List Column). start ++ ((ids key.id ++ type.form.write (key.kind, inner_of depth others)) ++ (element depth type).write after)) beside_is
      ∙ ap (λ (bytes : List ℕ). start ++ bytes) (sym (pair_written key others))
      ∙ ap (λ (all : List Column). start ++ (pair depth type).write all) (sym is)
  pair_told columns key others inner beside (Err why) start middle last is inner_is beside_is first second = second

  pub none_told : {A E : Type 0} (columns : List Column) (result : Result A E) (start middle last : List ℕ) → columns ≡ []
      → middle ≡ start ++ (ids 0 ++ type.form.write (kind.Boolean, columns)) → OnOk result (last ≡ middle ++ (element depth type).write columns)
      → OnOk result (last ≡ start ++ (pair depth type).write columns)
  none_told columns (Ok value) start middle last is first second =
      let whole : (ids 0 ++ type.form.write (kind.Boolean, columns)) ++ (element depth type).write columns ≡ (pair depth type).write columns =
      subst (λ (all : List Column). (ids 0 ++ type.form.write (kind.Boolean, all)) ++ (element depth type).write all ≡ (pair depth type).write all) (sym is) (sym none_written) in
      second
      ∙ ap (λ (front : List ℕ). front ++ (element depth type).write columns) first
      ∙ append_assoc start (ids 0 ++ type.form.write (kind.Boolean, columns)) ((element depth type).write columns)
      ∙ ap (λ (bytes : List ℕ). start ++ bytes) whole
  none_told columns (Err why) start middle last is first second = second

-- where no more types may stand in one another, nothing is written
nothing_more : (before piece : List ℕ) → piece ≡ [] → before ≡ before ++ piece
nothing_more before piece is = sym (append-nil before) ∙ ap (λ (bytes : List ℕ). before ++ bytes) (sym is)

pub struct_left_out : (left depth : ℕ) (columns : List Column) (before : List ℕ) → left ≡ 0 → before ≡ before ++ (inner_forms left depth).struct.write columns
struct_left_out left depth columns before is =
    nothing_more before ((inner_forms left depth).struct.write columns)
    (subst (λ (n : ℕ). (inner_forms n depth).struct.write columns ≡ []) (sym is) (struct_unwritten depth columns))

pub list_left_out : (left depth : ℕ) (columns : List Column) (before : List ℕ) → left ≡ 0 → before ≡ before ++ (inner_forms left depth).element.write columns
list_left_out left depth columns before is =
    nothing_more before ((inner_forms left depth).element.write columns)
    (subst (λ (n : ℕ). (inner_forms n depth).element.write columns ≡ []) (sym is) (list_unwritten depth columns))

pub map_left_out : (left depth : ℕ) (columns : List Column) (before : List ℕ) → left ≡ 0 → before ≡ before ++ (inner_forms left depth).pair.write columns
map_left_out left depth columns before is =
    nothing_more before ((inner_forms left depth).pair.write columns)
    (subst (λ (n : ℕ). (inner_forms n depth).pair.write columns ≡ []) (sym is) (map_unwritten depth columns))

pub ruleset next_written = (deeper_passed, beside_taken)
