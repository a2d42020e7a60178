-- What types and schemas are read as has the forms that valid metadata ask for.
use Rattle.std.proofs.Common.{◌≡◌, ◌≢◌, ◌≤◌, ◌+◌, ℕ, zero, suc, Bool, true, false, ◌&&◌, ◌==◌, not, List, [], ◌∷◌, ◌++◌, length, MatchBool, is_some, nat_eq, refl, sym, ap, subst, ◌∙◌, append_assoc, add-one, unwrap_or, lit≤, arith}
use Rattle.std.specs.List.{All, IsDistinct, list_any}
use Rattle.std.specs.Str.{bytes_eq}
use Rattle.std.proofs.lemmas.List.Sums.{AllPass-from_list_all}
use Rattle.std.proofs.lemmas.List.{append-nil, map-append}
use Rattle.std.proofs.lemmas.List.Elements.{All-append, All-cons, All-nil}
use Rattle.serde_json.specs.Data.{Data, Items, no_items, item}
use Rattle.serde_json.specs.Find.{as_str}
use Rattle.pol_meta.specs.Columns.{AreFields, AreIn, Columns, StandAt, column_ids, has_field, listed, nest, none, parts}
use Rattle.pol_meta.specs.Valid.{IsColumn, IsColumnId, IsKind, IsSchema, levels}
use Rattle.pol_meta.specs.declared.schema.Schema.{Schema}
use Rattle.pol_meta.specs.declared.column.Column.{Column}
use Rattle.pol_meta.specs.declared.column.Kind.{Kind}
use Rattle.pol_meta.specs.declared.column.Kind.TheVariants as kind
use Rattle.pol_meta.specs.declared.column.Part.{Part}
use Rattle.pol_meta.specs.declared.column.Part.TheVariants.{Field, Element, Key, Value}
use Rattle.pol_readers.specs.Shape.{Shape}
use Rattle.pol_metajson.specs.Schema.{columns_form, form_of, fresh_id, inner_columns, inner_form, is_name_among, is_named, is_seen, kind_form, list_form, map_form, nested_form, next_field, plain_form, schema, struct_field, struct_fields, struct_form}
use Rattle.pol_metajson.specs.Chain.{AreChained}
use Rattle.pol_metajson.specs.declared.columns.Inner.{Inner}
use Rattle.pol_metajson.specs.declared.columns.Nested.{Nested}
use Rattle.pol_metajson.specs.declared.columns.Nested.TheVariants as nested
use Rattle.pol_metajson.specs.declared.columns.Typed.{Typed}
use Rattle.pol_metajson.specs.Kind.{kind_of}
use Rattle.pol_metakeys.specs.declared.keys.TheConstants.{ELEMENT, ELEMENT_ID, ID, KEY, KEY_ID, VALUE, VALUE_ID}
use Rattle.pol_metajson.proofs.ColumnsLemmas.{IsDistinct-push, AreFields-push, StandAt-after, after, listed-after, named-parts, parts-after}
use Rattle.pol_metajson.proofs.WordLemmas.{kind_plain, mapped}

-- columns that stand beside each other at a place, after columns that have the ids
pub record Stretch (depth : ℕ) (seen : List ℕ) (columns : List Column) : Type 0 where
  pub bounded : All IsColumn columns
  pub tree : Columns
  pub list : columns ≡ listed tree
  pub stand : StandAt depth tree
  pub fresh : IsDistinct nat_eq seen → IsDistinct nat_eq (seen ++ column_ids columns)

-- a type with the columns in it
pub record Stands (depth : ℕ) (seen : List ℕ) (found : Kind) (columns : List Column) : Type 0 where
  pub bound : IsKind found
  pub stretch : Stretch depth seen columns
  pub fits : AreIn found (parts stretch.tree)
  pub room : depth + levels found ≤ 33

-- no columns
empty_stretch : (depth : ℕ) (seen : List ℕ) → Stretch depth seen []
empty_stretch depth seen = record {
  bounded = All-nil IsColumn;
  tree = none;
  list = refl;
  stand = tt;
  fresh = λ distinct. rw (append-nil seen) distinct;
}

-- columns, and others after them
joined_stretch : (depth : ℕ) (seen : List ℕ) (xs ys : List Column) → Stretch depth seen xs → Stretch depth (seen ++ column_ids xs) ys → Stretch depth seen (xs ++ ys)
joined_stretch depth seen xs ys first second = record {
  bounded = All-append IsColumn xs ys first.bounded second.bounded;
  tree = after first.tree second.tree;
  list = rw (listed-after first.tree second.tree, ← first.list, ← second.list) refl;
  stand = StandAt-after depth first.tree second.tree first.stand second.stand;
  fresh = λ distinct. rw (map-append (λ (column : Column). column.id) xs ys, ← append_assoc seen (column_ids xs) (column_ids ys)) (second.fresh (first.fresh distinct));
}

-- a type without columns
plain_stands : (depth : ℕ) (seen : List ℕ) (d : Data) (typed : Typed) → depth ≤ 33 → plain_form.stands d typed → Stands depth seen typed.kind typed.columns
unfolding plain_form empty_stretch
plain_stands depth seen d typed low so =
    let told = mapped (λ found. record { kind = found; columns = [] }) (kind_of so.0) typed so.2 in
    let plain = kind_plain so.0 told.0 told.1 in
    subst (λ (other : Typed). Stands depth seen other.kind other.columns) told.2
    (record { bound = plain.bound; stretch = empty_stretch depth seen; fits = plain.empty; room = omega (arith, plain.flat) })

-- an id that is read
not_seen : (b : Bool) → not b ≡ true → b ≡ false
not_seen true is = absurd (cc)
not_seen false is = refl

fresh_within : (key seen : List ℕ) (d : Data) (id : ℕ) → (fresh_id key seen).stands d id → IsColumnId id × (is_seen seen id ≡ false)
unfolding fresh_id
fresh_within key seen d id so =
    let same : so.0 ≡ id = sym so.2.2 in
    (subst IsColumnId same so.1.2.2, subst (λ other. is_seen seen other ≡ false) same (not_seen (is_seen seen so.0) so.2.1))

-- one column with those in it
pub record Single (depth : ℕ) (seen : List ℕ) (part : Part) (columns : List Column) : Type 0 where
  pub stretch : Stretch depth seen columns
  pub alone : parts stretch.tree ≡ part ∷ []

single : (depth : ℕ) (seen : List ℕ) (id : ℕ) (part : Part) (found : Kind) (columns : List Column) → IsColumnId id → is_seen seen id ≡ false
    → Stands (depth + 1) (seen ++ id ∷ []) found columns → Single depth seen part (record { depth = depth; id = id; part = part; kind = found } ∷ columns)
single depth seen id part found columns within new stands =
    let column : Column = record { depth = depth; id = id; part = part; kind = found } in
    let inner = stands.stretch in
    let low : depth + levels found ≤ 32 = omega (arith, stands.room) in
    record {
      stretch = record {
        bounded = All-cons IsColumn column columns (record { depth = low; id = within; kind = stands.bound }) inner.bounded;
        tree = nest column inner.tree none;
        list = ap (λ rest. column ∷ rest) (inner.list ∙ sym (append-nil (listed inner.tree)));
        stand = (refl, stands.fits, subst (λ place. StandAt place inner.tree) (add-one depth) inner.stand, tt);
        fresh = λ distinct. subst (IsDistinct nat_eq) (append_assoc seen (id ∷ []) (column_ids columns))
            (inner.fresh (IsDistinct-push nat_eq seen id distinct new));
      };
      alone = refl;
    }

-- fields that stand beside each other
pub record Fields (depth : ℕ) (seen : List ℕ) (columns : List Column) : Type 0 where
  pub stretch : Stretch depth seen columns
  pub fields : AreFields (parts stretch.tree)

nobody : {A : Type 0} (same : A → A → Bool) → IsDistinct same []
unfolding IsDistinct
nobody same = tt

empty_fields : (depth : ℕ) (seen : List ℕ) → Fields depth seen []
unfolding empty_stretch
empty_fields depth seen = record {
  stretch = empty_stretch depth seen;
  fields = record { fields = All-nil _; named = All-nil _; differ = nobody bytes_eq };
}

-- a name that is new
neither : (a b : Bool) → (not a && not b) ≡ true → (a ≡ false) × (b ≡ false)
neither true b is = absurd (cc)
neither false true is = absurd (cc)
neither false false is = (refl, refl)

filled_name : (name : List ℕ) → (length name == 0) ≡ false → name ≢ []
filled_name [] is = λ empty. cc
filled_name (byte ∷ bytes) is = λ empty. cc

-- what holds of either of two forms
by_choice : {P Q R : Type 0} (b : Bool) → (P → R) → (Q → R) → MatchBool b P Q → R
by_choice true first second so = first so
by_choice false first second so = second so

-- the columns at a place, where those one deeper are of their forms
module _ (form : ℕ → List ℕ → Shape Typed) (depth : ℕ) (low : depth ≤ 32)
    (deeper : (seen : List ℕ) (d : Data) (typed : Typed) → (form (depth + 1) seen).stands d typed → Stands (depth + 1) seen typed.kind typed.columns) where
  inner_single : (id_key key seen : List ℕ) (part : Part) (d : Data) (inner : Inner) → (inner_form form id_key key depth seen).stands d inner
      → Single depth seen part (inner_columns depth part inner)
  unfolding inner_form
  inner_single id_key key seen part d inner so =
      let ids = fresh_within id_key seen d so.0 so.1 in
      let stands = deeper (seen ++ so.0 ∷ []) so.2.1.0 so.2.0 so.2.1.2 in
      subst (λ (other : Inner). Single depth seen part (inner_columns depth part other)) (sym so.2.2)
      (single depth seen so.0 part so.2.0.kind so.2.0.columns ids.0 ids.1 stands)

  list_stands : (seen : List ℕ) (d : Data) (typed : Typed) → (list_form form depth seen).stands d typed → Stands depth seen typed.kind typed.columns
  unfolding list_form
  list_stands seen d typed so =
      let one = inner_single ELEMENT_ID.now ELEMENT.now seen (Element so.2.0) d so.0 so.1 in
      subst (λ (other : Typed). Stands depth seen other.kind other.columns) (sym so.2.2)
      (record { bound = tt; stretch = one.stretch; fits = subst (AreIn kind.List) (sym one.alone) tt; room = omega arith })

  map_stands : (seen : List ℕ) (d : Data) (typed : Typed) → (map_form form depth seen).stands d typed → Stands depth seen typed.kind typed.columns
  unfolding map_form joined_stretch inner_single
  map_stands seen d typed so =
      let keyed = inner_single KEY_ID.now KEY.now seen Key d so.0 so.1 in
      let valued = inner_single VALUE_ID.now VALUE.now (seen ++ so.0.id ∷ column_ids so.0.columns) (Value so.2.2.0) d so.2.0 so.2.1 in
      let both : parts (after keyed.stretch.tree valued.stretch.tree) ≡ Key ∷ Value so.2.2.0 ∷ [] =
      rw (parts-after keyed.stretch.tree valued.stretch.tree, keyed.alone, valued.alone) refl in
      subst (λ (other : Typed). Stands depth seen other.kind other.columns) (sym so.2.2.2)
      (record {
        bound = tt;
        stretch = joined_stretch depth seen (inner_columns depth Key so.0) (inner_columns depth (Value so.2.2.0) so.2.0) keyed.stretch valued.stretch;
        fits = subst (AreIn kind.Map) (sym both) tt;
        room = omega arith;
      })

  -- one more field
  field_more : (seen : List ℕ) (made : List Column) (d : Data) (more : List Column) → Fields depth seen made
      → (struct_field form depth (seen ++ column_ids made) made).stands d more → Fields depth seen (made ++ more)
  unfolding struct_field joined_stretch
  field_more seen made d more before so =
      let given = so.2.0 in
      let named = so.2.2.0 in
      let part : Part = Field named so.2.2.2.2.0 so.2.2.2.2.2.2.0 in
      let typed = so.2.2.2.2.2.0 in
      let ids = fresh_within ID.now (seen ++ column_ids made) d given so.2.1 in
      let new = neither (length named == 0) (is_name_among depth named made) so.2.2.2.1 in
      let stands = deeper ((seen ++ column_ids made) ++ given ∷ []) so.2.2.2.2.2.1.0 typed so.2.2.2.2.2.1.2 in
      let one = single depth (seen ++ column_ids made) given part typed.kind typed.columns ids.0 ids.1 stands in
      let tree = before.stretch.tree in
      let told : is_name_among depth named (listed tree) ≡ false = subst (λ columns. is_name_among depth named columns ≡ false) before.stretch.list new.1 in
      let unnamed : list_any (is_named named) (parts tree) ≡ false = sym (named-parts depth named tree before.stretch.stand) ∙ told in
      let both : parts (after tree one.stretch.tree) ≡ parts tree ++ part ∷ [] = rw (parts-after tree one.stretch.tree, one.alone) refl in
      subst (λ other. Fields depth seen (made ++ other)) (sym so.2.2.2.2.2.2.2)
      (record {
        stretch = joined_stretch depth seen made (record { depth = depth; id = given; part = part; kind = typed.kind } ∷ typed.columns) before.stretch one.stretch;
        fields = subst AreFields (sym both) (AreFields-push (parts tree) named so.2.2.2.2.0 so.2.2.2.2.2.2.0 before.fields (filled_name named new.0) unnamed);
      })

  fields_all : (seen : List ℕ) (made : List Column) (ds : Items) (all : List Column) → Fields depth seen made
      → AreChained (λ beside. (next_field form depth seen beside).stands) made ds all → Fields depth seen all
  fields_all seen made no_items all before so = subst (Fields depth seen) (sym so) before
  fields_all seen made (item d ds) all before so =
      fields_all seen (made ++ so.0) ds all (field_more seen made d so.0 before so.1) so.2

  fields_stand : (seen : List ℕ) (d : Data) (columns : List Column) → (struct_fields form depth seen).stands d columns → Fields depth seen columns
  unfolding struct_fields
  fields_stand seen d columns so = fields_all seen [] so.0 columns (empty_fields depth seen) so.2

  struct_stands : (seen : List ℕ) (d : Data) (typed : Typed) → (struct_form form depth seen).stands d typed → Stands depth seen typed.kind typed.columns
  unfolding struct_form
  struct_stands seen d typed so =
      let fields = fields_stand seen so.1.0 so.0 so.1.2 in
      subst (λ (other : Typed). Stands depth seen other.kind other.columns) (sym so.2)
      (record { bound = tt; stretch = fields.stretch; fits = fields.fields; room = omega arith })

  of_nested : (found : Nested) (seen : List ℕ) (d : Data) (typed : Typed) → (form_of form found depth seen).stands d typed → Stands depth seen typed.kind typed.columns
  of_nested nested.Struct = struct_stands
  of_nested nested.List = list_stands
  of_nested nested.Map = map_stands

  nested_stands : (seen : List ℕ) (d : Data) (typed : Typed) → (nested_form form depth seen).stands d typed → Stands depth seen typed.kind typed.columns
  unfolding nested_form
  nested_stands seen d typed so = of_nested so.2.0 seen d typed so.2.2

kind_stands : (left depth : ℕ) (seen : List ℕ) (d : Data) (typed : Typed) → depth + left ≤ 33 → (kind_form left depth seen).stands d typed → Stands depth seen typed.kind typed.columns
unfolding kind_form
kind_stands zero depth seen d typed within so = plain_stands depth seen d typed (omega arith) so
kind_stands (suc left) depth seen d typed within so =
    by_choice (is_some (as_str d)) (plain_stands depth seen d typed (omega arith))
    (nested_stands (kind_form left) depth (omega arith) (λ other_seen other_d other_typed other_so. kind_stands left (depth + 1) other_seen other_d other_typed (omega arith) other_so) seen d typed)
    so

-- a schema that is read is of its form
pub schema_formed : (d : Data) (value : Schema) → schema.stands d value → IsSchema value
unfolding schema columns_form
schema_formed d value so =
    let columns = so.2.2.2.2.0 in
    let ids = unwrap_or so.2.2.2.0 [] in
    let fields = fields_stand (kind_form 32) 0 (omega arith) (λ seen other typed stands. kind_stands 32 1 seen other typed (omega arith) stands) [] so.2.2.2.2.1.0 columns so.2.2.2.2.1.2 in
    subst IsSchema (sym so.2.2.2.2.2.2)
    (record {
      id = lit≤ tt;
      columns = fields.stretch.bounded;
      nested = record { nested = fields.stretch.tree; list = fields.stretch.list; fields = fields.fields; stand = fields.stretch.stand };
      differ = fields.stretch.fresh (nobody nat_eq);
      identified = AllPass-from_list_all (has_field columns) ids so.2.2.2.2.2.1;
    })
