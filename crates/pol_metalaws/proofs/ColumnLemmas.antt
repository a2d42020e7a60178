-- Printed columns are read as the same.
use Rattle.std.proofs.Common.{◌≡◌, ◌≢◌, ◌≤◌, ℕ, zero, suc, ◌+◌, ◌==◌, ◌&&◌, ◌||◌, Bool, true, false, length, nat_eq, List, [], ◌∷◌, ◌++◌, map, All, filter_map, Option, None, Some, refl, sym, ap, subst, ◌∙◌, append_assoc, add-one, arith, inl}
use Rattle.std.specs.List.{AllByRecursion, IsDistinct, list_any}
use Rattle.std.specs.Str.{bytes_eq}
use Rattle.std.proofs.lemmas.Bool.Decides.{nat_tests}
use Rattle.std.proofs.lemmas.List.{append-nil, map-append}
use Rattle.std.proofs.lemmas.List.Elements.{All-head, All-tail, filter_map-append}
use Rattle.std.proofs.lemmas.List.Folds.{list_any-append}
use Rattle.serde_json.specs.Data.{Data, string}
use Rattle.serde_json.specs.Find.{get}
use Rattle.serde_json.specs.View.{items_of}
use Rattle.pol_readers.specs.Forms.{one_of, text}
use Rattle.pol_meta.specs.Columns.{AreFields, AreIn, Columns, StandAt, column_ids, is_field, listed, name_of, nest, none, parts}
use Rattle.pol_meta.specs.Valid.{IsColumn, IsColumnId, IsKind, levels}
use Rattle.pol_meta.specs.declared.column.Column.{Column}
use Rattle.pol_meta.specs.declared.column.Kind.{Kind}
use Rattle.pol_meta.specs.declared.column.Kind.TheVariants as kind
use Rattle.pol_meta.specs.declared.column.Part.{Part}
use Rattle.pol_meta.specs.declared.column.Part.TheVariants.{Field, Element, Key, Value}
use Rattle.pol_metajson.specs.Chain.{AreChained}
use Rattle.pol_metajson.specs.Kind.{kind_of}
use Rattle.pol_metajson.specs.Schema.{fresh_id, inner_form, is_name_among, is_named, is_new_name, is_seen, kind_form, list_form, map_form, nested_form, nested_kind, next_field, plain_form, struct_field, struct_fields, struct_form}
use Rattle.pol_metakeys.specs.declared.keys.TheConstants.{ELEMENT, ELEMENT_ID, ID, KEY, KEY_ID, VALUE, VALUE_ID}
use Rattle.pol_metajson.proofs.ColumnsLemmas.{named-parts}
use Rattle.pol_metaprint.specs.Columns.{field_json, kind_json, list_of, map_of, part_json, struct_json}
use Rattle.pol_metaprint.specs.Json.{list_json, number_json}
use Rattle.pol_metaprint.specs.Texts.{kind_text}
use Rattle.pol_metalaws.proofs.ObjectLemmas as objects
use Rattle.pol_metalaws.proofs.TextLemmas.{decimal_is_read, fixed_is_read}
use Rattle.pol_metalaws.proofs.TreeLemmas.{trees_in}

-- what differs from all items differs from those before it
either_false : (a b : Bool) → a ≡ false → b ≡ false → (a || b) ≡ false
either_false a b first second = rw (first, second) refl

at_middle : {A : Type 0} (P : A → Type 0) (xs : List A) (y : A) (ys : List A) → AllByRecursion P (xs ++ y ∷ ys) → P y
at_middle P [] y ys all = all.0
at_middle P (x ∷ xs) y ys all = at_middle P xs y ys all.1

pub new_after : {A : Type 0} (same : A → A → Bool) (xs : List A) (y : A) (ys : List A)
    → IsDistinct same (xs ++ y ∷ ys) → list_any (λ x. same x y) xs ≡ false
unfolding IsDistinct
new_after same [] y ys distinct = refl
new_after same (x ∷ xs) y ys distinct =
    either_false (same x y) (list_any (λ other. same other y) xs)
    (at_middle (λ other. same x other ≡ false) xs y ys distinct.0) (new_after same xs y ys distinct.1)

first_all : {A : Type 0} (P : A → Type 0) (xs ys : List A) → AllByRecursion P (xs ++ ys) → AllByRecursion P xs
first_all P [] ys all = tt
first_all P (x ∷ xs) ys all = (all.0, first_all P xs ys all.1)

last_all : {A : Type 0} (P : A → Type 0) (xs ys : List A) → AllByRecursion P (xs ++ ys) → AllByRecursion P ys
last_all P [] ys all = all
last_all P (x ∷ xs) ys all = last_all P xs ys all.1

first_distinct : {A : Type 0} (same : A → A → Bool) (xs ys : List A) → IsDistinct same (xs ++ ys) → IsDistinct same xs
unfolding IsDistinct
first_distinct same [] ys distinct = tt
first_distinct same (x ∷ xs) ys distinct = (
  first_all (λ other. same x other ≡ false) xs ys distinct.0,
  first_distinct same xs ys distinct.1,
)

pub by_recursion : {A : Type 0} (P : A → Type 0) (xs : List A) → All P xs → AllByRecursion P xs
by_recursion P [] all = tt
by_recursion P (x ∷ xs) all = (All-head P x xs all, by_recursion P xs (All-tail P x xs all))

-- a type and the columns in it, after columns that have the ids
pub record Fits (depth : ℕ) (seen : List ℕ) (found : Kind) (xs : Columns) : Type 0 where
  pub bound : IsKind found
  pub inside : AreIn found (parts xs)
  pub stand : StandAt depth xs
  pub good : AllByRecursion IsColumn (listed xs)
  pub distinct : IsDistinct nat_eq (seen ++ column_ids (listed xs))
  pub room : depth + levels found ≤ 33

-- a type without columns
word_read : (left depth : ℕ) (seen : List ℕ) (found : Kind) → kind_of (kind_text found) ≡ Some found
    → (kind_form left depth seen).stands (string (kind_text found)) (record { kind = found; columns = [] })
unfolding kind_form plain_form
word_read zero depth seen found is = (kind_text found, refl, rw is refl)
word_read (suc left) depth seen found is = (kind_text found, refl, rw is refl)

-- an id that no column before it has
fresh_read : (key : List ℕ) (seen : List ℕ) (id : ℕ) (d : Data) → IsColumnId id → is_seen seen id ≡ false
    → get key d ≡ Some (number_json id) → (fresh_id key seen).stands d id
unfolding fresh_id
fresh_read key seen id d bound new there = (
  id,
  (number_json id, there, objects.up_to 2147483447 id bound),
  (tt, rw new refl, refl),
)

-- the ids of a column and of those in it stand after those before it
ids_after : (seen : List ℕ) (id : ℕ) (inner beside : List ℕ)
    → seen ++ id ∷ (inner ++ beside) ≡ ((seen ++ id ∷ []) ++ inner) ++ beside
ids_after seen id inner beside =
    sym (append_assoc (seen ++ id ∷ []) inner beside ∙ append_assoc seen (id ∷ []) (inner ++ beside))

-- one column and those in it, before others
pub record Stands (depth : ℕ) (seen : List ℕ) (column : Column) (inner beside : Columns) : Type 0 where
  pub here : column.depth ≡ depth
  pub bound : IsColumnId column.id
  pub new : is_seen seen column.id ≡ false
  pub typed : Fits (depth + 1) (seen ++ column.id ∷ []) column.kind inner
  pub after : IsDistinct nat_eq (((seen ++ column.id ∷ []) ++ column_ids (listed inner)) ++ column_ids (listed beside))

stands_first : (depth : ℕ) (seen : List ℕ) (column : Column) (inner beside : Columns)
    → StandAt depth (nest column inner beside)
    → AllByRecursion IsColumn (listed (nest column inner beside))
    → IsDistinct nat_eq (seen ++ column_ids (listed (nest column inner beside)))
    → Stands depth seen column inner beside
stands_first depth seen column inner beside stand good distinct =
    let ids : column_ids (listed inner ++ listed beside) ≡ column_ids (listed inner) ++ column_ids (listed beside) =
    map-append (λ (other : Column). other.id) (listed inner) (listed beside) in
    let told : IsDistinct nat_eq (seen ++ column.id ∷ (column_ids (listed inner) ++ column_ids (listed beside))) =
    subst (λ others. IsDistinct nat_eq (seen ++ column.id ∷ others)) ids distinct in
    let after : IsDistinct nat_eq (((seen ++ column.id ∷ []) ++ column_ids (listed inner)) ++ column_ids
    (listed beside)) =
    subst (IsDistinct nat_eq) (ids_after seen column.id (column_ids (listed inner)) (column_ids (listed beside)))
    told in
    let shallow : column.depth + levels column.kind ≤ 32 = good.0.depth in
    let place : column.depth ≡ depth = stand.0 in
    record {
      here = stand.0;
      bound = good.0.id;
      new = new_after nat_eq seen column.id (column_ids (listed inner) ++ column_ids (listed beside)) told;
      typed = record {
        bound = good.0.kind;
        inside = stand.1;
        stand = subst (λ place. StandAt place inner) (sym (add-one depth)) stand.2;
        good = first_all IsColumn (listed inner) (listed beside) good.1;
        distinct = first_distinct nat_eq ((seen ++ column.id ∷ []) ++ column_ids (listed inner))
            (column_ids (listed beside)) after;
        room = omega arith;
      };
      after = after;
    }

-- names of fields
names_of_parts : (name : List ℕ) (chosen : List Part)
    → list_any (λ other. bytes_eq other name) (filter_map name_of chosen) ≡ list_any (is_named name) chosen
names_of_parts name [] = refl
names_of_parts name (Field other needed said ∷ chosen) = ap (λ rest. bytes_eq other name || rest)
    (names_of_parts name chosen)
names_of_parts name (Element needed ∷ chosen) = names_of_parts name chosen
names_of_parts name (Key ∷ chosen) = names_of_parts name chosen
names_of_parts name (Value needed ∷ chosen) = names_of_parts name chosen

filled : (name : List ℕ) → name ≢ [] → (length name == 0) ≡ false
filled [] some = absurd (some refl)
filled (byte ∷ bytes) some = grind (arith, nat_tests)

-- the names of columns that stand beside each other, with one more
both_or : (a b c d : Bool) → a ≡ c → b ≡ d → (a || b) ≡ (c || d)
both_or a b c d first second = rw (first, second) refl

names_more : (depth : ℕ) (made : List Column) (chosen : List Part) (column : Column) (inner : Columns)
    → StandAt depth (nest column inner none)
    → ((name : List ℕ) → is_name_among depth name made ≡ list_any (is_named name) chosen)
    → (name : List ℕ)
    → is_name_among depth name (made ++ column ∷ listed inner) ≡ list_any (is_named name) (chosen ++ column.part ∷ [])
names_more depth made chosen column inner stand known name =
    let alone : is_name_among depth name (column ∷ listed inner) ≡ list_any (is_named name) (column.part ∷ []) =
    subst (λ others. is_name_among depth name (column ∷ others) ≡ list_any (is_named name) (column.part ∷ []))
    (append-nil (listed inner))
    (named-parts depth name (nest column inner none) stand) in
    list_any-append (λ (other : Column). other.depth == depth && is_named name other.part) made (column ∷ listed inner)
    ∙ both_or (is_name_among depth name made) (is_name_among depth name (column ∷ listed inner))
    (list_any (is_named name) chosen) (list_any (is_named name) (column.part ∷ [])) (known name) alone
    ∙ sym (list_any-append (is_named name) chosen (column.part ∷ []))

names_after : (P : List ℕ → Type 0) (part : Part) (others : List Part)
    → AllByRecursion P (filter_map name_of (part ∷ others)) → AllByRecursion P (filter_map name_of others)
names_after P (Field name needed said) others all = all.1
names_after P (Element needed) others all = all
names_after P Key others all = all
names_after P (Value needed) others all = all

ids_more : (seen : List ℕ) (made : List Column) (column : Column) (inner : List Column)
    → seen ++ column_ids (made ++ column ∷ inner) ≡ ((seen ++ column_ids made) ++ column.id ∷ []) ++ column_ids inner
ids_more seen made column inner =
    ap (λ ids. seen ++ ids) (map-append (λ (other : Column). other.id) made (column ∷ inner))
    ∙ sym (append_assoc (seen ++ column_ids made) (column.id ∷ []) (column_ids inner) ∙ append_assoc seen
    (column_ids made) (column.id ∷ column_ids inner))

-- where types one deeper are read, so are columns
module _ (left depth : ℕ) (deeper : (seen : List ℕ) (found : Kind) (xs : Columns) → Fits (depth + 1) seen found xs
    → (kind_form left (depth + 1) seen).stands (kind_json found (trees_in xs))
    (record { kind = found; columns = listed xs })) where
  field_read : (seen : List ℕ) (made : List Column) (id : ℕ) (name : List ℕ) (required : Bool)
      (doc : Option (List ℕ)) (found : Kind) (inner : Columns)
      → IsColumnId id → is_seen seen id ≡ false → is_new_name depth name made ≡ true
      → Fits (depth + 1) (seen ++ id ∷ []) found inner
      → (struct_field (kind_form left) depth seen made).stands
      (part_json (Field name required doc) id (kind_json found (trees_in inner)))
      (record { depth = depth; id = id; part = Field name required doc; kind = found } ∷ listed inner)
  unfolding struct_field
  field_read seen made id name required None found inner bound new named fits = (
    tt,
    (_, refl),
    (
      id,
      fresh_read ID.now seen id _ bound new refl,
      (
        name,
        (_, refl, refl),
        (
          tt,
          named,
          (
            required,
            (_, refl, refl),
            (
              record { kind = found; columns = listed inner },
              (_, refl, deeper (seen ++ id ∷ []) found inner fits),
              (None, inl refl, refl),
            ),
          ),
        ),
      ),
    ),
  )
  field_read seen made id name required (Some doc) found inner bound new named fits = (
    tt,
    (_, refl),
    (
      id,
      fresh_read ID.now seen id _ bound new refl,
      (
        name,
        (_, refl, refl),
        (
          tt,
          named,
          (
            required,
            (_, refl, refl),
            (
              record { kind = found; columns = listed inner },
              (_, refl, deeper (seen ++ id ∷ []) found inner fits),
              (Some doc, (string doc, refl, (λ e. cc), refl), refl),
            ),
          ),
        ),
      ),
    ),
  )

  -- a field of a struct, after those beside it
  field_and_more : (seen : List ℕ) (made : List Column) (chosen : List Part) (id : ℕ) (part : Part) (found : Kind)
      (inner beside : Columns)
      → ((name : List ℕ) → is_name_among depth name made ≡ list_any (is_named name) chosen)
      → is_field part ≡ true → AllByRecursion (λ name. name ≢ []) (filter_map name_of (part ∷ parts beside))
      → IsDistinct bytes_eq (filter_map name_of (chosen ++ part ∷ parts beside))
      → is_seen (seen ++ column_ids made) id ≡ false → IsColumnId id
      → Fits (depth + 1) ((seen ++ column_ids made) ++ id ∷ []) found inner
      → (struct_field (kind_form left) depth (seen ++ column_ids made) made).stands
      (part_json part id (kind_json found (trees_in inner)))
      (record { depth = depth; id = id; part = part; kind = found } ∷ listed inner)
  field_and_more seen made chosen id (Field name required doc) found inner beside known field some differ new bound
      fits =
      let among : filter_map name_of (chosen ++ Field name required doc ∷ parts beside) ≡ filter_map name_of chosen
      ++ name ∷ filter_map name_of (parts beside) =
      filter_map-append name_of chosen (Field name required doc ∷ parts beside) in
      let told : list_any (λ other. bytes_eq other name) (filter_map name_of chosen) ≡ false =
      new_after bytes_eq (filter_map name_of chosen) name (filter_map name_of (parts beside))
      (subst (IsDistinct bytes_eq) among differ) in
      let unnamed : is_name_among depth name made ≡ false = known name ∙ sym (names_of_parts name chosen) ∙ told in
      let named : is_new_name depth name made ≡ true = rw (filled name some.0, unnamed) refl in
      field_read (seen ++ column_ids made) made id name required doc found inner bound new named fits
  field_and_more seen made chosen id (Element needed) found inner beside known field some differ new bound fits =
      absurd (cc)
  field_and_more seen made chosen id Key found inner beside known field some differ new bound fits = absurd (cc)
  field_and_more seen made chosen id (Value needed) found inner beside known field some differ new bound fits =
      absurd (cc)

  -- the fields of a struct, after those beside them
  fields_read : (seen : List ℕ) (made : List Column) (chosen : List Part) (xs : Columns)
      → ((name : List ℕ) → is_name_among depth name made ≡ list_any (is_named name) chosen)
      → AllByRecursion (λ part. is_field part ≡ true) (parts xs)
      → AllByRecursion (λ name. name ≢ []) (filter_map name_of (parts xs))
      → IsDistinct bytes_eq (filter_map name_of (chosen ++ parts xs)) → StandAt depth xs
      → AllByRecursion IsColumn (listed xs)
      → IsDistinct nat_eq ((seen ++ column_ids made) ++ column_ids (listed xs))
      → AreChained (λ beside. (next_field (kind_form left) depth seen beside).stands) made
      (items_of (map field_json (trees_in xs))) (made ++ listed xs)
  unfolding field_json
  fields_read seen made chosen none known fields some differ stand good distinct = append-nil made
  fields_read seen made chosen (nest column inner beside) known fields some differ stand good distinct =
      let first = stands_first depth (seen ++ column_ids made) column inner beside stand good distinct in
      let more : List Column = column ∷ listed inner in
      let placed : (record { depth = depth; id = column.id; part = column.part; kind = column.kind } ∷ listed inner)
      ≡ more =
      ap (λ (place : ℕ). record { depth = place; id = column.id; part = column.part; kind = column.kind } ∷ listed
      inner) (sym first.here) in
      let here = field_and_more seen made chosen column.id column.part column.kind inner beside known fields.0 some
      differ first.new first.bound first.typed in
      let rest = fields_read seen (made ++ more) (chosen ++ column.part ∷ []) beside
      (names_more depth made chosen column inner (stand.0, stand.1, stand.2, tt) known)
      fields.1
      (names_after (λ name. name ≢ []) column.part (parts beside) some)
      (subst (λ all. IsDistinct bytes_eq (filter_map name_of all))
      (sym (append_assoc chosen (column.part ∷ []) (parts beside))) differ)
      stand.3
      (last_all IsColumn (listed inner) (listed beside) good.1)
      (subst (λ ids. IsDistinct nat_eq (ids ++ column_ids (listed beside)))
      (sym (ids_more seen made column (listed inner))) first.after) in (
        more,
        subst (λ columns. (struct_field (kind_form left) depth (seen ++ column_ids made) made).stands
            (part_json column.part column.id (kind_json column.kind (trees_in inner))) columns) placed here,
        subst (λ all. AreChained (λ others. (next_field (kind_form left) depth seen others).stands) (made ++ more)
            (items_of (map field_json (trees_in beside))) all)
            (append_assoc made more (listed beside)) rest,
      )

  pub fields_of_struct : (seen : List ℕ) (xs : Columns) → AreFields (parts xs) → StandAt depth xs
      → AllByRecursion IsColumn (listed xs)
      → IsDistinct nat_eq (seen ++ column_ids (listed xs))
      → (struct_fields (kind_form left) depth seen).stands (list_json field_json (trees_in xs)) (listed xs)
  unfolding struct_fields
  fields_of_struct seen xs fields stand good distinct = (
    _,
    refl,
    fields_read seen [] [] xs (λ name. refl) (by_recursion (λ part. is_field part ≡ true) (parts xs) fields.fields)
        (by_recursion (λ name. name ≢ []) (filter_map name_of (parts xs)) fields.named) fields.differ stand good
        (subst (λ ids. IsDistinct nat_eq (ids ++ column_ids (listed xs))) (sym (append-nil seen)) distinct),
  )

  struct_read : (seen : List ℕ) (xs : Columns) → Fits depth seen kind.Struct xs
      → (kind_form (suc left) depth seen).stands (struct_json (trees_in xs))
      (record { kind = kind.Struct; columns = listed xs })
  unfolding kind_form nested_form nested_kind one_of text struct_form struct_json
  struct_read seen xs fits = (
    tt,
    (_, refl),
    (
      _,
      (_, refl, nested_kind.exact.sound _ _ refl),
      (listed xs, (_, refl, fields_of_struct seen xs fits.inside fits.stand fits.good fits.distinct), refl),
    ),
  )

  -- the one column at a key
  inner_read : (id_key key : List ℕ) (seen : List ℕ) (id : ℕ) (found : Kind) (inner : Columns) (d : Data)
      → IsColumnId id → is_seen seen id ≡ false
      → Fits (depth + 1) (seen ++ id ∷ []) found inner → get id_key d ≡ Some (number_json id)
      → get key d ≡ Some (kind_json found (trees_in inner))
      → (inner_form (kind_form left) id_key key depth seen).stands d
      (record { id = id; kind = found; columns = listed inner })
  unfolding inner_form
  inner_read id_key key seen id found inner d bound new fits first second = (
    id,
    fresh_read id_key seen id d bound new first,
    (record { kind = found; columns = listed inner }, (_, second, deeper (seen ++ id ∷ []) found inner fits), refl),
  )

  list_read : (seen : List ℕ) (place id : ℕ) (part : Part) (found : Kind) (inner beside : Columns)
      → AreIn kind.List (part ∷ parts beside)
      → Stands depth seen (record { depth = place; id = id; part = part; kind = found }) inner beside
      → (kind_form (suc left) depth seen).stands (list_of
      (trees_in (nest (record { depth = place; id = id; part = part; kind = found }) inner beside)))
      (record {
        kind = kind.List;
        columns = listed (nest
            (record { depth = place; id = id; part = part; kind = found }) inner beside);
      })
  unfolding kind_form nested_form nested_kind one_of text list_form list_of
  list_read seen place id (Element needed) found inner none inside stands = (
    tt,
    (_, refl),
    (
      _,
      (_, refl, nested_kind.exact.sound _ _ refl),
      (
        record { id = id; kind = found; columns = listed inner },
        inner_read ELEMENT_ID.now ELEMENT.now seen id found inner _ stands.bound stands.new stands.typed refl refl,
        (needed, (_, refl, refl), rw (append-nil (listed inner), stands.here) refl),
      ),
    ),
  )
  list_read seen place id (Element needed) found inner (nest column within beside) inside stands = absurd inside
  list_read seen place id (Field name needed said) found inner beside inside stands = absurd inside
  list_read seen place id Key found inner beside inside stands = absurd inside
  list_read seen place id (Value needed) found inner beside inside stands = absurd inside

  map_read : (seen : List ℕ) (place id : ℕ) (part : Part) (found : Kind) (inner : Columns) (next next_id : ℕ)
      (next_part : Part) (next_found : Kind) (next_inner beside : Columns)
      → AreIn kind.Map (part ∷ next_part ∷ parts beside)
      → Stands depth seen (record { depth = place; id = id; part = part; kind = found }) inner
      (nest (record { depth = next; id = next_id; part = next_part; kind = next_found }) next_inner beside)
      → Stands depth (seen ++ id ∷ column_ids (listed inner))
      (record { depth = next; id = next_id; part = next_part; kind = next_found }) next_inner beside
      → (kind_form (suc left) depth seen).stands
      (map_of (trees_in (nest (record { depth = place; id = id; part = part; kind = found }) inner
      (nest (record { depth = next; id = next_id; part = next_part; kind = next_found }) next_inner beside))))
      (record {
        kind = kind.Map;
        columns = listed (nest (record { depth = place; id = id; part = part; kind = found }) inner
            (nest (record { depth = next; id = next_id; part = next_part; kind = next_found }) next_inner beside));
      })
  unfolding kind_form nested_form nested_kind one_of text map_form map_of
  map_read seen place id Key found inner next next_id (Value needed) next_found next_inner none inside first second = (
    tt,
    (_, refl),
    (
      _,
      (_, refl, nested_kind.exact.sound _ _ refl),
      (
        record { id = id; kind = found; columns = listed inner },
        inner_read KEY_ID.now KEY.now seen id found inner _ first.bound first.new first.typed refl refl,
        (
          record { id = next_id; kind = next_found; columns = listed next_inner },
          inner_read VALUE_ID.now VALUE.now (seen ++ id ∷ column_ids (listed inner)) next_id next_found next_inner _
              second.bound second.new second.typed refl refl,
          (needed, (_, refl, refl), rw (append-nil (listed next_inner), first.here, second.here) refl),
        ),
      ),
    ),
  )
  map_read seen place id Key found inner next next_id (Value needed) next_found next_inner
      (nest column within beside) inside first second = absurd inside
  map_read seen place id Key found inner next next_id Key next_found next_inner beside inside first second = absurd
      inside
  map_read seen place id Key found inner next next_id (Element needed) next_found next_inner beside inside first
      second = absurd inside
  map_read seen place id Key found inner next next_id (Field name needed said) next_found next_inner beside inside
      first second = absurd inside
  map_read seen place id (Field name needed said) found inner next next_id next_part next_found next_inner beside
      inside first second = absurd inside
  map_read seen place id (Element needed) found inner next next_id next_part next_found next_inner beside inside
      first second = absurd inside
  map_read seen place id (Value needed) found inner next next_id next_part next_found next_inner beside inside first
      second = absurd inside

  list_kind_read : (seen : List ℕ) (xs : Columns) → Fits depth seen kind.List xs
      → (kind_form (suc left) depth seen).stands (list_of (trees_in xs))
      (record { kind = kind.List; columns = listed xs })
  list_kind_read seen none fits = absurd fits.inside
  list_kind_read seen (nest column inner beside) fits =
      list_read seen column.depth column.id column.part column.kind inner beside fits.inside
      (stands_first depth seen column inner beside fits.stand fits.good fits.distinct)

  map_in_none : (part : Part) → AreIn kind.Map (part ∷ []) → ⊥
  map_in_none (Field name needed said) inside = inside
  map_in_none (Element needed) inside = inside
  map_in_none Key inside = inside
  map_in_none (Value needed) inside = inside

  map_kind_read : (seen : List ℕ) (xs : Columns) → Fits depth seen kind.Map xs
      → (kind_form (suc left) depth seen).stands (map_of (trees_in xs))
      (record { kind = kind.Map; columns = listed xs })
  map_kind_read seen none fits = absurd fits.inside
  map_kind_read seen (nest column inner none) fits = absurd (map_in_none column.part fits.inside)
  map_kind_read seen (nest column inner (nest next within beside)) fits =
      let first = stands_first depth seen column inner (nest next within beside) fits.stand fits.good fits.distinct in
      let after : IsDistinct nat_eq ((seen ++ column.id ∷ column_ids (listed inner)) ++ column_ids
      (listed (nest next within beside))) =
      subst (λ ids. IsDistinct nat_eq (ids ++ column_ids (listed (nest next within beside))))
      (append_assoc seen (column.id ∷ []) (column_ids (listed inner))) first.after in
      let good = last_all IsColumn (listed inner) (listed (nest next within beside)) fits.good.1 in
      map_read seen column.depth column.id column.part column.kind inner next.depth next.id next.part next.kind
      within beside fits.inside first
      (stands_first depth (seen ++ column.id ∷ column_ids (listed inner)) next within beside fits.stand.3 good after)

-- a type in which at most so many others stand in one another
pub kind_read : (left depth : ℕ) (seen : List ℕ) (found : Kind) (xs : Columns) → depth + left ≡ 33
    → Fits depth seen found xs
    → (kind_form left depth seen).stands (kind_json found (trees_in xs)) (record { kind = found; columns = listed xs })
unfolding kind_of
kind_read zero depth seen kind.Struct xs full fits = absurd (omega (arith, fits.room))
kind_read zero depth seen kind.List xs full fits = absurd (omega (arith, fits.room))
kind_read zero depth seen kind.Map xs full fits = absurd (omega (arith, fits.room))
kind_read (suc left) depth seen kind.Struct xs full fits =
    struct_read left depth (λ other found inner inside. kind_read left (depth + 1) other found inner (omega arith)
    inside) seen xs fits
kind_read (suc left) depth seen kind.List xs full fits =
    list_kind_read left depth (λ other found inner inside. kind_read left (depth + 1) other found inner (omega arith)
    inside) seen xs fits
kind_read (suc left) depth seen kind.Map xs full fits =
    map_kind_read left depth (λ other found inner inside. kind_read left (depth + 1) other found inner (omega arith)
    inside) seen xs fits
kind_read left depth seen kind.Boolean none full fits = word_read left depth seen kind.Boolean refl
kind_read left depth seen kind.Boolean (nest column inner beside) full fits = absurd fits.inside
kind_read left depth seen kind.Int none full fits = word_read left depth seen kind.Int refl
kind_read left depth seen kind.Int (nest column inner beside) full fits = absurd fits.inside
kind_read left depth seen kind.Long none full fits = word_read left depth seen kind.Long refl
kind_read left depth seen kind.Long (nest column inner beside) full fits = absurd fits.inside
kind_read left depth seen kind.Float none full fits = word_read left depth seen kind.Float refl
kind_read left depth seen kind.Float (nest column inner beside) full fits = absurd fits.inside
kind_read left depth seen kind.Double none full fits = word_read left depth seen kind.Double refl
kind_read left depth seen kind.Double (nest column inner beside) full fits = absurd fits.inside
kind_read left depth seen kind.Date none full fits = word_read left depth seen kind.Date refl
kind_read left depth seen kind.Date (nest column inner beside) full fits = absurd fits.inside
kind_read left depth seen kind.Time none full fits = word_read left depth seen kind.Time refl
kind_read left depth seen kind.Time (nest column inner beside) full fits = absurd fits.inside
kind_read left depth seen kind.Timestamp none full fits = word_read left depth seen kind.Timestamp refl
kind_read left depth seen kind.Timestamp (nest column inner beside) full fits = absurd fits.inside
kind_read left depth seen kind.Timestamptz none full fits = word_read left depth seen kind.Timestamptz refl
kind_read left depth seen kind.Timestamptz (nest column inner beside) full fits = absurd fits.inside
kind_read left depth seen kind.String none full fits = word_read left depth seen kind.String refl
kind_read left depth seen kind.String (nest column inner beside) full fits = absurd fits.inside
kind_read left depth seen kind.Uuid none full fits = word_read left depth seen kind.Uuid refl
kind_read left depth seen kind.Uuid (nest column inner beside) full fits = absurd fits.inside
kind_read left depth seen kind.Binary none full fits = word_read left depth seen kind.Binary refl
kind_read left depth seen kind.Binary (nest column inner beside) full fits = absurd fits.inside
kind_read left depth seen (kind.Decimal precision scale) none full fits =
    word_read left depth seen (kind.Decimal precision scale) (decimal_is_read precision scale fits.bound)
kind_read left depth seen (kind.Decimal precision scale) (nest column inner beside) full fits = absurd fits.inside
kind_read left depth seen (kind.Fixed length) none full fits = word_read left depth seen (kind.Fixed length)
    (fixed_is_read length fits.bound)
kind_read left depth seen (kind.Fixed length) (nest column inner beside) full fits = absurd fits.inside
