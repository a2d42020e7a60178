-- Columns that stand beside each other, more of which are added at the end.
use Rattle.std.proofs.Common.{◌≡◌, ◌≢◌, ◌<◌, ℕ, suc, Bool, true, false, ◌||◌, ◌&&◌, ◌==◌, List, [], ◌∷◌, ◌++◌, Option, refl, sym, ap, ◌∙◌, append_assoc, arith}
use Rattle.std.specs.List.{AllByRecursion, IsDistinct, filter_map, list_any}
use Rattle.std.specs.Str.{bytes_eq}
use Rattle.std.proofs.lemmas.Bool.Decides.{nat_tests}
use Rattle.std.proofs.lemmas.List.Elements.{All-push, filter_map-append}
use Rattle.std.proofs.lemmas.List.Folds.{list_any-append}
use Rattle.pol_meta.specs.Columns.{AreFields, Columns, StandAt, is_field, listed, name_of, nest, none, parts}
use Rattle.pol_meta.specs.declared.column.Column.{Column}
use Rattle.pol_meta.specs.declared.column.Part.{Part}
use Rattle.pol_meta.specs.declared.column.Part.TheVariants.{Field, Element, Key, Value}
use Rattle.pol_metajson.specs.Schema.{is_name_among, is_named}

-- these, and others after them
abbrev pub after : Columns → Columns → Columns
after none more = more
after (nest first inner beside) more = nest first inner (after beside more)

pub listed-after : (xs ys : Columns) → listed (after xs ys) ≡ listed xs ++ listed ys
listed-after none ys = refl
listed-after (nest first inner beside) ys =
    ap (λ rest. first ∷ (listed inner ++ rest)) (listed-after beside ys)
    ∙ ap (λ rest. first ∷ rest) (sym (append_assoc (listed inner) (listed beside) (listed ys)))

pub parts-after : (xs ys : Columns) → parts (after xs ys) ≡ parts xs ++ parts ys
parts-after none ys = refl
parts-after (nest first inner beside) ys = ap (λ rest. first.part ∷ rest) (parts-after beside ys)

pub StandAt-after : (depth : ℕ) (xs ys : Columns) → StandAt depth xs → StandAt depth ys → StandAt depth (after xs ys)
StandAt-after depth none ys first second = second
StandAt-after depth (nest column inner beside) ys first second =
    (first.0, first.1, first.2, StandAt-after depth beside ys first.3 second)

-- no column deeper than a place has a name there
deeper_unnamed : (depth place : ℕ) (name : List ℕ) (xs : Columns) → depth < place → StandAt place xs → is_name_among depth name (listed xs) ≡ false
deeper_unnamed depth place name none deeper stands = refl
deeper_unnamed depth place name (nest column inner beside) deeper stands =
    let here : (column.depth == depth) ≡ false = grind (arith, nat_tests, stands.0) in
    rw (
      here,
      list_any-append (λ (other : Column). other.depth == depth && is_named name other.part) (listed inner) (listed beside),
      deeper_unnamed depth (suc place) name inner (omega arith) stands.2,
      deeper_unnamed depth place name beside deeper stands.3,
    ) refl

-- a column at a place has a name exactly where a part there has it
pub named-parts : (depth : ℕ) (name : List ℕ) (xs : Columns) → StandAt depth xs → is_name_among depth name (listed xs) ≡ list_any (is_named name) (parts xs)
named-parts depth name none stands = refl
named-parts depth name (nest column inner beside) stands =
    let here : (column.depth == depth) ≡ true = grind (arith, nat_tests, stands.0) in
    rw (
      here,
      list_any-append (λ (other : Column). other.depth == depth && is_named name other.part) (listed inner) (listed beside),
      deeper_unnamed depth (suc depth) name inner (omega arith) stands.2,
      named-parts depth name beside stands.3,
    ) refl

-- a test that no item passes
or_left : (a b : Bool) → (a || b) ≡ false → a ≡ false
or_left true b is = is
or_left false b is = refl

or_right : (a b : Bool) → (a || b) ≡ false → b ≡ false
or_right true b is = absurd (cc)
or_right false b is = is

recursion_push : {A : Type 0} (P : A → Type 0) (xs : List A) (y : A) → AllByRecursion P xs → P y → AllByRecursion P (xs ++ y ∷ [])
recursion_push P [] y all here = (here, tt)
recursion_push P (x ∷ xs) y all here = (all.0, recursion_push P xs y all.1 here)

-- one more item that is as none before it
pub IsDistinct-push : {A : Type 0} (same : A → A → Bool) (xs : List A) (y : A) → IsDistinct same xs → list_any (λ x. same x y) xs ≡ false → IsDistinct same (xs ++ y ∷ [])
unfolding IsDistinct
IsDistinct-push same [] y distinct new = (tt, tt)
IsDistinct-push same (x ∷ xs) y distinct new = (
  recursion_push (λ other. same x other ≡ false) xs y distinct.0 (or_left (same x y) (list_any (λ other. same other y) xs) new),
  IsDistinct-push same xs y distinct.1 (or_right (same x y) (list_any (λ other. same other y) xs) new),
)

named_names : (name : List ℕ) (chosen : List Part) → list_any (λ other. bytes_eq other name) (filter_map name_of chosen) ≡ list_any (is_named name) chosen
named_names name [] = refl
named_names name (Field other needed said ∷ chosen) = ap (λ rest. bytes_eq other name || rest) (named_names name chosen)
named_names name (Element needed ∷ chosen) = named_names name chosen
named_names name (Key ∷ chosen) = named_names name chosen
named_names name (Value needed ∷ chosen) = named_names name chosen

-- one more field, with a name that none before it has
pub AreFields-push : (chosen : List Part) (name : List ℕ) (required : Bool) (doc : Option (List ℕ)) → AreFields chosen → name ≢ [] → list_any (is_named name) chosen ≡ false → AreFields (chosen ++ Field name required doc ∷ [])
AreFields-push chosen name required doc before filled new =
    let pushed : filter_map name_of (chosen ++ Field name required doc ∷ []) ≡ filter_map name_of chosen ++ name ∷ [] =
    filter_map-append name_of chosen (Field name required doc ∷ []) in
    record {
      fields = All-push (λ part. is_field part ≡ true) chosen (Field name required doc) before.fields refl;
      named = rw pushed (All-push (λ other. other ≢ []) (filter_map name_of chosen) name before.named filled);
      differ = rw pushed (IsDistinct-push bytes_eq (filter_map name_of chosen) name before.differ (named_names name chosen ∙ new));
    }
