-- Whether the members of a metadata have ids of their own, and what it names is there, as tests that a reader makes.
use Rattle.std.specs.Prelude.{◌≡◌, ℕ, Bool, true, false, ◌&&◌, nat_eq, List, [], ◌∷◌, codes, All, Contains, Option, Some, None, refl}
use Rattle.std.specs.Cmp.{nat_eq_equiv}
use Rattle.std.specs.Cmp.Lexicographic.{slice_cmp}
use Rattle.std.specs.List.{AllByRecursion, IsDistinct, list_all, list_any}
use Rattle.std.specs.List.Sorted.{IsStrictlySortedBy}
use Rattle.std.specs.Ordering.{is_lt, nat_cmp}
use Rattle.std.specs.declared.cmp.Ordering.{Ordering}
use Rattle.std.specs.declared.cmp.Ordering.TheVariants.{Less, Equal, Greater}
use Rattle.std.proofs.Common.{ap, sym, ◌∙◌}
use Rattle.std.proofs.lemmas.Bool.{and_from, and_parts, eq-eqb, eqb-true}
use Rattle.std.proofs.lemmas.List.Elements.{All-from_recursion, recursion_from_All}
use Rattle.std.proofs.lemmas.Map.Views.{Contains-from_any, list_any-from_Contains}
use Rattle.pol_columnforms.specs.Distinct.{are_distinct, distinct-told, told-distinct}
use Rattle.pol_meta.specs.Columns.{column_ids, has_field}
use Rattle.pol_meta.specs.Valid.{HasOwnIds, NamesMembers, order_ids, schema_ids, snapshot_ids, snapshot_named, spec_ids}
use Rattle.pol_meta.specs.declared.metadata.TableMetadata.{TableMetadata}
use Rattle.pol_meta.specs.declared.reference.NamedRef.{NamedRef}
use Rattle.pol_meta.specs.declared.schema.Schema.{Schema}

-- whether a test passes for each of a list, and whether each is such
module _ {A : Type 0} (test : A → Bool) where
  each_passes : (xs : List A) → list_all test xs ≡ true → AllByRecursion (λ x. test x ≡ true) xs
  each_passes [] all = tt
  each_passes (x ∷ xs) all = let both = and_parts (test x) (list_all test xs) all in (both.0, each_passes xs both.1)

  passes_each : (xs : List A) → AllByRecursion (λ x. test x ≡ true) xs → list_all test xs ≡ true
  passes_each [] all = refl
  passes_each (x ∷ xs) all = and_from (test x) (list_all test xs) all.0 (passes_each xs all.1)

  pub all-told : (xs : List A) → list_all test xs ≡ true → All (λ x. test x ≡ true) xs
  all-told xs all = All-from_recursion (λ x. test x ≡ true) xs (each_passes xs all)

  pub told-all : (xs : List A) → All (λ x. test x ≡ true) xs → list_all test xs ≡ true
  told-all xs all = passes_each xs (recursion_from_All (λ x. test x ≡ true) xs all)

-- an id that is among others
abbrev pub is_among : List ℕ → ℕ → Bool
is_among ids id = list_any (nat_eq id) ids

pub among-told : (ids : List ℕ) (id : ℕ) → is_among ids id ≡ true → Contains ids id
among-told ids id passes = Contains-from_any (λ x y same. eqb-true x y same) id ids passes

pub told-among : (ids : List ℕ) (id : ℕ) → Contains ids id → is_among ids id ≡ true
told-among ids id there = list_any-from_Contains nat_eq_equiv id ids there

-- references whose names rise
abbrev pub is_below : NamedRef → NamedRef → Bool
is_below named later = is_lt (slice_cmp nat_cmp named.name later.name)

abbrev pub names_ascend : List NamedRef → Bool
names_ascend [] = true
names_ascend (named ∷ refs) = list_all (is_below named) refs && names_ascend refs

abbrev pub NamesAscend : List NamedRef → Type 0
NamesAscend refs = IsStrictlySortedBy (λ left right. slice_cmp nat_cmp left.name right.name) refs

less : (order : Ordering) → is_lt order ≡ true → order ≡ Less
less Less is = refl
less Equal is = absurd (cc)
less Greater is = absurd (cc)

all_below : (named : NamedRef) (refs : List NamedRef) → list_all (is_below named) refs ≡ true → AllByRecursion (λ later. slice_cmp nat_cmp named.name later.name ≡ Less) refs
all_below named [] all = tt
all_below named (later ∷ refs) all =
    let both = and_parts (is_below named later) (list_all (is_below named) refs) all in
    (less (slice_cmp nat_cmp named.name later.name) both.0, all_below named refs both.1)

below_all : (named : NamedRef) (refs : List NamedRef) → AllByRecursion (λ later. slice_cmp nat_cmp named.name later.name ≡ Less) refs → list_all (is_below named) refs ≡ true
below_all named [] all = refl
below_all named (later ∷ refs) all =
    ap (λ (o : Ordering). is_lt o && list_all (is_below named) refs) all.0 ∙ below_all named refs all.1

pub ascend-told : (refs : List NamedRef) → names_ascend refs ≡ true → NamesAscend refs
unfolding IsStrictlySortedBy
ascend-told [] test = tt
ascend-told (named ∷ refs) test =
    let both = and_parts (list_all (is_below named) refs) (names_ascend refs) test in
    (all_below named refs both.0, ascend-told refs both.1)

pub told-ascend : (refs : List NamedRef) → NamesAscend refs → names_ascend refs ≡ true
unfolding IsStrictlySortedBy
told-ascend [] ascend = refl
told-ascend (named ∷ refs) ascend =
    ap (λ (b : Bool). b && names_ascend refs) (below_all named refs ascend.0) ∙ told-ascend refs ascend.1

-- a schema: ids of columns that differ, and fields that are named to tell rows apart
pub record HasOwnColumns (schema : Schema) : Type 0 where
  pub differ : IsDistinct nat_eq (column_ids schema.fields)
  pub identified : All (λ id. has_field schema.fields id ≡ true) schema.identifier_field_ids

abbrev pub has_own_columns : Schema → Bool
has_own_columns schema = are_distinct nat_eq (column_ids schema.fields) && list_all (has_field schema.fields) schema.identifier_field_ids

pub columns-told : (schema : Schema) → has_own_columns schema ≡ true → HasOwnColumns schema
columns-told schema passes =
    let both = and_parts (are_distinct nat_eq (column_ids schema.fields)) (list_all (has_field schema.fields) schema.identifier_field_ids) passes in
    record { differ = distinct-told nat_eq_equiv (column_ids schema.fields) both.0; identified = all-told (has_field schema.fields) schema.identifier_field_ids both.1 }

pub told-columns : (schema : Schema) → HasOwnColumns schema → has_own_columns schema ≡ true
told-columns schema right =
    and_from (are_distinct nat_eq (column_ids schema.fields)) (list_all (has_field schema.fields) schema.identifier_field_ids)
    (told-distinct nat_eq_equiv (column_ids schema.fields) right.differ) (told-all (has_field schema.fields) schema.identifier_field_ids right.identified)

-- a metadata: references in order, ids that differ, and what is named is there
pub record IsWhole (meta : TableMetadata) : Type 0 where
  pub ordered : NamesAscend meta.refs
  pub ids : HasOwnIds meta
  pub members : NamesMembers meta

-- the same snapshot, or none
abbrev pub is_same : Option ℕ → Option ℕ → Bool
is_same None None = true
is_same None (Some other) = false
is_same (Some one) None = false
is_same (Some one) (Some other) = nat_eq one other

same-told : (left right : Option ℕ) → is_same left right ≡ true → left ≡ right
same-told None None same = refl
same-told None (Some other) same = absurd (cc)
same-told (Some one) None same = absurd (cc)
same-told (Some one) (Some other) same = ap Some (eqb-true one other same)

self_same : (given : Option ℕ) → is_same given given ≡ true
self_same None = refl
self_same (Some one) = eq-eqb one one refl

told-same : (left right : Option ℕ) → left ≡ right → is_same left right ≡ true
told-same left right is = ap (is_same left) (sym is) ∙ self_same left

abbrev pub has_own_ids : TableMetadata → Bool
has_own_ids meta = are_distinct nat_eq (schema_ids meta.schemas) && (are_distinct nat_eq (spec_ids meta.partition_specs) && (are_distinct nat_eq (order_ids meta.sort_orders) && are_distinct nat_eq (snapshot_ids meta.snapshots)))

own-told : (meta : TableMetadata) → has_own_ids meta ≡ true → HasOwnIds meta
own-told meta passes =
    let one = and_parts (are_distinct nat_eq (schema_ids meta.schemas)) _ passes in
    let two = and_parts (are_distinct nat_eq (spec_ids meta.partition_specs)) _ one.1 in
    let three = and_parts (are_distinct nat_eq (order_ids meta.sort_orders)) _ two.1 in record {
      schemas = distinct-told nat_eq_equiv (schema_ids meta.schemas) one.0;
      specs = distinct-told nat_eq_equiv (spec_ids meta.partition_specs) two.0;
      orders = distinct-told nat_eq_equiv (order_ids meta.sort_orders) three.0;
      snapshots = distinct-told nat_eq_equiv (snapshot_ids meta.snapshots) three.1;
    }

told-own : (meta : TableMetadata) → HasOwnIds meta → has_own_ids meta ≡ true
told-own meta right =
    and_from _ _ (told-distinct nat_eq_equiv (schema_ids meta.schemas) right.schemas)
    (and_from _ _ (told-distinct nat_eq_equiv (spec_ids meta.partition_specs) right.specs)
    (and_from _ _ (told-distinct nat_eq_equiv (order_ids meta.sort_orders) right.orders) (told-distinct nat_eq_equiv (snapshot_ids meta.snapshots) right.snapshots)))

abbrev pub names_snapshot : TableMetadata → NamedRef → Bool
names_snapshot meta named = is_among (snapshot_ids meta.snapshots) named.reference.snapshot_id

abbrev pub names_members : TableMetadata → Bool
names_members meta =
    is_among (schema_ids meta.schemas) meta.current_schema_id
    && (is_among (spec_ids meta.partition_specs) meta.default_spec_id
    && (is_among (order_ids meta.sort_orders) meta.default_sort_order_id
    && (list_all (names_snapshot meta) meta.refs && is_same meta.current_snapshot_id (snapshot_named (codes "main") meta.refs))))

each_named : (meta : TableMetadata) (refs : List NamedRef) → list_all (names_snapshot meta) refs ≡ true → AllByRecursion (λ named. Contains (snapshot_ids meta.snapshots) named.reference.snapshot_id) refs
each_named meta [] all = tt
each_named meta (named ∷ refs) all =
    let both = and_parts (names_snapshot meta named) (list_all (names_snapshot meta) refs) all in
    (among-told (snapshot_ids meta.snapshots) named.reference.snapshot_id both.0, each_named meta refs both.1)

named_each : (meta : TableMetadata) (refs : List NamedRef) → AllByRecursion (λ named. Contains (snapshot_ids meta.snapshots) named.reference.snapshot_id) refs → list_all (names_snapshot meta) refs ≡ true
named_each meta [] all = refl
named_each meta (named ∷ refs) all =
    and_from (names_snapshot meta named) (list_all (names_snapshot meta) refs)
    (told-among (snapshot_ids meta.snapshots) named.reference.snapshot_id all.0) (named_each meta refs all.1)

members-told : (meta : TableMetadata) → names_members meta ≡ true → NamesMembers meta
members-told meta passes =
    let one = and_parts (is_among (schema_ids meta.schemas) meta.current_schema_id) _ passes in
    let two = and_parts (is_among (spec_ids meta.partition_specs) meta.default_spec_id) _ one.1 in
    let three = and_parts (is_among (order_ids meta.sort_orders) meta.default_sort_order_id) _ two.1 in
    let four = and_parts (list_all (names_snapshot meta) meta.refs) _ three.1 in record {
      schema = among-told (schema_ids meta.schemas) meta.current_schema_id one.0;
      spec = among-told (spec_ids meta.partition_specs) meta.default_spec_id two.0;
      order = among-told (order_ids meta.sort_orders) meta.default_sort_order_id three.0;
      refs = All-from_recursion (λ named. Contains (snapshot_ids meta.snapshots) named.reference.snapshot_id) meta.refs (each_named meta meta.refs four.0);
      current = same-told meta.current_snapshot_id (snapshot_named (codes "main") meta.refs) four.1;
    }

told-members : (meta : TableMetadata) → NamesMembers meta → names_members meta ≡ true
told-members meta right =
    and_from _ _ (told-among (schema_ids meta.schemas) meta.current_schema_id right.schema)
    (and_from _ _ (told-among (spec_ids meta.partition_specs) meta.default_spec_id right.spec)
    (and_from _ _ (told-among (order_ids meta.sort_orders) meta.default_sort_order_id right.order)
    (and_from _ _
    (named_each meta meta.refs (recursion_from_All (λ named. Contains (snapshot_ids meta.snapshots) named.reference.snapshot_id) meta.refs right.refs))
    (told-same meta.current_snapshot_id (snapshot_named (codes "main") meta.refs) right.current))))

abbrev pub is_whole : TableMetadata → Bool
is_whole meta = names_ascend meta.refs && (has_own_ids meta && names_members meta)

pub whole-told : (meta : TableMetadata) → is_whole meta ≡ true → IsWhole meta
whole-told meta passes =
    let one = and_parts (names_ascend meta.refs) _ passes in
    let two = and_parts (has_own_ids meta) _ one.1 in
    record { ordered = ascend-told meta.refs one.0; ids = own-told meta two.0; members = members-told meta two.1 }

pub told-whole : (meta : TableMetadata) → IsWhole meta → is_whole meta ≡ true
told-whole meta right =
    and_from _ _ (told-ascend meta.refs right.ordered) (and_from _ _ (told-own meta right.ids) (told-members meta right.members))
