-- What updates of partition specs keep.
use Rattle.std.proofs.Common.{◌≡◌, ◌≤◌, ◌+◌, ◌||◌, ℕ, Bool, true, false, List, [], ◌∷◌, ◌++◌, filter, not, Option, None, Some, Result, Ok, Err, IfSome, is_none, unwrap_or, if◌then◌else◌, refl, subst, arith, nat_eq}
use Rattle.std.specs.List.{All, Contains, find, list_all, list_any}
use Rattle.std.specs.Option.{option_map, option_or}
use Rattle.std.proofs.lemmas.Bool.{ltb-false}
use Rattle.std.proofs.lemmas.List.Elements.{All-cons, All-head, All-map, All-nil, All-tail, All-weaker}
use Rattle.pol_meta.specs.Columns.{has_column}
use Rattle.pol_meta.specs.Creation.{bound, field_ids, highest, is_same_name, stands_twice}
use Rattle.pol_meta.specs.Valid.{IsFieldId, IsId, IsPartitionField, IsPartitionSpec, IsUnboundField, spec_ids}
use Rattle.pol_meta.specs.declared.column.Column.{Column}
use Rattle.pol_meta.specs.declared.partition.PartitionField.{PartitionField}
use Rattle.pol_meta.specs.declared.partition.PartitionSpec.{PartitionSpec}
use Rattle.pol_meta.specs.declared.partition.UnboundField.{UnboundField}
use Rattle.pol_meta.specs.declared.partition.UnboundSpec.{UnboundSpec}
use Rattle.pol_meta.specs.declared.why.Why.{Why}
use Rattle.pol_meta.specs.declared.why.Why.TheVariants.{FieldTwice, IdsUsedUp, InUse, NoSuchField}
use Rattle.pol_drafts.specs.Drafts.{current_columns}
use Rattle.pol_drafts.specs.Ids.{chosen, given, has_id, is_above, next_id, still_last}
use Rattle.pol_drafts.specs.Partitions.{add_spec, added_spec, asked_fields, bound_fields, earlier_id, ids_of, is_as, is_spec_of, judged_fields, known_id, noted_spec, remove_specs, same_spec_id, set_default_spec, with_default_spec, with_spec, without_specs}
use Rattle.pol_drafts.specs.declared.draft.Draft.{Draft}
use Rattle.pol_drafts.specs.declared.member.MemberId.{MemberId}
use Rattle.pol_updatelaws.proofs.ChainLemmas.{goes_on, passes_rule}
use Rattle.pol_updatelaws.proofs.MemberLemmas.{MembersAre, found_id, found_part, given_is, highest_within, least_highest, members_left, members_named, members_noted, members_pushed, named_there, next_is_new}

pub record SpecsAre (specs : List PartitionSpec) (now top : ℕ) (last : Option ℕ) : Type 0 where
  pub members : MembersAre IsPartitionSpec (λ spec. spec.spec_id) specs now last
  pub least : 999 ≤ top
  pub most : IsId top

-- the ids of fields that are asked for are at least 1000
or_some : (first second : Option ℕ) (P : ℕ → Type 0) → IfSome first P → IfSome second P → IfSome (option_or first second) P
or_some None second P one other = other
or_some (Some id) second P one other = one

earlier_form : (wanted : UnboundField) (specs : List PartitionSpec) → All IsPartitionSpec specs
    → IfSome (earlier_id wanted specs) IsFieldId
earlier_form wanted [] forms = tt
earlier_form wanted (spec ∷ specs) forms =
    let form = All-head IsPartitionSpec spec specs forms in
    or_some (option_map (λ field. field.field_id) (find (is_as wanted) spec.fields)) (earlier_id wanted specs) IsFieldId
    (found_part (λ field. field.field_id) (is_as wanted) IsFieldId spec.fields
    (All-weaker IsPartitionField (λ field. IsFieldId field.field_id) (λ field field_form. field_form.id) spec.fields form.fields))
    (earlier_form wanted specs (All-tail IsPartitionSpec spec specs forms))

id_least : (known : Option ℕ) (next : ℕ) → IfSome known IsFieldId → 1000 ≤ next → 1000 ≤ unwrap_or known next
id_least None next form least = least
id_least (Some id) next form least = form.least

next_least : (known : Option ℕ) (next : ℕ) → 1000 ≤ next → 1000 ≤ (if is_none known then next + 1 else next)
next_least None next least = omega arith
next_least (Some id) next least = least

ids_least : (specs : List PartitionSpec) (next : ℕ) (fields : List UnboundField) → All IsPartitionSpec specs → 1000 ≤ next
    → All IsUnboundField fields → All (λ id. 1000 ≤ id) (ids_of specs next fields)
ids_least specs next [] spec_forms least forms = All-nil (λ id. 1000 ≤ id)
ids_least specs next (field ∷ fields) spec_forms least forms =
    let known = known_id specs field in
    let form = All-head IsUnboundField field fields forms in
    let known_form : IfSome (known_id specs field) IsFieldId =
    or_some field.field_id (earlier_id field specs) IsFieldId form.id (earlier_form field specs spec_forms) in
    All-cons (λ id. 1000 ≤ id) (unwrap_or known next) (ids_of specs (if is_none known then next + 1 else next) fields)
    (id_least known next known_form least)
    (ids_least specs (if is_none known then next + 1 else next) fields spec_forms (next_least known next least)
    (All-tail IsUnboundField field fields forms))

neither : (a b : Bool) → (a || b) ≡ false → (a ≡ false) × (b ≡ false)
neither false b is = (refl, is)
neither true b is = absurd (cc)

bound_forms : (ids : List ℕ) (fields : List UnboundField) → All (λ id. 1000 ≤ id) ids → list_any is_above ids ≡ false
    → All IsUnboundField fields → All IsPartitionField (bound_fields ids fields)
bound_forms [] fields least within forms = All-nil IsPartitionField
bound_forms (id ∷ ids) [] least within forms = All-nil IsPartitionField
bound_forms (id ∷ ids) (field ∷ fields) least within forms =
    let form = All-head IsUnboundField field fields forms in
    let here = neither (is_above id) (list_any is_above ids) within in
    All-cons IsPartitionField (bound id field) (bound_fields ids fields)
    (record {
      source = form.source;
      id = record { least = All-head (λ other. 1000 ≤ other) id ids least; most = ltb-false 2147483647 id here.0 };
      transform = form.transform;
    })
    (bound_forms ids fields (All-tail (λ other. 1000 ≤ other) id ids least) here.1 (All-tail IsUnboundField field fields forms))

-- the fields of a spec that is asked for, where they may be those of one
judged_are : (columns : List Column) (ids : List ℕ) (fields : List UnboundField) (made : List PartitionField)
    → judged_fields columns ids fields ≡ Ok made → (list_any is_above ids ≡ false) × (bound_fields ids fields ≡ made)
judged_are columns ids fields made told =
    let sources = passes_rule (not (list_all (λ field. has_column columns field.source_id) fields)) NoSuchField
    (if stands_twice nat_eq ids || stands_twice is_same_name fields then Err FieldTwice
    else if list_any is_above ids then Err IdsUsedUp else Ok (bound_fields ids fields)) made told in
    let once = passes_rule (stands_twice nat_eq ids || stands_twice is_same_name fields) FieldTwice
    (if list_any is_above ids then Err IdsUsedUp else Ok (bound_fields ids fields)) made sources.1 in
    let within = passes_rule (list_any is_above ids) IdsUsedUp (Ok (bound_fields ids fields)) made once.1 in
    let step : ◌≡◌ {A = Result (List PartitionField) Why} (Ok (bound_fields ids fields)) (Ok made) = within.1 in
    let same : bound_fields ids fields ≡ made = cc in
    (within.0, same)

pub asked_are : (spec : UnboundSpec) (d : Draft) (made : List PartitionField) → asked_fields spec d ≡ Ok made
    → bound_fields (ids_of d.meta.partition_specs (d.meta.last_partition_id + 1) spec.fields) spec.fields ≡ made
unfolding asked_fields
asked_are spec d made told =
    (judged_are (current_columns d.meta) (ids_of d.meta.partition_specs (d.meta.last_partition_id + 1) spec.fields) spec.fields
    made told).1

pub asked_forms : (spec : UnboundSpec) (d : Draft) (made : List PartitionField) → asked_fields spec d ≡ Ok made
    → All IsPartitionSpec d.meta.partition_specs → 999 ≤ d.meta.last_partition_id → All IsUnboundField spec.fields
    → All IsPartitionField made
unfolding asked_fields
asked_forms spec d made told spec_forms least forms =
    let ids = ids_of d.meta.partition_specs (d.meta.last_partition_id + 1) spec.fields in
    let judged = judged_are (current_columns d.meta) ids spec.fields made told in
    subst (All IsPartitionField) judged.1
    (bound_forms ids spec.fields
    (ids_least d.meta.partition_specs (d.meta.last_partition_id + 1) spec.fields spec_forms (omega arith) forms) judged.0 forms)

-- a spec that is added is one that is there, or a new one
added_cases : (P : Draft → Type 0) (found : Option ℕ) (fields : List PartitionField) (d next : Draft)
    → same_spec_id fields d.meta.partition_specs ≡ found → added_spec found fields d ≡ Ok next
    → ((id : ℕ) → Contains (spec_ids d.meta.partition_specs) id → P (noted_spec id fields d))
    → ((id : ℕ) → next_id (spec_ids d.meta.partition_specs) ≡ id → IsId id → P (with_spec id fields d)) → P next
added_cases P (Some id) fields d next is told there new =
    let same : noted_spec id fields d ≡ next = cc in
    subst P same (there id (found_id (λ spec. spec.spec_id) (is_spec_of fields) d.meta.partition_specs id is))
added_cases P None fields d next is told there new =
    let step = goes_on (given (next_id (spec_ids d.meta.partition_specs))) (λ id. Ok (with_spec id fields d)) next told in
    let id = given_is (next_id (spec_ids d.meta.partition_specs)) step.0 step.1 in
    let made : ◌≡◌ {A = Result Draft Why} (Ok (with_spec step.0 fields d)) (Ok next) = step.2 in
    let same : with_spec step.0 fields d ≡ next = cc in
    subst P same (new step.0 id.0 id.1)

pub add_spec_cases : (P : Draft → Type 0) (spec : UnboundSpec) (d next : Draft) → add_spec spec d ≡ Ok next
    → ((fields : List PartitionField) (id : ℕ) → asked_fields spec d ≡ Ok fields
    → Contains (spec_ids d.meta.partition_specs) id → P (noted_spec id fields d))
    → ((fields : List PartitionField) (id : ℕ) → asked_fields spec d ≡ Ok fields
    → next_id (spec_ids d.meta.partition_specs) ≡ id → IsId id → P (with_spec id fields d)) → P next
unfolding add_spec
add_spec_cases P spec d next told there new =
    let step = goes_on (asked_fields spec d) (λ fields. added_spec (same_spec_id fields d.meta.partition_specs) fields d) next told in
    added_cases P (same_spec_id step.0 d.meta.partition_specs) step.0 d next refl step.2
    (λ id. there step.0 id step.1) (λ id. new step.0 id step.1)

pub set_default_spec_cases : (P : Draft → Type 0) (member : MemberId) (d next : Draft)
    → set_default_spec member d ≡ Ok next
    → ((id : ℕ) → chosen member d.last_spec (spec_ids d.meta.partition_specs) ≡ Ok id → P (with_default_spec id d)) → P next
unfolding set_default_spec
set_default_spec_cases P member d next told named =
    let step = goes_on (chosen member d.last_spec (spec_ids d.meta.partition_specs)) (λ id. Ok (with_default_spec id d)) next told in
    let made : ◌≡◌ {A = Result Draft Why} (Ok (with_default_spec step.0 d)) (Ok next) = step.2 in
    let same : with_default_spec step.0 d ≡ next = cc in
    subst P same (named step.0 step.1)

pub remove_specs_cases : (P : Draft → Type 0) (ids : List ℕ) (d next : Draft) → remove_specs ids d ≡ Ok next
    → (has_id d.meta.default_spec_id ids ≡ false → P (without_specs ids d)) → P next
unfolding remove_specs
remove_specs_cases P ids d next told left =
    let step = passes_rule (has_id d.meta.default_spec_id ids) InUse (Ok (without_specs ids d)) next told in
    let made : ◌≡◌ {A = Result Draft Why} (Ok (without_specs ids d)) (Ok next) = step.1 in
    let same : without_specs ids d ≡ next = cc in
    subst P same (left step.0)

-- the highest id of a partition field stays one
top_kept : (top : ℕ) (fields : List PartitionField) → IsId top → All IsPartitionField fields
    → IsId (highest top (field_ids fields))
top_kept top fields low forms =
    highest_within 2147483647 top (field_ids fields) low
    (All-map (λ id. id ≤ 2147483647) (λ field. field.field_id) fields
    (All-weaker IsPartitionField (λ field. field.field_id ≤ 2147483647) (λ field form. form.id.most) fields forms))

pub specs_noted : (specs : List PartitionSpec) (now top : ℕ) (last : Option ℕ) (id : ℕ) (fields : List PartitionField)
    → SpecsAre specs now top last → All IsPartitionField fields → Contains (spec_ids specs) id
    → SpecsAre specs now (highest top (field_ids fields)) (Some id)
specs_noted specs now top last id fields are forms there = record {
  members = members_noted IsPartitionSpec (λ spec. spec.spec_id) specs now last id are.members there;
  least = omega (arith, least_highest top (field_ids fields), are.least);
  most = top_kept top fields are.most forms;
}

pub specs_pushed : (specs : List PartitionSpec) (now top : ℕ) (last : Option ℕ) (id : ℕ) (fields : List PartitionField)
    → SpecsAre specs now top last → All IsPartitionField fields → next_id (spec_ids specs) ≡ id → IsId id
    → SpecsAre (specs ++ record { spec_id = id; fields = fields } ∷ []) now (highest top (field_ids fields)) (Some id)
specs_pushed specs now top last id fields are forms is within = record {
  members = members_pushed IsPartitionSpec (λ spec. spec.spec_id) specs now last (record { spec_id = id; fields = fields })
      are.members (record { id = within; fields = forms })
      (subst (λ x. list_any (nat_eq x) (spec_ids specs) ≡ false) is (next_is_new (spec_ids specs)));
  least = omega (arith, least_highest top (field_ids fields), are.least);
  most = top_kept top fields are.most forms;
}

pub specs_named : (member : MemberId) (specs : List PartitionSpec) (now top : ℕ) (last : Option ℕ) (id : ℕ)
    → SpecsAre specs now top last → chosen member last (spec_ids specs) ≡ Ok id → SpecsAre specs id top last
specs_named member specs now top last id are named = record {
  members = members_named IsPartitionSpec (λ spec. spec.spec_id) specs now last id are.members
      (named_there member last (spec_ids specs) id are.members.added named);
  least = are.least;
  most = are.most;
}

pub specs_left : (specs : List PartitionSpec) (now top : ℕ) (last : Option ℕ) (gone : List ℕ)
    → SpecsAre specs now top last → has_id now gone ≡ false
    → SpecsAre (filter (λ spec. not (has_id spec.spec_id gone)) specs) now top (still_last gone last)
specs_left specs now top last gone are stays = record {
  members = members_left IsPartitionSpec (λ spec. spec.spec_id) specs now last gone are.members stays;
  least = are.least;
  most = are.most;
}
