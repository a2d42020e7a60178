-- How an update adds a partition spec, names the default one and removes specs.
use Rattle.std.specs.Prelude.{◌+◌, ◌&&◌, ◌||◌, ◌==◌, ◌++◌, ◌∷◌, [], ℕ, Bool, not, filter, is_none, nat_eq, List, Option, None, Some, Result, Ok, Err, if◌then◌else◌, unwrap_or}
use Rattle.std.specs.Cmp.Lexicographic.{pointwise}
use Rattle.std.specs.List.{find, list_all, list_any}
use Rattle.std.specs.Option.{option_map, option_or}
use Rattle.std.specs.Str.{bytes_eq}
use Rattle.pol_meta.specs.Columns.{has_column}
use Rattle.pol_meta.specs.Creation.{bound, field_ids, highest, is_same_name, stands_twice}
use Rattle.pol_meta.specs.Valid.{spec_ids}
use Rattle.pol_meta.specs.declared.column.Column.{Column}
use Rattle.pol_meta.specs.contracts.partition.PartitionFieldPartialEq.TheImpl as fields_compared
use Rattle.pol_meta.specs.contracts.transform.TransformPartialEq.TheImpl as transforms_compared
use Rattle.pol_meta.specs.declared.partition.PartitionField.{PartitionField}
use Rattle.pol_meta.specs.declared.partition.PartitionSpec.{PartitionSpec}
use Rattle.pol_meta.specs.declared.partition.UnboundField.{UnboundField}
use Rattle.pol_meta.specs.declared.partition.UnboundSpec.{UnboundSpec}
use Rattle.pol_meta.specs.declared.why.Why.{Why}
use Rattle.pol_meta.specs.declared.why.Why.TheVariants.{FieldTwice, IdsUsedUp, InUse, NoSuchField}
use Rattle.pol_drafts.specs.Drafts.{and_then, current_columns}
use Rattle.pol_drafts.specs.Ids.{chosen, given, has_id, is_above, next_id, still_last}
use Rattle.pol_drafts.specs.declared.draft.Draft.{Draft}
use Rattle.pol_drafts.specs.declared.member.MemberId.{MemberId}

-- whether a field that is asked for has the source, name and transform of one that is there
abbrev pub is_as : UnboundField → PartitionField → Bool
is_as wanted field =
    field.source_id == wanted.source_id && bytes_eq field.name wanted.name
    && (transforms_compared.ghosts).eq field.transform wanted.transform

-- the id of the first such field of these specs
abbrev pub earlier_id : UnboundField → List PartitionSpec → Option ℕ
earlier_id wanted [] = None
earlier_id wanted (spec ∷ specs) =
    option_or (option_map (λ field. field.field_id) (find (is_as wanted) spec.fields)) (earlier_id wanted specs)

-- the id that a field has: its own, else that of an earlier field
abbrev pub known_id : List PartitionSpec → UnboundField → Option ℕ
known_id specs wanted = option_or wanted.field_id (earlier_id wanted specs)

-- the ids of fields: those without one get the next ones in turn
abbrev pub ids_of : List PartitionSpec → ℕ → List UnboundField → List ℕ
ids_of specs next [] = []
ids_of specs next (field ∷ fields) =
    unwrap_or (known_id specs field) next
    ∷ ids_of specs (if is_none (known_id specs field) then next + 1 else next) fields

-- fields with these ids
abbrev pub bound_fields : List ℕ → List UnboundField → List PartitionField
bound_fields (id ∷ ids) (field ∷ fields) = bound id field ∷ bound_fields ids fields
bound_fields [] fields = []
bound_fields (id ∷ ids) [] = []

-- fields with these ids, where they may be those of a spec of a table with these columns
abbrev pub judged_fields : List Column → List ℕ → List UnboundField → Result (List PartitionField) Why
judged_fields columns ids fields =
    if not (list_all (λ field. has_column columns field.source_id) fields) then Err NoSuchField
    else if stands_twice nat_eq ids || stands_twice is_same_name fields then Err FieldTwice
    else if list_any is_above ids then Err IdsUsedUp
    else Ok (bound_fields ids fields)

-- whether a spec has these fields
abbrev pub is_spec_of : List PartitionField → PartitionSpec → Bool
is_spec_of fields spec = pointwise (fields_compared.ghosts).eq spec.fields fields

-- the id of the first spec that has the same fields
abbrev pub same_spec_id : List PartitionField → List PartitionSpec → Option ℕ
same_spec_id fields specs = option_map (λ spec. spec.spec_id) (find (is_spec_of fields) specs)

-- a spec of this id is the last added, and the highest partition id is no less than those of its fields
abbrev pub noted_spec : ℕ → List PartitionField → Draft → Draft
noted_spec id fields d = record d {
  meta = record d.meta { last_partition_id = highest d.meta.last_partition_id (field_ids fields) };
  last_spec = Some id;
}

-- a spec stands after the others under a new id
abbrev pub with_spec : ℕ → List PartitionField → Draft → Draft
with_spec id fields d = noted_spec id fields (record d {
  meta = record d.meta { partition_specs = d.meta.partition_specs ++ record { spec_id = id; fields = fields } ∷ [] };
})

-- a spec of these fields is added where there is none
abbrev pub added_spec : Option ℕ → List PartitionField → Draft → Result Draft Why
added_spec (Some id) fields d = Ok (noted_spec id fields d)
added_spec None fields d =
    and_then (given (next_id (spec_ids d.meta.partition_specs))) (λ id. Ok (with_spec id fields d))

-- the fields of a spec that is asked for: those without an id get the ones above the last
unfoldable pub asked_fields : UnboundSpec → Draft → Result (List PartitionField) Why
asked_fields spec d =
    judged_fields (current_columns d.meta)
    (ids_of d.meta.partition_specs (d.meta.last_partition_id + 1) spec.fields) spec.fields

unfoldable pub add_spec : UnboundSpec → Draft → Result Draft Why
add_spec spec d =
    and_then (asked_fields spec d) (λ fields. added_spec (same_spec_id fields d.meta.partition_specs) fields d)

-- the spec that is named becomes the default one
abbrev pub with_default_spec : ℕ → Draft → Draft
with_default_spec id d = record d { meta = record d.meta { default_spec_id = id } }

unfoldable pub set_default_spec : MemberId → Draft → Result Draft Why
set_default_spec member d =
    and_then (chosen member d.last_spec (spec_ids d.meta.partition_specs)) (λ id. Ok (with_default_spec id d))

-- specs of these ids are gone
abbrev pub without_specs : List ℕ → Draft → Draft
without_specs ids d = record d {
  meta = record d.meta { partition_specs = filter (λ spec. not (has_id spec.spec_id ids)) d.meta.partition_specs };
  last_spec = still_last ids d.last_spec;
}

unfoldable pub remove_specs : List ℕ → Draft → Result Draft Why
remove_specs ids d = if has_id d.meta.default_spec_id ids then Err InUse else Ok (without_specs ids d)
