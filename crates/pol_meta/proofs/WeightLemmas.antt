-- That the metadata of a new table weighs as much as what the table is asked for with.
use Rattle.std.proofs.Common.{◌≡◌, ◌+◌, ℕ, List, [], ◌∷◌, is_none, unwrap_or, if◌then◌else◌, refl, arith}
use Rattle.std.specs.List.{sum_by}
use Rattle.std.proofs.lemmas.List.Sums.{sum_by-cons}
use Rattle.pol_properties.specs.declared.property.Property.{Property}
use Rattle.pol_meta.specs.Creation.{bound, created, highest_given, numbered}
use Rattle.pol_meta.specs.Weight.{asked_weight, metadata_weight, partition_field_weight, unbound_field_weight}
use Rattle.pol_meta.specs.declared.partition.UnboundField.{UnboundField}
use Rattle.pol_meta.specs.declared.partition.UnboundSpec.{UnboundSpec}
use Rattle.pol_meta.specs.declared.schema.Schema.{Schema}
use Rattle.pol_meta.specs.declared.sort.UnboundOrder.{UnboundOrder}

-- a field weighs the same with its id
numbered_weight : (next : ℕ) (fields : List UnboundField)
    → sum_by partition_field_weight (numbered next fields) ≡ sum_by unbound_field_weight fields
numbered_weight next [] = refl
numbered_weight next (field ∷ fields) =
    let after : ℕ = if is_none field.field_id then next + 1 else next in
    omega (
      arith,
      sum_by-cons partition_field_weight (bound (unwrap_or field.field_id next) field) (numbered after fields),
      sum_by-cons unbound_field_weight field fields,
      numbered_weight after fields,
    )

pub created_weight : (uuid location : List ℕ) (schema : Schema) (spec : UnboundSpec) (order : UnboundOrder)
    (properties : List Property) (moment : ℕ)
    → metadata_weight (created uuid location schema spec order properties moment)
    ≡ asked_weight location schema spec order properties
unfolding created
created_weight uuid location schema spec order properties moment =
    omega (arith, numbered_weight (highest_given spec.fields + 1) spec.fields)
