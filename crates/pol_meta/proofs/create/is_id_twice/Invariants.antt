use Rattle.std.proofs.Common.{◌≡◌, ℕ, Some, false, nat_eq, take}
use Rattle.std.specs.List.{list_any}
use Rattle.indexmap.specs.IndexSet.{contains}
use Rattle.pol_meta.specs.Creation.{is_same_given, is_same_id, stands_twice}
use Rattle.pol_meta.proofs.create.is_id_twice.Given as goal

abbrev pub invariant-loop-field : goal.invariant-loop-field
invariant-loop-field l =
    ((id : ℕ) → contains nat_eq l.ids id ≡ list_any (λ field. is_same_id field.field_id (Some id)) (take l.field-index l.fields))
    × (stands_twice is_same_given (take l.field-index l.fields) ≡ false)
