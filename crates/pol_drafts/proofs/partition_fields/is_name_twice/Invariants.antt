use Rattle.std.proofs.Common.{◌≡◌, ℕ, List, false, take}
use Rattle.std.specs.List.{list_any}
use Rattle.std.specs.Str.{bytes_eq}
use Rattle.indexmap.specs.IndexSet.{contains}
use Rattle.pol_meta.specs.Creation.{is_same_name, stands_twice}
use Rattle.pol_drafts.proofs.partition_fields.is_name_twice.Given as goal

abbrev pub invariant-loop-field : goal.invariant-loop-field
invariant-loop-field l =
    ((name : List ℕ) → contains bytes_eq l.names name ≡ list_any (λ field. bytes_eq field.name name) (take l.field-index l.fields))
    × (stands_twice is_same_name (take l.field-index l.fields) ≡ false)
