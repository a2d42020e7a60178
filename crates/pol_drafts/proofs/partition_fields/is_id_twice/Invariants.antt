use Rattle.std.proofs.Common.{◌≡◌, ℕ, false, nat_eq, take}
use Rattle.std.specs.List.{list_any}
use Rattle.indexmap.specs.IndexSet.{contains}
use Rattle.pol_meta.specs.Creation.{stands_twice}
use Rattle.pol_drafts.proofs.partition_fields.is_id_twice.Given as goal

abbrev pub invariant-loop-id : goal.invariant-loop-id
invariant-loop-id l =
    ((id : ℕ) → contains nat_eq l.seen id ≡ list_any (λ other. nat_eq other id) (take l.id-index l.ids))
    × (stands_twice nat_eq (take l.id-index l.ids) ≡ false)
