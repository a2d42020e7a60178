-- How loops over the fields of partition specs go on.
use Rattle.std.proofs.Common.{◌≡◌, ◌<◌, ◌≤◌, ◌+◌, ◌||◌, ℕ, zero, suc, Bool, true, false, List, [], ◌∷◌, length, drop, get_or, is_none, unwrap_or, if◌then◌else◌, None, Some, refl, arith, sym, ap, add-one, drop-cons}
use Rattle.std.specs.List.{find, list_any}
use Rattle.std.specs.Option.{option_map}
use Rattle.std.proofs.lemmas.Bool.{ltb-false}
use Rattle.pol_meta.specs.Creation.{bound}
use Rattle.pol_meta.specs.declared.partition.PartitionSpec.{PartitionSpec}
use Rattle.pol_meta.specs.declared.partition.UnboundField.{UnboundField}
use Rattle.pol_drafts.specs.Ids.{is_above}
use Rattle.pol_drafts.specs.Partitions.{bound_fields, earlier_id, ids_of, is_as, known_id}

-- from a place on, a list is the item there and what follows it
pub drop_here : {A : Type 0} (xs : List A) (i : ℕ) (x : A) → i < length xs → x ≡ get_or xs i x → drop i xs ≡ x ∷ drop (i + 1) xs
drop_here xs i x within here = rw (add-one, drop-cons xs i x) (ap (λ y. y ∷ drop (suc i) xs) (sym here))

-- where a spec has no such field, those after it are asked; else its field is the first
pub earlier_past : (wanted : UnboundField) (specs : List PartitionSpec) (i : ℕ) (spec : PartitionSpec) → i < length specs → spec ≡ get_or specs i spec → option_map (λ field. field.field_id) (find (is_as wanted) spec.fields) ≡ None → earlier_id wanted (drop i specs) ≡ earlier_id wanted (drop (i + 1) specs)
earlier_past wanted specs i spec within here none =
    let step : drop i specs ≡ spec ∷ drop (i + 1) specs = drop_here specs i spec within here in
    rw (step, none)

pub earlier_here : (wanted : UnboundField) (specs : List PartitionSpec) (i : ℕ) (spec : PartitionSpec) (id : ℕ) → i < length specs → spec ≡ get_or specs i spec → option_map (λ field. field.field_id) (find (is_as wanted) spec.fields) ≡ Some id → earlier_id wanted (drop i specs) ≡ Some id
earlier_here wanted specs i spec id within here found =
    let step : drop i specs ≡ spec ∷ drop (i + 1) specs = drop_here specs i spec within here in
    rw (step, found)

-- the ids from a field on: its own, and those after it
pub ids_past : (specs : List PartitionSpec) (next : ℕ) (fields : List UnboundField) (i : ℕ) (field : UnboundField) → i < length fields → field ≡ get_or fields i field → ids_of specs next (drop i fields) ≡ unwrap_or (known_id specs field) next ∷ ids_of specs (if is_none (known_id specs field) then next + 1 else next) (drop (i + 1) fields)
ids_past specs next fields i field within here =
    let step : drop i fields ≡ field ∷ drop (i + 1) fields = drop_here fields i field within here in
    ap (ids_of specs next) step

-- the fields from one on: it with its id, and those after it
pub bound_past : (ids : List ℕ) (fields : List UnboundField) (i : ℕ) (field : UnboundField) → i < length ids → i < length fields → field ≡ get_or fields i field → bound_fields (drop i ids) (drop i fields) ≡ bound (get_or ids i 0) field ∷ bound_fields (drop (i + 1) ids) (drop (i + 1) fields)
bound_past ids fields i field in_ids in_fields here =
    let id_step : drop i ids ≡ get_or ids i 0 ∷ drop (i + 1) ids = rw (add-one, drop-cons ids i 0) in
    let step : drop i fields ≡ field ∷ drop (i + 1) fields = drop_here fields i field in_fields here in
    rw (id_step, step)

neither : (a b : Bool) → (a || b) ≡ false → (a ≡ false) × (b ≡ false)
neither false false none = (refl, refl)
neither false true none = cc
neither true b none = cc

-- where no id is above the highest that there may be, each is within it
pub ids_within : (ids : List ℕ) (i : ℕ) → list_any is_above ids ≡ false → i < length ids → get_or ids i 0 ≤ 2147483647
ids_within [] i none within = absurd (omega arith)
ids_within (id ∷ ids) zero none within = ltb-false 2147483647 id ((neither (is_above id) (list_any is_above ids) none).0)
ids_within (id ∷ ids) (suc i) none within =
    ids_within ids i ((neither (is_above id) (list_any is_above ids) none).1) (omega arith)
