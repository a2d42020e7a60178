-- That a list of updates keeps the bound on the weight of a view's metadata.
use Rattle.std.proofs.Common.{◌≡◌, ◌≤◌, ◌+◌, ◌*◌, ◌-◌, ◌^◌, ◌==◌, ◌∷◌, [], ℕ, length, not, Ok, arith}
use Rattle.std.specs.List.{suffix_len, sum_by}
use Rattle.std.specs.Str.{bytes_eq}
use Rattle.std.proofs.lemmas.List.{length-append, length-drop}
use Rattle.std.proofs.lemmas.List.Sums.{sum_by_push}
use Rattle.pol_meta.specs.Weight.{pair_weight, pairs_weight, schema_weight}
use Rattle.pol_meta.specs.declared.why.Why.TheVariants.{FormatVersion, UuidDiffers}
use Rattle.pol_updates.specs.Texts.{all_removed, all_set}
use Rattle.pol_updatelaws.proofs.ChainLemmas.{made_kept, same_kept}
use Rattle.pol_updatelaws.proofs.ListLemmas.{each_sums, made_cases}
use Rattle.pol_updatelaws.proofs.SumLemmas.{sum_filter, sum_of_each}
use Rattle.pol_updatelaws.proofs.WeightLemmas.{all_removed_weighs, all_set_weighs, settled_weighs}
use Rattle.pol_views.proofs.CaseLemmas.{add_schema_cases, add_version_cases, set_current_cases}
use Rattle.pol_views.specs.Laws.{ViewWeightKeepsBound}
use Rattle.pol_views.specs.Left.{goes, is_there, other_ids, versions_left}
use Rattle.pol_views.specs.Texts.{with_location, with_values, without_keys}
use Rattle.pol_views.specs.Updates.{after_each, after_one, begun, finished, view_after}
use Rattle.pol_views.specs.Versions.{bound_version}
use Rattle.pol_views.specs.Weight.{unbound_version_weight, version_weight, view_weight}
use Rattle.pol_views.specs.Weights.{view_update_weight, view_updates_weight}
use Rattle.pol_views.specs.declared.draft.ViewDraft.{ViewDraft}
use Rattle.pol_views.specs.declared.metadata.ViewMetadata.{ViewMetadata}
use Rattle.pol_views.specs.declared.update.ViewUpdate.{ViewUpdate}
use Rattle.pol_views.specs.declared.update.ViewUpdate.TheVariants.{AssignUuid, UpgradeFormatVersion, AddSchema, SetLocation, SetProperties, RemoveProperties, AddViewVersion, SetCurrentViewVersion, Unsupported}

-- a draft that an update leads to weighs no more than that and the update
abbrev Grows : ViewDraft → ℕ → ViewDraft → Type 0
Grows d more next = view_weight next.meta ≤ view_weight d.meta + more

one_grows : (moment : ℕ) (update : ViewUpdate) (d next : ViewDraft) → after_one moment update d ≡ Ok next
    → Grows d (view_update_weight update) next
one_grows moment (AssignUuid uuid) d next told =
    same_kept (Grows d 64) (bytes_eq d.meta.view_uuid uuid) UuidDiffers d next (omega arith) told
one_grows moment (UpgradeFormatVersion version) d next told =
    same_kept (Grows d 64) (version == 1) FormatVersion d next (omega arith) told
one_grows moment (AddSchema schema) d next told =
    add_schema_cases (Grows d (64 + schema_weight schema)) schema d next told (λ id there. omega arith)
    (λ id is fits. omega (arith, sum_by_push schema_weight d.meta.schemas (record schema { schema_id = id })))
one_grows moment (SetLocation location) d next told =
    made_kept (Grows d (64 + length location)) (with_location location d) next (omega arith) told
one_grows moment (SetProperties updates) d next told =
    made_kept (Grows d (64 + (64 * length updates + pairs_weight updates))) (with_values updates d) next
    (omega (
      arith,
      all_set_weighs updates d.meta.properties,
      sum_of_each pair_weight updates,
      sum_of_each pair_weight d.meta.properties,
      sum_of_each pair_weight (all_set updates d.meta.properties),
    )) told
one_grows moment (RemoveProperties removals) d next told =
    made_kept (Grows d (64 + sum_by length removals)) (without_keys removals d) next
    (omega (
      arith,
      all_removed_weighs removals d.meta.properties,
      sum_of_each pair_weight d.meta.properties,
      sum_of_each pair_weight (all_removed removals d.meta.properties),
    )) told
one_grows moment (AddViewVersion version) d next told =
    add_version_cases (Grows d (64 + unbound_version_weight version)) version d next told (λ id there. omega arith)
    (λ id schema named is fits. omega (arith, sum_by_push version_weight d.meta.versions (bound_version id schema version)))
one_grows moment (SetCurrentViewVersion member) d next told =
    set_current_cases (Grows d 64) moment member d next told
    (λ id named. omega (arith, length-append d.meta.version_log (record { timestamp_ms = moment; version_id = id } ∷ [])))
one_grows moment (Unsupported action) d next told = made_kept (Grows d 64) d next (omega arith) told

finished_weighs : (meta : ViewMetadata) → view_weight (finished meta) ≤ view_weight meta + 1024
unfolding finished
finished_weighs meta =
    let left = versions_left meta.current_version_id meta.versions in
    let others = other_ids meta.current_version_id meta.versions in
    omega (
      arith,
      settled_weighs meta.location,
      sum_filter version_weight
          (λ version. not (goes meta.current_version_id others (length meta.versions - 100) version.version_id)) meta.versions,
      length-drop (length meta.version_log - suffix_len (is_there left) meta.version_log) meta.version_log,
    )

pub weight_keeps_bound : ViewWeightKeepsBound
unfolding view_after after_each
weight_keeps_bound meta updates moment made light some told =
    made_cases (after_one moment) (λ d. finished d.meta) meta (begun meta) updates
    (λ (whole : ViewMetadata). view_weight whole ≤ 2 ^ 40) made told (omega (arith, light)) (λ d done.
    let grown : view_weight d.meta ≤ view_weight meta + view_updates_weight updates =
    each_sums (after_one moment) (λ (other : ViewDraft). view_weight other.meta) view_update_weight (one_grows moment) 0 updates
    (begun meta) d done in
    omega (arith, grown, light, some, finished_weighs d.meta))
