-- A sound state with one more namespace is sound.
use Rattle.std.proofs.Common.{◌≡◌, ℕ, ◌+◌, true, ◌&&◌, nat_lt, List, [], ◌∷◌, ◌++◌, length, Option, None, Some, is_none, is_some, refl, sym, ap, subst, ◌∙◌, arith, true≢false}
use Rattle.std.proofs.lemmas.Bool.{and_parts}
use Rattle.pol_commands.specs.declared.reply.Quantity.TheVariants as quantity
use Rattle.pol_content.specs.Content.{ContentRows, catalog_id, namespace_id, namespace_named}
use Rattle.pol_content.specs.Sound.{IsParentThere, IsSoundContent}
use Rattle.pol_content.specs.declared.change.Change.TheVariants.{PutNamespace}
use Rattle.pol_content.specs.declared.rows.NamespaceRow.{NamespaceRow}
use Rattle.pol_content.proofs.SoundLemmas.{more_ids, pushed_namespace}
use Rattle.pol_content.proofs.TiedContentLemmas.{put_namespace}
use Rattle.pol_names.specs.Namespace.{parent_of}
use Rattle.pol_rules.proofs.SoundLemmas.{next_id-some}
use Rattle.pol_sound_bounds.specs.Judged.{namespace_fits}
use Rattle.pol_sound_content.specs.Judged.{has_parent, is_parent_there}
use Rattle.pol_access_steps.specs.Counters.{counted, is_new_id, may_follow}
use Rattle.pol_content_steps.specs.Namespaces.{is_namespace_new, may_place_namespace}
use Rattle.pol_access_steps.specs.declared.counters.Counters.{Counters}
use Rattle.pol_access_steps.proofs.BoundsLemmas.{all-with, few-with, fits-of, namespaces-fit, within-of}
use Rattle.pol_access_steps.proofs.CountersLemmas.{counted-sound, new-id, no-access_id, unknown-later}
use Rattle.pol_access_steps.proofs.CountersLemmas.{none-told}
use Rattle.pol_state.specs.Applied.{changed}
use Rattle.pol_state.specs.Bounds.{bound_of}
use Rattle.pol_state.specs.Rows.{Rows}
use Rattle.pol_state.specs.Sound.{IsSound}
use Rattle.pol_tables.specs.Table.{knows, rows_with}
use Rattle.pol_tables.proofs.TableLemmas.{is_some-row_of, rows_with-new}

parent-told : (content : ContentRows) (catalog : ℕ) (parent : Option (List (List ℕ))) → is_parent_there content catalog parent ≡ true → IsParentThere content.namespaces catalog parent
parent-told content catalog None there = tt
parent-told content catalog (Some parent) there = there

module _ (s : Rows) (sound : IsSound s) (counters : Counters) (follows : may_follow s counters ≡ true) (row : NamespaceRow) where
  pub namespace-sound : may_place_namespace s counters row ≡ true → IsSound (changed (counted s counters) (PutNamespace row))
  namespace-sound may =
      let rows = s.content.namespaces in
      let there = knows catalog_id row.catalog s.content.catalogs in
      let named = namespace_named row.catalog row.levels s.content in
      let few = nat_lt (length rows) (bound_of quantity.Namespaces) in
      let parts = and_parts (is_namespace_new s counters row) (has_parent s.content row) may in
      let first = and_parts (is_new_id s counters row.id) (there && (is_none named && (few && namespace_fits row))) parts.0 in
      let second = and_parts there (is_none named && (few && namespace_fits row)) first.1 in
      let third = and_parts (is_none named) (few && namespace_fits row) second.1 in
      let last = and_parts few (namespace_fits row) third.1 in
      let id = new-id s counters row.id first.0 in
      let base = counted-sound s sound counters follows in
      let unknown = unknown-later s sound namespace_id rows sound.orderly.content.namespaces row.id id.0 in
      let some = next_id-some s sound in
      let pushed = pushed_namespace row.id s.content row (more_ids s.next_id row.id s.content id.0 sound.orderly.content) (omega (arith, some, id.0)) refl second.0 (parent-told s.content row.catalog (parent_of row.levels) parts.1) (none-told named third.0) in
      let later = more_ids (row.id + 1) counters.next_id (record s.content { namespaces = rows ++ row ∷ [] }) (omega (arith, id.1)) pushed in
      let f = fits-of (counted s counters) base in
      record {
        orderly = record {
          access = base.orderly.access;
          content = subst (λ after. IsSoundContent counters.next_id (record s.content { namespaces = after })) (sym (rows_with-new namespace_id row rows unknown)) later;
          ties = put_namespace s.access s.content sound.orderly.ties row (λ old known. absurd (true≢false (sym (sym (is_some-row_of namespace_id row.id rows) ∙ ap is_some known) ∙ unknown))) (no-access_id s sound row.id id.0);
          tokens = base.orderly.tokens;
          tokens_fit = base.orderly.tokens_fit;
          time_bound = base.orderly.time_bound;
          charged_bound = base.orderly.charged_bound;
        };
        within = within-of (changed (counted s counters) (PutNamespace row)) (namespaces-fit (counted s counters) (rows_with namespace_id row rows) f (few-with namespace_id row rows (bound_of quantity.Namespaces) unknown last.0) (all-with namespace_id row rows namespace_fits f.numbers.1.0 last.1));
      }
