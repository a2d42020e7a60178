-- A sound state with a namespace put is sound: a new one, or one in the place of its own row.
use Rattle.std.proofs.Common.{◌≡◌, ℕ, true, false, nat_eq, nat_le, List, Option, None, Some, is_some, refl, sym, ap, ◌∙◌}
use Rattle.std.specs.Cmp.Lexicographic.{same_text}
use Rattle.std.proofs.lemmas.Bool.{and_parts, eqb-true}
use Rattle.pol_types.specs.Exact.{pointwise_exact}
use Rattle.pol_access.proofs.KeptLemmas.{found-holds}
use Rattle.pol_commands.specs.declared.reply.Quantity.TheVariants as quantity
use Rattle.pol_content.specs.Content.{namespace_id, same_levels}
use Rattle.pol_content.specs.Ties.{is_access_id}
use Rattle.pol_content.specs.declared.change.Change.TheVariants.{PutNamespace}
use Rattle.pol_content.specs.declared.rows.NamespaceRow.{NamespaceRow}
use Rattle.pol_content.proofs.SoundLemmas.{replaced_namespace}
use Rattle.pol_content.proofs.TiedContentLemmas.{put_namespace}
use Rattle.pol_sound_bounds.specs.Judged.{namespace_fits}
use Rattle.pol_content_steps.specs.Properties.{keeps_levels, may_be_namespace, may_put_namespace, may_stay_namespace}
use Rattle.pol_access_steps.specs.Counters.{counted, may_follow}
use Rattle.pol_access_steps.specs.declared.counters.Counters.{Counters}
use Rattle.pol_access_steps.proofs.BoundsLemmas.{all-with, fits-of, namespaces-fit, same-length, within-of}
use Rattle.pol_access_steps.proofs.CountersLemmas.{counted-sound}
use Rattle.pol_content_steps.proofs.NamespaceLemmas.{namespace-sound}
use Rattle.pol_state.specs.Applied.{changed}
use Rattle.pol_state.specs.Bounds.{bound_of}
use Rattle.pol_state.specs.Rows.{Rows}
use Rattle.pol_state.specs.Sound.{IsSound}
use Rattle.pol_tables.specs.Table.{has_id, knows, row_of, rows_with}
use Rattle.pol_tables.proofs.TableLemmas.{is_some-row_of, key-row_of, some_is}

same-levels : (left right : List (List ℕ)) → same_levels left right ≡ true → left ≡ right
same-levels = pointwise_exact (λ one other same. same_text one other (sym same))

module _ (s : Rows) (sound : IsSound s) (counters : Counters) (follows : may_follow s counters ≡ true) (row : NamespaceRow) where
  -- the state is sound with these counters once the namespace is put
  abbrev pub SoundWith : Type 0
  SoundWith = IsSound (changed (counted s counters) (PutNamespace row))

  -- one in the place of its own row
  stays-sound : (old : NamespaceRow) → row_of namespace_id row.id s.content.namespaces ≡ Some old → may_stay_namespace old row ≡ true → SoundWith
  stays-sound old found may =
      let rows = s.content.namespaces in
      let after : List NamespaceRow = rows_with namespace_id row rows in
      let parts = and_parts (keeps_levels old row) (namespace_fits row) may in
      let same = and_parts (nat_eq row.catalog old.catalog) (same_levels row.levels old.levels) parts.0 in
      let catalogs = eqb-true row.catalog old.catalog same.0 in
      let levels = same-levels row.levels old.levels same.1 in
      let known : knows namespace_id row.id rows ≡ true = sym (is_some-row_of namespace_id row.id rows) ∙ ap is_some found in
      let ids = sound.orderly.ties.ids_apart.namespaces in
      let apart = found-holds (has_id namespace_id row.id) (λ kept. is_access_id kept.id s.access ≡ false) rows old ids found in
      let none = ap (λ id. is_access_id id s.access) (key-row_of namespace_id row.id old rows found) ∙ apart in
      let base = counted-sound s sound counters follows in
      let f = fits-of (counted s counters) base in
      let few = ap (λ many. nat_le many (bound_of quantity.Namespaces)) (same-length namespace_id row rows known) ∙ f.parts.1.0 in
      let all = all-with namespace_id row rows namespace_fits f.numbers.1.0 parts.1 in
      record {
        orderly = record {
          access = base.orderly.access;
          content = replaced_namespace counters.next_id s.content old row base.orderly.content found catalogs levels;
          ties = put_namespace s.access s.content sound.orderly.ties row
              (λ other there. catalogs ∙ ap (λ (one : NamespaceRow). one.catalog) (some_is old other (sym found ∙ there)))
              none;
          tokens = base.orderly.tokens;
          tokens_fit = base.orderly.tokens_fit;
          time_bound = base.orderly.time_bound;
          charged_bound = base.orderly.charged_bound;
        };
        within = within-of (changed (counted s counters) (PutNamespace row)) (namespaces-fit (counted s counters) after f few all);
      }

  pub put_namespace-sound : may_put_namespace s counters row ≡ true → SoundWith
  put_namespace-sound = by (row_of namespace_id row.id s.content.namespaces) refl
    where
      by : (found : Option NamespaceRow) → row_of namespace_id row.id s.content.namespaces ≡ found → may_be_namespace s counters row found ≡ true → SoundWith
      by None none may = namespace-sound s sound counters follows row may
      by (Some old) found may = stays-sound old found may
