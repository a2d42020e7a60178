-- A sound state with one more view, or with one in the place of another, is sound.
use Rattle.std.proofs.Common.{◌≡◌, ℕ, ◌+◌, true, false, ◌&&◌, nat_le, nat_lt, [], ◌∷◌, ◌++◌, length, Option, Some, is_some, nat_eq, refl, sym, ap, subst, ◌∙◌, inl, inr, arith, true≢false}
use Rattle.std.specs.List.{AllByRecursion}
use Rattle.std.specs.Str.{bytes_eq}
use Rattle.std.proofs.Math.Logic.{∥∥₁_map}
use Rattle.std.proofs.lemmas.Bool.{and_parts, eqb-true, leb-true, or_cases}
use Rattle.std.proofs.lemmas.Slice.Eq.{bytes_eq-Decides}
use Rattle.pol_access.proofs.KeptLemmas.{found-holds}
use Rattle.pol_commands.specs.declared.reply.Quantity.TheVariants as quantity
use Rattle.pol_content.specs.Content.{namespace_id}
use Rattle.pol_content.specs.Sound.{IsSoundContent}
use Rattle.pol_content.specs.Ties.{catalog_of_namespace, is_access_id}
use Rattle.pol_content.specs.declared.change.Change.TheVariants.{PutView}
use Rattle.pol_content.proofs.SoundLemmas.{more_ids}
use Rattle.pol_content.proofs.SoundViewsLemmas.{pushed_view, renamed_view, replaced_view}
use Rattle.pol_content.proofs.TiedViewsLemmas.{put_view}
use Rattle.pol_locations.specs.Location.{parse_refusal}
use Rattle.pol_rules.proofs.SoundLemmas.{next_id-some}
use Rattle.pol_sound_bounds.specs.Judged.{view_fits}
use Rattle.pol_sound_content.specs.Judged.{is_located}
use Rattle.pol_sound_content.specs.Valid.{HasValidViewMetadata}
use Rattle.pol_content_steps.specs.Names.{is_name_free, may_take_name}
use Rattle.pol_access_steps.specs.Counters.{counted, is_new_id, may_follow}
use Rattle.pol_content_steps.specs.Views.{has_view_name, is_view, is_view_new, keeps_view_name, may_place_view, may_replace_view}
use Rattle.pol_access_steps.specs.declared.counters.Counters.{Counters}
use Rattle.pol_access_steps.proofs.BoundsLemmas.{all-with, few-with, fits-of, same-length, views-fit, within-of}
use Rattle.pol_access_steps.proofs.CountersLemmas.{counted-sound, new-id, no-access_id, unknown-later}
use Rattle.pol_content_steps.proofs.NameLemmas.{free-told, take-told}
use Rattle.pol_access_steps.proofs.CountersLemmas.{none-told}
use Rattle.pol_state.specs.Applied.{changed}
use Rattle.pol_state.specs.Bounds.{bound_of}
use Rattle.pol_state.specs.Rows.{Rows}
use Rattle.pol_state.specs.Sound.{IsSound}
use Rattle.pol_tables.specs.Table.{has_id, knows, row_of, rows_with}
use Rattle.pol_tables.proofs.TableLemmas.{is_some-row_of, key-row_of, rows_with-new, some_is}
use Rattle.pol_view_rows.specs.Sound.{IsSoundView}
use Rattle.pol_view_rows.specs.Views.{view_id}
use Rattle.pol_view_rows.specs.declared.row.ViewRow.{ViewRow}

view-told : (row : ViewRow) → HasValidViewMetadata row → is_view row ≡ true → is_located row ≡ true → IsSoundView row
view-told row valid is located = record {
  metadata = ∥∥₁_map valid (λ one. record {
    valid = one;
    few = leb-true (length row.metadata.versions) 100 (and_parts (nat_le (length row.metadata.versions) 100) (view_fits row) is).0;
  });
  placed = none-told (parse_refusal row.metadata.location) located;
}

numbers-fit : (row : ViewRow) → is_view row ≡ true → view_fits row ≡ true
numbers-fit row is = (and_parts (nat_le (length row.metadata.versions) 100) (view_fits row) is).1

-- a view in the place of its own row
module _ (t : Rows) (sound : IsSound t) (old row : ViewRow) (found : row_of view_id row.id t.content.views ≡ Some old) where
  known : knows view_id row.id t.content.views ≡ true
  known = sym (is_some-row_of view_id row.id t.content.views) ∙ ap is_some found

  of-old : (P : ViewRow → Type 0) → AllByRecursion P t.content.views → P old
  of-old P all = found-holds (has_id view_id row.id) P t.content.views old all found

  -- what is left to know of its name: the rows are sound with it, and it stays in its catalogue
  record IsNamed : Type 0 where
    pub content : IsSoundContent t.next_id (record t.content { views = rows_with view_id row t.content.views })
    pub catalog : catalog_of_namespace row.namespace t.content ≡ catalog_of_namespace old.namespace t.content

  keeps-told : IsSoundView row → keeps_view_name old row ≡ true → IsNamed
  keeps-told itself keeps =
      let both = and_parts (nat_eq row.namespace old.namespace) (bytes_eq row.name old.name) keeps in
      let namespace = eqb-true row.namespace old.namespace both.0 in
      record {
        content = replaced_view t.next_id t.content sound.orderly.content row old found namespace ((bytes_eq-Decides row.name old.name).0 both.1) itself;
        catalog = ap (λ id. catalog_of_namespace id t.content) namespace;
      }

  takes-told : IsSoundView row → may_take_name old.namespace row.namespace row.name t.content ≡ true → IsNamed
  takes-told itself may =
      let take = take-told old.namespace row.namespace row.name t.content may in
      record {
        content = renamed_view t.next_id t.content sound.orderly.content row old found take.free take.there itself;
        catalog = take.catalog;
      }

  named-told : IsSoundView row → has_view_name t old row ≡ true → IsNamed
  named-told itself has =
      elim (or_cases (keeps_view_name old row) (may_take_name old.namespace row.namespace row.name t.content) has) [
        | inl keeps ↦ keeps-told itself keeps
        | inr may ↦ takes-told itself may
      ]

  pub replaced-view-sound : HasValidViewMetadata row → may_replace_view t old row ≡ true → IsSound (changed t (PutView row))
  replaced-view-sound valid may =
      let rows = t.content.views in
      let parts = and_parts (has_view_name t old row && is_view row) (is_located row) may in
      let first = and_parts (has_view_name t old row) (is_view row) parts.0 in
      let named = named-told (view-told row valid first.1 parts.1) first.0 in
      let own = key-row_of view_id row.id old rows found in
      let free = ap (λ id. is_access_id id t.access) own ∙ of-old (λ kept. is_access_id kept.id t.access ≡ false) sound.orderly.ties.ids_apart.views in
      let lies-in : ViewRow → Option ℕ = (λ one. catalog_of_namespace one.namespace t.content) in
      let f = fits-of t sound in
      let few = ap (λ n. nat_le n (bound_of quantity.Views)) (same-length view_id row rows known) ∙ f.parts.1.1.1 in
      let all = all-with view_id row rows view_fits f.numbers.1.1.1 (numbers-fit row first.1) in
      record {
        orderly = record {
          access = sound.orderly.access;
          content = named.content;
          ties = put_view t.access t.content sound.orderly.ties row (λ other there. named.catalog ∙ ap lies-in (some_is old other (sym found ∙ there))) free;
          tokens = sound.orderly.tokens;
          tokens_fit = sound.orderly.tokens_fit;
          time_bound = sound.orderly.time_bound;
          charged_bound = sound.orderly.charged_bound;
        };
        within = within-of (changed t (PutView row)) (views-fit t (rows_with view_id row rows) f few all);
      }

-- a view with a new id
module _ (s : Rows) (sound : IsSound s) (counters : Counters) (follows : may_follow s counters ≡ true) (row : ViewRow) where
  pub placed-view-sound : HasValidViewMetadata row → may_place_view s counters row ≡ true → IsSound (changed (counted s counters) (PutView row))
  placed-view-sound valid may =
      let rows = s.content.views in
      let there = knows namespace_id row.namespace s.content.namespaces in
      let named = is_name_free row.namespace row.name s.content in
      let few = nat_lt (length rows) (bound_of quantity.Views) in
      let parts = and_parts (is_view_new s counters row) (is_located row) may in
      let first = and_parts (is_new_id s counters row.id) (there && (named && (few && is_view row))) parts.0 in
      let second = and_parts there (named && (few && is_view row)) first.1 in
      let third = and_parts named (few && is_view row) second.1 in
      let last = and_parts few (is_view row) third.1 in
      let id = new-id s counters row.id first.0 in
      let base = counted-sound s sound counters follows in
      let itself = view-told row valid last.1 parts.1 in
      let unknown = unknown-later s sound view_id rows sound.orderly.content.views.numbered row.id id.0 in
      let there-told : (old : ViewRow) → row_of view_id row.id rows ≡ Some old → knows view_id row.id rows ≡ true = (λ old is. sym (is_some-row_of view_id row.id rows) ∙ ap is_some is) in
      let some = next_id-some s sound in
      let free = free-told row.namespace row.name s.content third.0 in
      let before = more_ids s.next_id row.id s.content id.0 sound.orderly.content in
      let pushed = pushed_view row.id s.content before row (omega (arith, some, id.0)) refl second.0 free itself in
      let later = more_ids (row.id + 1) counters.next_id (record s.content { views = rows ++ row ∷ [] }) (omega (arith, id.1)) pushed in
      let f = fits-of (counted s counters) base in
      let more = few-with view_id row rows (bound_of quantity.Views) unknown last.0 in
      let all = all-with view_id row rows view_fits f.numbers.1.1.1 (numbers-fit row last.1) in
      record {
        orderly = record {
          access = base.orderly.access;
          content = subst (λ after. IsSoundContent counters.next_id (record s.content { views = after })) (sym (rows_with-new view_id row rows unknown)) later;
          ties = put_view s.access s.content sound.orderly.ties row (λ old is. absurd (true≢false (sym (there-told old is) ∙ unknown))) (no-access_id s sound row.id id.0);
          tokens = base.orderly.tokens;
          tokens_fit = base.orderly.tokens_fit;
          time_bound = base.orderly.time_bound;
          charged_bound = base.orderly.charged_bound;
        };
        within = within-of (changed (counted s counters) (PutView row)) (views-fit (counted s counters) (rows_with view_id row rows) f more all);
      }
