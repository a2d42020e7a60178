-- A sound state with one more table, or with one in the place of another, is sound.
use Rattle.std.proofs.Common.{◌≡◌, ℕ, ◌+◌, ◌<◌, ◌≤◌, true, false, cond, ◌&&◌, nat_le, nat_lt, List, [], ◌∷◌, ◌++◌, map, length, None, Some, is_none, is_some, nat_eq, refl, sym, ap, subst, ◌∙◌, arith, true≢false}
use Rattle.std.specs.Cmp.Lexicographic.{bytes_decides, pointwise_decides}
use Rattle.std.specs.Str.{bytes_eq}
use Rattle.std.proofs.lemmas.Bool.{and_parts, eqb-true, leb-true, ltb-true, ne_eqb}
use Rattle.std.proofs.lemmas.Slice.Eq.{bytes_eq-Decides}
use Rattle.pol_access.proofs.KeptLemmas.{found-holds}
use Rattle.pol_commands.specs.declared.reply.Quantity.TheVariants as quantity
use Rattle.pol_content_steps.specs.Names.{is_name_free}
use Rattle.pol_content_steps.proofs.NameLemmas.{free-told}
use Rattle.pol_access_steps.proofs.CountersLemmas.{none-told}
use Rattle.pol_content.specs.Content.{namespace_id, part_named}
use Rattle.pol_content.specs.Sound.{IsSoundContent}
use Rattle.pol_content.specs.Ties.{catalog_of_namespace, is_access_id}
use Rattle.pol_content.specs.declared.change.Change.TheVariants.{PutTable}
use Rattle.pol_content.proofs.SoundLemmas.{more_ids, pushed_table}
use Rattle.pol_content.proofs.TiedContentLemmas.{put_table}
use Rattle.pol_locations.specs.Location.{location_text}
use Rattle.pol_rules.proofs.FitLemmas.{fit-replaced, MovesOn}
use Rattle.pol_rules.proofs.SoundLemmas.{next_id-some}
use Rattle.pol_sound_bounds.specs.Judged.{table_fits}
use Rattle.pol_sound_content.specs.Judged.{is_placed}
use Rattle.pol_sound_content.specs.Valid.{HasValidMetadata}
use Rattle.pol_access_steps.specs.Counters.{counted, is_new_id, may_follow}
use Rattle.pol_sound_steps.specs.Steps.{has_left, is_commit, is_move, is_row, is_table_new, keeps_name, may_place_table, stays}
use Rattle.pol_access_steps.specs.declared.counters.Counters.{Counters}
use Rattle.pol_access_steps.proofs.BoundsLemmas.{all-with, few-with, fits-of, same-length, tables-fit, within-of}
use Rattle.pol_access_steps.proofs.CountersLemmas.{counted-sound, new-id, no-access_id, unknown-later}
use Rattle.pol_sound_steps.proofs.ReplacedLemmas.{alter_one, clear-apart, replaced-sound, stays-apart, Replaces}
use Rattle.pol_soundness.specs.Judged.{same_place}
use Rattle.pol_state.specs.Applied.{changed}
use Rattle.pol_state.specs.Bounds.{bound_of}
use Rattle.pol_state.specs.Rows.{Rows}
use Rattle.pol_state.specs.Sound.{FitsFound, FitsTable, IsSound, IsTokenOf}
use Rattle.pol_table_rows.specs.Sound.{IsSoundTable, LocationsApart}
use Rattle.pol_table_rows.specs.Tables.{overlapping, table_id}
use Rattle.pol_table_rows.specs.declared.row.TableRow.{TableRow}
use Rattle.pol_tables.specs.Table.{has_id, knows, row_of, rows_with}
use Rattle.pol_tables.proofs.ListLemmas.{each-join}
use Rattle.pol_tables.proofs.ReplayLemmas.{row_of-rows_with}
use Rattle.pol_tables.proofs.RisingLemmas.{IdsDiffer-rising}
use Rattle.pol_tables.proofs.TableLemmas.{is_some-row_of, key-row_of, rows_with-new, some_is}
use Rattle.pol_tokens.specs.declared.token.TokenRow.{TokenRow}

same-text : (left right : List ℕ) → bytes_eq left right ≡ true → left ≡ right
same-text left right same = (bytes_eq-Decides left right).0 same

row-told : (row : TableRow) → HasValidMetadata row → is_row row ≡ true → row.metadata.location ≡ location_text row.location → IsSoundTable row
row-told row valid is placed = record {
  metadata = valid;
  placed = placed;
  moved = leb-true row.moves (row.version + 1) (and_parts (nat_le row.moves (row.version + 1)) (table_fits row) is).0;
}

-- a table in the place of its own row, which keeps its namespace and its name
module _ (t : Rows) (sound : IsSound t) (old row : TableRow) (found : row_of table_id row.id t.content.tables ≡ Some old) where
  known : knows table_id row.id t.content.tables ≡ true
  known = sym (is_some-row_of table_id row.id t.content.tables) ∙ ap is_some found

  replaced-state : Replaces row old t.content.tables → LocationsApart (map (alter_one row) t.content.tables) → IsSoundTable row → MovesOn old row → table_fits row ≡ true → IsSound (changed t (PutTable row))
  replaced-state replaces apart itself on fits =
      let own = key-row_of table_id row.id old t.content.tables found in
      let free = found-holds (has_id table_id row.id) (λ one. is_access_id one.id t.access ≡ false) t.content.tables old sound.orderly.ties.ids_apart.tables found in
      let f = fits-of t sound in
      record {
        orderly = record {
          access = sound.orderly.access;
          content = replaced-sound row t.next_id t.content old sound.orderly.content replaces apart itself;
          ties = put_table t.access t.content sound.orderly.ties row (λ other there. ap (λ namespace. catalog_of_namespace namespace t.content) (replaces.namespace ∙ ap (λ (one : TableRow). one.namespace) (some_is old other (sym found ∙ there)))) (ap (λ id. is_access_id id t.access) own ∙ free);
          tokens = sound.orderly.tokens;
          tokens_fit = fit-replaced t sound old row found on;
          time_bound = sound.orderly.time_bound;
          charged_bound = sound.orderly.charged_bound;
        };
        within = within-of (changed t (PutTable row)) (tables-fit t (rows_with table_id row t.content.tables) f (ap (λ n. nat_le n (bound_of quantity.Tables)) (same-length table_id row t.content.tables known) ∙ f.parts.1.1.0) (all-with table_id row t.content.tables table_fits f.numbers.1.1.0 fits));
      }

  replaces-told : keeps_name old row ≡ true → Replaces row old t.content.tables
  replaces-told keeps =
      let both = and_parts (nat_eq row.namespace old.namespace) (bytes_eq row.name old.name) keeps in
      record {
        found = found;
        namespace = eqb-true row.namespace old.namespace both.0;
        name = same-text row.name old.name both.1;
      }

  pub commit-sound : HasValidMetadata row → is_commit old row ≡ true → IsSound (changed t (PutTable row))
  commit-sound valid commits =
      let names = and_parts (keeps_name old row) (is_row row && stays old row) commits in
      let parts = and_parts (is_row row) (stays old row) names.1 in
      let text = bytes_eq row.metadata.location old.metadata.location in
      let place = and_parts (same_place row.location old.location) (text && nat_le old.moves row.moves) parts.1 in
      let rest = and_parts text (nat_le old.moves row.moves) place.1 in
      let lies : row.location ≡ old.location = (pointwise_decides bytes_decides row.location old.location).0 place.0 in
      let before = found-holds (has_id table_id row.id) IsSoundTable t.content.tables old sound.orderly.content.tables.each found in
      let placed = same-text row.metadata.location old.metadata.location rest.0 ∙ before.placed ∙ ap location_text (sym lies) in
      let replaces = replaces-told names.0 in
      replaced-state replaces (stays-apart row old t.content.tables replaces (IdsDiffer-rising table_id t.content.tables sound.orderly.content.tables.numbered.rise) lies sound.orderly.content.tables.apart) (row-told row valid parts.0 placed)
      (record { moves = leb-true old.moves row.moves rest.1; stays = λ same. lies }) (and_parts (nat_le row.moves (row.version + 1)) (table_fits row) parts.0).1

  pub move-sound : HasValidMetadata row → is_move t old row ≡ true → IsSound (changed t (PutTable row))
  move-sound valid moves =
      let names = and_parts (keeps_name old row) (is_row row && (has_left t old row && is_placed row)) moves in
      let parts = and_parts (is_row row) (has_left t old row && is_placed row) names.1 in
      let place = and_parts (has_left t old row) (is_placed row) parts.1 in
      let others = overlapping row.location (row.id ∷ []) t.content.tables in
      let left = and_parts (nat_lt old.moves row.moves) (is_none others) place.0 in
      let more = ltb-true old.moves row.moves left.0 in
      replaced-state (replaces-told names.0) (clear-apart row t.content.tables (IdsDiffer-rising table_id t.content.tables sound.orderly.content.tables.numbered.rise) (none-told others left.1) sound.orderly.content.tables.apart)
      (row-told row valid parts.0 (same-text row.metadata.location (location_text row.location) place.1)) (record { moves = omega (arith, more); stays = λ same. absurd (omega (arith, more, same)) }) (and_parts (nat_le row.moves (row.version + 1)) (table_fits row) parts.0).1

-- a table with a new id
module _ (s : Rows) (sound : IsSound s) (counters : Counters) (follows : may_follow s counters ≡ true) (row : TableRow) where
  -- what the test tells
  record IsNew : Type 0 where
    pub id : is_new_id s counters row.id ≡ true
    pub namespace : knows namespace_id row.namespace s.content.namespaces ≡ true
    pub named : part_named row.namespace row.name s.content ≡ None
    pub few : nat_lt (length s.content.tables) (bound_of quantity.Tables) ≡ true
    pub passes : is_row row ≡ true
    pub clear : overlapping row.location [] s.content.tables ≡ None

  new-told : is_table_new s counters row ≡ true → IsNew
  new-told new =
      let free = is_name_free row.namespace row.name s.content in
      let clear = overlapping row.location [] s.content.tables in
      let few = nat_lt (length s.content.tables) (bound_of quantity.Tables) in
      let there = knows namespace_id row.namespace s.content.namespaces in
      let first = and_parts (is_new_id s counters row.id) (there && (free && (few && (is_row row && is_none clear)))) new in
      let second = and_parts there (free && (few && (is_row row && is_none clear))) first.1 in
      let third = and_parts free (few && (is_row row && is_none clear)) second.1 in
      let fourth = and_parts few (is_row row && is_none clear) third.1 in
      let last = and_parts (is_row row) (is_none clear) fourth.1 in
      record {
        id = first.0;
        namespace = second.0;
        named = free-told row.namespace row.name s.content third.0;
        few = fourth.0;
        passes = last.0;
        clear = none-told clear last.1;
      }

  pub placed-sound : HasValidMetadata row → may_place_table s counters row ≡ true → IsSound (changed (counted s counters) (PutTable row))
  placed-sound valid may =
      let parts = and_parts (is_table_new s counters row) (is_placed row) may in
      let new = new-told parts.0 in
      let id = new-id s counters row.id new.id in
      let rows = s.content.tables in
      let base = counted-sound s sound counters follows in
      let itself = row-told row valid new.passes (same-text row.metadata.location (location_text row.location) parts.1) in
      let unknown = unknown-later s sound table_id rows sound.orderly.content.tables.numbered row.id id.0 in
      let some = next_id-some s sound in
      let pushed = pushed_table row.id s.content row (more_ids s.next_id row.id s.content id.0 sound.orderly.content) (omega (arith, some, id.0)) refl new.namespace new.named new.clear itself in
      let later = more_ids (row.id + 1) counters.next_id (record s.content { tables = rows ++ row ∷ [] }) (omega (arith, id.1)) pushed in
      let f = fits-of (counted s counters) base in
      record {
        orderly = record {
          access = base.orderly.access;
          content = subst (λ after. IsSoundContent counters.next_id (record s.content { tables = after })) (sym (rows_with-new table_id row rows unknown)) later;
          ties = put_table s.access s.content sound.orderly.ties row (λ old there. absurd (true≢false (sym (sym (is_some-row_of table_id row.id rows) ∙ ap is_some there) ∙ unknown))) (no-access_id s sound row.id id.0);
          tokens = base.orderly.tokens;
          tokens_fit = each-join (IsTokenOf s.next_id s.next_serial) (FitsTable rows) (FitsTable (rows_with table_id row rows)) s.tokens.tokens (λ token is fits. subst (FitsFound token) (sym (other token is.table.1 id.0)) fits) sound.orderly.tokens.tokens sound.orderly.tokens_fit;
          time_bound = base.orderly.time_bound;
          charged_bound = base.orderly.charged_bound;
        };
        within = within-of (changed (counted s counters) (PutTable row)) (tables-fit (counted s counters) (rows_with table_id row rows) f (few-with table_id row rows (bound_of quantity.Tables) unknown new.few) (all-with table_id row rows table_fits f.numbers.1.1.0 (and_parts (nat_le row.moves (row.version + 1)) (table_fits row) new.passes).1));
      }
    where
      -- the table of a storage token that was issued before
      other : (token : TokenRow) → token.table < s.next_id → s.next_id ≤ row.id → row_of table_id token.table (rows_with table_id row s.content.tables) ≡ row_of table_id token.table s.content.tables
      other token below later =
          row_of-rows_with table_id token.table row s.content.tables ∙ ap (λ b. cond b (Some row) (row_of table_id token.table s.content.tables)) (ne_eqb token.table row.id (λ same. omega (arith, below, later, same)))
