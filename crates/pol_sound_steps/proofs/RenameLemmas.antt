-- A sound state with a table in the place of one of another name is sound.
use Rattle.std.proofs.Common.{◌≡◌, ℕ, Bool, true, false, cond, ◌&&◌, nat_le, List, [], ◌∷◌, map, Option, Some, is_some, nat_eq, refl, sym, ap, subst, ◌∙◌, arith}
use Rattle.std.specs.List.{AllByRecursion}
use Rattle.std.specs.Str.{bytes_eq}
use Rattle.std.proofs.lemmas.Bool.{and_from, and_parts, eq-eqb}
use Rattle.std.proofs.lemmas.Slice.Eq.{bytes_eq-Decides}
use Rattle.pol_access.proofs.KeptLemmas.{found-holds}
use Rattle.pol_commands.specs.declared.reply.Quantity.TheVariants as quantity
use Rattle.pol_content.specs.Ties.{catalog_of_namespace, is_access_id}
use Rattle.pol_content.specs.declared.change.Change.TheVariants.{PutTable}
use Rattle.pol_content.proofs.SoundLemmas.{renamed_table}
use Rattle.pol_content.proofs.TiedContentLemmas.{put_table}
use Rattle.pol_content.proofs.TiesLemmas.{row_of-put}
use Rattle.pol_content_steps.proofs.NameLemmas.{MayTake, take-told}
use Rattle.pol_rules.proofs.FitLemmas.{fit-replaced}
use Rattle.pol_sound_access.proofs.DecidedLemmas.{each, passes}
use Rattle.pol_sound_bounds.specs.Judged.{table_fits}
use Rattle.pol_sound_content.specs.Valid.{HasValidMetadata}
use Rattle.pol_content_steps.specs.Names.{may_take_name}
use Rattle.pol_sound_steps.specs.Steps.{is_rename}
use Rattle.pol_sound_steps.specs.Steps.{is_row, keeps_name, stays}
use Rattle.pol_access_steps.proofs.BoundsLemmas.{all-with, fits-of, same-length, tables-fit, within-of}
use Rattle.pol_sound_steps.proofs.TableLemmas.{commit-sound}
use Rattle.pol_state.specs.Applied.{changed}
use Rattle.pol_state.specs.Bounds.{bound_of, table_over_limit}
use Rattle.pol_state.specs.Rows.{Rows}
use Rattle.pol_state.specs.Sound.{IsSound}
use Rattle.pol_table_rows.specs.Tables.{table_id}
use Rattle.pol_table_rows.specs.declared.row.TableRow.{TableRow}
use Rattle.pol_tables.specs.Table.{has_id, knows, row_of, rows_with}
use Rattle.pol_tables.proofs.TableLemmas.{is_some-row_of, key-row_of, replaced, rows_with-known, some_is}

-- a row that is put twice is there once, as it was put last
module _ (first last : TableRow) (same : first.id ≡ last.id) where
  -- a row once both are put, where the first one is put in its place or isn't
  abbrev put_over : Bool → TableRow → TableRow
  put_over has kept = replaced table_id last (cond has first kept)

  last-stays : (kept : TableRow) (b : Bool) → has_id table_id last.id kept ≡ b → put_over (has_id table_id first.id kept) kept ≡ cond b last kept
  last-stays kept true is =
      ap (λ b. put_over b kept) (ap (λ id. has_id table_id id kept) same ∙ is) ∙ ap (λ b. cond b last first) (eq-eqb last.id first.id (sym same))
  last-stays kept false is =
      ap (λ b. put_over b kept) (ap (λ id. has_id table_id id kept) same ∙ is) ∙ ap (λ b. cond b last kept) is

  each-once : (rows : List TableRow) → map (replaced table_id last) (map (replaced table_id first) rows) ≡ map (replaced table_id last) rows
  each-once [] = refl
  each-once (kept ∷ rows) =
      λ i. last-stays kept (has_id table_id last.id kept) refl i ∷ each-once rows i

  put-once : (rows : List TableRow) → knows table_id last.id rows ≡ true → rows_with table_id last (rows_with table_id first rows) ≡ rows_with table_id last rows
  put-once rows known =
      let found = row_of-put table_id first rows in
      let there = sym (is_some-row_of table_id first.id (rows_with table_id first rows)) ∙ ap is_some found in
      rows_with-known table_id last (rows_with table_id first rows) (ap (λ id. knows table_id id (rows_with table_id first rows)) (sym same) ∙ there)
      ∙ ap (map (replaced table_id last)) (rows_with-known table_id first rows (ap (λ id. knows table_id id rows) same ∙ known))
      ∙ each-once rows
      ∙ sym (rows_with-known table_id last rows known)

-- the old table under the name of the one that is put: it is renamed first, and then this is committed to it
abbrev with_name : TableRow → TableRow → TableRow
with_name row old = record old { namespace = row.namespace; name = row.name }

module _ (t : Rows) (sound : IsSound t) (old row : TableRow) (found : row_of table_id row.id t.content.tables ≡ Some old) where
  own : row.id ≡ old.id
  own = key-row_of table_id row.id old t.content.tables found

  known : knows table_id row.id t.content.tables ≡ true
  known = sym (is_some-row_of table_id row.id t.content.tables) ∙ ap is_some found

  of-old : (P : TableRow → Type 0) → AllByRecursion P t.content.tables → P old
  of-old P all = found-holds (has_id table_id row.id) P t.content.tables old all found

  old-fits : table_fits old ≡ true
  old-fits =
      of-old (λ kept. table_fits kept ≡ true) ((each table_fits (λ kept. table_fits kept ≡ true) (λ kept. passes (table_fits kept)) t.content.tables).0 (fits-of t sound).numbers.1.1.0)

  name-fits : table_fits (with_name row old) ≡ true
  unfolding table_over_limit
  name-fits = old-fits

  named-sound : MayTake old.namespace row.namespace row.name t.content → IsSound (changed t (PutTable (with_name row old)))
  named-sound may =
      let mid = with_name row old in
      let there : row_of table_id mid.id t.content.tables ≡ Some old = ap (λ id. row_of table_id id t.content.tables) (sym own) ∙ found in
      let lies-in : TableRow → Option ℕ = (λ one. catalog_of_namespace one.namespace t.content) in
      let free = of-old (λ kept. is_access_id kept.id t.access ≡ false) sound.orderly.ties.ids_apart.tables in
      let f = fits-of t sound in
      let is-known = ap (λ id. knows table_id id t.content.tables) (sym own) ∙ known in
      let few = ap (λ n. nat_le n (bound_of quantity.Tables)) (same-length table_id mid t.content.tables is-known) ∙ f.parts.1.1.0 in
      let all = all-with table_id mid t.content.tables table_fits f.numbers.1.1.0 name-fits in
      record {
        orderly = record {
          access = sound.orderly.access;
          content = renamed_table t.next_id t.content old mid sound.orderly.content there refl may.there may.free;
          ties = put_table t.access t.content sound.orderly.ties mid (λ other is. may.catalog ∙ ap lies-in (some_is old other (sym there ∙ is))) free;
          tokens = sound.orderly.tokens;
          tokens_fit = fit-replaced t sound old mid there (record { moves = omega arith; stays = λ same. refl });
          time_bound = sound.orderly.time_bound;
          charged_bound = sound.orderly.charged_bound;
        };
        within = within-of (changed t (PutTable mid)) (tables-fit t (rows_with table_id mid t.content.tables) f few all);
      }

  pub rename-sound : HasValidMetadata row → is_rename t old row ≡ true → IsSound (changed t (PutTable row))
  rename-sound valid renames =
      let mid = with_name row old in
      let parts = and_parts (may_take_name old.namespace row.namespace row.name t.content) (is_row row && stays old row) renames in
      let named = named-sound (take-told old.namespace row.namespace row.name t.content parts.0) in
      let after = rows_with table_id mid t.content.tables in
      let there : row_of table_id row.id after ≡ Some mid = ap (λ id. row_of table_id id after) own ∙ row_of-put table_id mid t.content.tables in
      let same-name = (bytes_eq-Decides row.name row.name).1 refl in
      let keeps : keeps_name mid row ≡ true = and_from (nat_eq row.namespace row.namespace) (bytes_eq row.name row.name) (eq-eqb row.namespace row.namespace refl) same-name in
      subst (λ rows. IsSound (record t { content = record t.content { tables = rows } })) (put-once mid row (sym own) t.content.tables known)
      (commit-sound (changed t (PutTable mid)) named mid row there valid (and_from (keeps_name mid row) (is_row row && stays mid row) keeps parts.1))
