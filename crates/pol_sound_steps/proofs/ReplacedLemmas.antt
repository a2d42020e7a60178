-- Tables stay sound where one is replaced that keeps its id, its namespace and its name.
use Rattle.std.proofs.Common.{◌≡◌, ℕ, Bool, true, false, cond, ◌||◌, ◌&&◌, not, List, [], ◌∷◌, map, Some, None, is_some, refl, sym, ap, subst, ◌∙◌, true≢false}
use Rattle.std.specs.List.{list_any, AllByRecursion}
use Rattle.std.proofs.Math.Bool.{or_comm}
use Rattle.std.proofs.lemmas.Bool.{eqb-true}
use Rattle.std.proofs.lemmas.Map.Keys.{IsDistinct-cons, IsDistinct-head, IsDistinct-tail}
use Rattle.pol_access.proofs.KeptLemmas.{map-each}
use Rattle.pol_content.specs.Content.{ContentRows, namespace_id}
use Rattle.pol_content.specs.Sound.{IsSoundContent}
use Rattle.pol_content.proofs.SoundLemmas.{altered_tables, distinct-map, each-fails, none-found}
use Rattle.pol_locations.specs.Location.{is_cover, is_overlap}
use Rattle.pol_locations.specs.LocationSet.{is_clash}
use Rattle.pol_table_rows.specs.Sound.{IsSoundTable, LocationsApart}
use Rattle.pol_table_rows.specs.Tables.{is_table_named, member_of, overlapping, table_id}
use Rattle.pol_table_rows.specs.declared.row.TableRow.{TableRow}
use Rattle.pol_tables.specs.Table.{has_id, knows, row_of, rows_with, IdsDiffer}
use Rattle.pol_tables.proofs.ListLemmas.{each-join, each-map, each-weaken}
use Rattle.pol_tables.proofs.NamedLemmas.{each-own}
use Rattle.pol_tables.proofs.RisingLemmas.{IdsDiffer-rising}
use Rattle.pol_tables.proofs.TableLemmas.{differ_past, is_some-row_of, lacks_past, rows_with-known, some_is}

abbrev overlap_rows : TableRow → TableRow → Bool
overlap_rows left right = is_overlap left.location right.location

-- an overlap goes both ways
swapped : (left right : TableRow) → overlap_rows left right ≡ overlap_rows right left
swapped left right =
    or_comm (is_cover left.location right.location) (is_cover right.location left.location)

-- a row that keeps its id, its namespace and its name: to put it is to alter the rest under its id
module _ (row : TableRow) where
  abbrev altered : Bool → TableRow → TableRow
  altered has kept = record {
    id = kept.id;
    namespace = kept.namespace;
    name = kept.name;
    version = cond has row.version kept.version;
    moves = cond has row.moves kept.moves;
    location = cond has row.location kept.location;
    metadata = cond has row.metadata kept.metadata;
  }

  abbrev pub alter_one : TableRow → TableRow
  alter_one kept = altered (has_id table_id row.id kept) kept

  -- of the row in whose place it is put
  pub record Replaces (old : TableRow) (rows : List TableRow) : Type 0 where
    pub found : row_of table_id row.id rows ≡ Some old
    pub namespace : row.namespace ≡ old.namespace
    pub name : row.name ≡ old.name

  module _ (old : TableRow) (rows : List TableRow) (replaces : Replaces old rows) where
    one-row : (kept : TableRow) → row_of table_id kept.id rows ≡ Some kept → has_id table_id row.id kept ≡ true → old ≡ kept
    one-row kept own has =
        some_is old kept (sym replaces.found ∙ ap (λ id. row_of table_id id rows) (eqb-true row.id kept.id has) ∙ own)

    is_altered : (kept : TableRow) → row_of table_id kept.id rows ≡ Some kept → (has : Bool) → has_id table_id row.id kept ≡ has → cond has row kept ≡ altered has kept
    is_altered kept own false apart = refl
    is_altered kept own true has =
        let is = one-row kept own has in
        λ i. record {
          id = eqb-true row.id kept.id has i;
          namespace = (replaces.namespace ∙ ap (λ (one : TableRow). one.namespace) is) i;
          name = (replaces.name ∙ ap (λ (one : TableRow). one.name) is) i;
          version = row.version;
          moves = row.moves;
          location = row.location;
          metadata = row.metadata;
        }

    -- where it lies where the other lay, each lies where it lay
    stays : row.location ≡ old.location → (kept : TableRow) → row_of table_id kept.id rows ≡ Some kept → (has : Bool) → has_id table_id row.id kept ≡ has → (altered has kept).location ≡ kept.location
    stays same kept own false apart = refl
    stays same kept own true has = same ∙ ap (λ (one : TableRow). one.location) (one-row kept own has)

  any-named : (namespace : ℕ) (name : List ℕ) (rows : List TableRow) → list_any (is_table_named namespace name) (map alter_one rows) ≡ list_any (is_table_named namespace name) rows
  any-named namespace name [] = refl
  any-named namespace name (kept ∷ rows) =
      ap (λ b. is_table_named namespace name kept || b) (any-named namespace name rows)

  sound-altered : (kept : TableRow) (has : Bool) → IsSoundTable row → IsSoundTable kept → IsSoundTable (altered has kept)
  sound-altered kept true itself before =
      record { metadata = itself.metadata; placed = itself.placed; moved = itself.moved }
  sound-altered kept false itself before =
      record { metadata = before.metadata; placed = before.placed; moved = before.moved }

  -- so the rows stay sound, where no two overlap then
  pub replaced-sound : (next_id : ℕ) (content : ContentRows) (old : TableRow) → IsSoundContent next_id content → Replaces old content.tables → LocationsApart (map alter_one content.tables) → IsSoundTable row
      → IsSoundContent next_id (record content { tables = rows_with table_id row content.tables })
  replaced-sound next_id content old sound replaces apart itself =
      let rows = content.tables in
      let known : knows table_id row.id rows ≡ true = sym (is_some-row_of table_id row.id rows) ∙ ap is_some replaces.found in
      let owns = each-own table_id rows (IdsDiffer-rising table_id rows sound.tables.numbered.rise) in
      let alike = map-each (λ kept. cond (has_id table_id row.id kept) row kept) alter_one rows (each-weaken (λ kept. row_of table_id kept.id rows ≡ Some kept) (λ kept. cond (has_id table_id row.id kept) row kept ≡ alter_one kept) rows (λ kept own. is_altered old rows replaces kept own (has_id table_id row.id kept) refl) owns) in
      let names = distinct-map (λ left right. is_table_named left.namespace left.name right) alter_one (λ left right. refl) rows sound.tables.names_differ in
      let namespaces = each-map (λ one. knows namespace_id one.namespace content.namespaces ≡ true) alter_one rows sound.tables.namespaces in
      let each = each-map IsSoundTable alter_one rows (each-weaken IsSoundTable (λ kept. IsSoundTable (alter_one kept)) rows (λ kept. sound-altered kept (has_id table_id row.id kept) itself) sound.tables.each) in
      let views = each-weaken (λ view. list_any (is_table_named view.namespace view.name) rows ≡ false) (λ view. list_any (is_table_named view.namespace view.name) (map alter_one rows) ≡ false) content.views (λ view none. any-named view.namespace view.name rows ∙ none) sound.views.names_apart in
      subst (λ after. IsSoundContent next_id (record content { tables = after })) (sym (rows_with-known table_id row rows known ∙ alike)) (altered_tables next_id content alter_one (λ kept. refl) names namespaces apart each views sound)

  -- where each lies where it lay, no two overlap
  each-stays : (rows : List TableRow) → AllByRecursion (λ kept. (alter_one kept).location ≡ kept.location) rows → LocationsApart rows → LocationsApart (map alter_one rows)
  each-stays [] stay apart = apart
  each-stays (first ∷ rest) stay apart =
      IsDistinct-cons overlap_rows (alter_one first) (map alter_one rest)
      (each-map (λ other. overlap_rows (alter_one first) other ≡ false) alter_one rest (each-join (λ other. (alter_one other).location ≡ other.location) (λ other. overlap_rows first other ≡ false) (λ other. overlap_rows (alter_one first) (alter_one other) ≡ false) rest (λ other same clear. (λ i. is_overlap (stay.0 i) (same i)) ∙ clear) stay.1 (IsDistinct-head overlap_rows first rest apart)))
      (each-stays rest stay.1 (IsDistinct-tail overlap_rows first rest apart))

  pub stays-apart : (old : TableRow) (rows : List TableRow) → Replaces old rows → IdsDiffer table_id rows → row.location ≡ old.location → LocationsApart rows → LocationsApart (map alter_one rows)
  stays-apart old rows replaces differ same =
      each-stays rows (each-weaken (λ kept. row_of table_id kept.id rows ≡ Some kept) (λ kept. (alter_one kept).location ≡ kept.location) rows (λ kept own. stays old rows replaces same kept own (has_id table_id row.id kept) refl) (each-own table_id rows differ))

  -- a row that is clear of those of other ids
  abbrev ClearOf : TableRow → Type 0
  ClearOf other = has_id table_id row.id other ≡ false → overlap_rows row other ≡ false

  pair-apart : (first other : TableRow) (here there : Bool) → (here ≡ true → there ≡ false) → (there ≡ false → overlap_rows row other ≡ false) → (here ≡ false → overlap_rows row first ≡ false) → overlap_rows first other ≡ false
      → overlap_rows (altered here first) (altered there other) ≡ false
  pair-apart first other true true once clear before apart = absurd (true≢false (once refl))
  pair-apart first other true false once clear before apart = clear refl
  pair-apart first other false true once clear before apart = swapped first row ∙ before refl
  pair-apart first other false false once clear before apart = apart

  moves-apart : (rows : List TableRow) → IdsDiffer table_id rows → AllByRecursion ClearOf rows → LocationsApart rows → LocationsApart (map alter_one rows)
  moves-apart [] differ clear apart = apart
  moves-apart (first ∷ rest) differ clear apart =
      IsDistinct-cons overlap_rows (alter_one first) (map alter_one rest)
      (each-map (λ other. overlap_rows (alter_one first) other ≡ false) alter_one rest
      (each-join (λ other. has_id table_id row.id first ≡ true → has_id table_id row.id other ≡ false) (λ other. ClearOf other × (overlap_rows first other ≡ false)) (λ other. overlap_rows (alter_one first) (alter_one other) ≡ false) rest (λ other once both. pair-apart first other (has_id table_id row.id first) (has_id table_id row.id other) once both.0 clear.0 both.1)
      (given rest (λ here. lacks_past table_id row.id first rest differ here)) (each-join ClearOf (λ other. overlap_rows first other ≡ false) (λ other. ClearOf other × (overlap_rows first other ≡ false)) rest (λ other so one. (so, one)) clear.1 (IsDistinct-head overlap_rows first rest apart))))
      (moves-apart rest (differ_past table_id first rest differ) clear.1 (IsDistinct-tail overlap_rows first rest apart))
    where
      given : {Q : Type 0} (others : List TableRow) → (Q → AllByRecursion (λ other. has_id table_id row.id other ≡ false) others) → AllByRecursion (λ other. Q → has_id table_id row.id other ≡ false) others
      given [] all = tt
      given (other ∷ others) all = (λ so. (all so).0, given others (λ so. (all so).1))

  -- a clash is with another id
  clash-other : (overlaps same : Bool) → (overlaps && not (same || false)) ≡ false → same ≡ false → overlaps ≡ false
  clash-other true true none other = absurd (true≢false other)
  clash-other true false none other = absurd (true≢false none)
  clash-other false same none other = refl

  pub clear-apart : (rows : List TableRow) → IdsDiffer table_id rows → overlapping row.location (row.id ∷ []) rows ≡ None → LocationsApart rows → LocationsApart (map alter_one rows)
  clear-apart rows differ none =
      moves-apart rows differ (each-weaken (λ other. is_clash row.location (row.id ∷ []) (member_of other) ≡ false) ClearOf rows (λ other clear apart. swapped row other ∙ clash-other (overlap_rows other row) (has_id table_id row.id other) clear apart) (each-fails (λ other. is_clash row.location (row.id ∷ []) (member_of other)) rows (none-found (λ other. is_clash row.location (row.id ∷ []) (member_of other)) rows none)))
