-- The actions on views keep a state orderly.
use Rattle.std.proofs.Common.{◌≡◌, ℕ, ◌+◌, ◌≤◌, ◌^◌, Bool, false, true, not, List, Option, None, Some, Result, Ok, Err, option_and_then, is_some, refl, sym, ap, subst, ◌∙◌, arith, lit≤, true≢false}
use Rattle.std.proofs.Math.Logic.{∥∥₁_elim, ∥∥₁_map, ∥∥₁_prop}
use Rattle.std.specs.Option.{option_map}
use Rattle.std.specs.Str.{bytes_eq}
use Rattle.std.proofs.lemmas.Slice.Eq.{bytes_eq-Decides}
use Rattle.pol_access.specs.declared.securable.Securable.TheVariants as securable
use Rattle.pol_access.proofs.SoundLemmas.{dropped_grants, more_ids as access_more_ids}
use Rattle.pol_tables.specs.Table.{has_id, knows, row_of}
use Rattle.pol_tables.proofs.NumberedLemmas.{below-next}
use Rattle.pol_tables.proofs.RisingLemmas.{knows-below}
use Rattle.pol_tables.proofs.TableLemmas.{is_some-row_of, some_is}
use Rattle.pol_locations.specs.Location.{IsLocation, location_refusal, location_text, parse_refusal}
use Rattle.pol_locations.proofs.Segments.{IsLocation-from_refusal}
use Rattle.pol_locations.proofs.Texts.{only_texts, parse_refusal-location_text}
use Rattle.pol_names.specs.declared.identifier.Identifier.{Identifier}
use Rattle.pol_updates.specs.Updates.{Place}
use Rattle.pol_views.specs.Creation.{created_view}
use Rattle.pol_views.specs.Updates.{view_after}
use Rattle.pol_views.specs.declared.metadata.ViewMetadata.{ViewMetadata}
use Rattle.pol_views.proofs.LawLemmas.{keeps_at_most_hundred, stays_valid}
use Rattle.pol_views.proofs.ValidLemmas.{created_valid}
use Rattle.pol_view_rows.specs.Sound.{IsSoundView}
use Rattle.pol_view_rows.specs.Views.{view_id}
use Rattle.pol_view_rows.specs.declared.row.ViewRow.{ViewRow}
use Rattle.pol_content.specs.Chain.{view_at}
use Rattle.pol_content.specs.Content.{catalog_named, namespace_id, namespace_named, part_named}
use Rattle.pol_content.specs.Sound.{IsSoundContent}
use Rattle.pol_content.specs.Ties.{catalog_of_namespace, is_access_id}
use Rattle.pol_content.specs.declared.rows.CatalogRow.{CatalogRow}
use Rattle.pol_content.specs.declared.rows.NamespaceRow.{NamespaceRow}
use Rattle.pol_content.proofs.SoundLemmas.{new_rows_last}
use Rattle.pol_content.proofs.SoundViewsLemmas as content
use Rattle.pol_content.proofs.TiedViewsLemmas as ties
use Rattle.pol_commands.specs.declared.command.Command.{Command}
use Rattle.pol_commands.specs.declared.create_view.CreateView.{CreateView}
use Rattle.pol_commands.specs.declared.reply.Refusal.{Refusal}
use Rattle.pol_commands.specs.declared.reply.Refusal.TheVariants.{BadLocation}
use Rattle.pol_commands.specs.declared.view_commit.ViewCommit.{ViewCommit}
use Rattle.pol_state.specs.Bounds.{EachPasses}
use Rattle.pol_state.specs.Rows.{Rows}
use Rattle.pol_state.specs.Sound.{IsOrderly, IsSound}
use Rattle.pol_rules.specs.Acting.{stamped}
use Rattle.pol_rules.specs.Prologues.{namespace_row_at, view_row_at}
use Rattle.pol_rules.specs.Rules.{bad_text, given, name_taken, time_of}
use Rattle.pol_rules.specs.TableRules.{bad_location, default_location, location_asked}
use Rattle.pol_rules.proofs.FoundLemmas.{found-holds}
use Rattle.pol_rules.proofs.RulesLemmas.{name-free}
use Rattle.pol_rules.proofs.SoundLemmas.{next_id-some, orderly-done, tables-orderly, IsWithin}
use Rattle.pol_table_actions.proofs.ChangesLemmas.{unknown-later}
use Rattle.pol_table_actions.specs.Creation.{uuid_of}
use Rattle.pol_view_actions.specs.Altered.{with_altered}
use Rattle.pol_view_actions.specs.Creation.{create_view, metadata_at, new_view, view_in, view_placed, with_view}
use Rattle.pol_view_actions.specs.Renaming.{rename_view, renamed, renamed_view}
use Rattle.pol_view_actions.specs.Replacing.{MadeView, committed, made_at, made_by, misplaced, misplaced_if, replace_view, replaced_view}
use Rattle.pol_view_actions.specs.Views.{drop_view, without_view}
use Rattle.pol_view_actions.proofs.AlteredLemmas.{namespace-lies, namespace-there, view-lies, view-own}

-- what is refused in no case was there in no case
mapped-none : {X : Type 0} (refuse : X → Refusal) (found : Option X) → option_map refuse found ≡ None → found ≡ None
mapped-none refuse None none = refl
mapped-none refuse (Some one) some = let contrary : Some (refuse one) ≡ None = some in cc

-- a location that is asked for is one, where it is no bad one
asked-location : (levels : List (List ℕ)) (given_text : Option (List ℕ)) (name : List ℕ) (catalog : CatalogRow) → bad_location levels given_text name catalog ≡ None → IsLocation (location_asked levels given_text name catalog)
unfolding bad_location bad_text
asked-location levels None name catalog passes =
    IsLocation-from_refusal (default_location catalog levels name) (mapped-none (BadLocation 0) (location_refusal (default_location catalog levels name)) passes)
asked-location levels (Some text) name catalog passes = (only_texts text (mapped-none (BadLocation 0) (parse_refusal text) passes)).0

-- the catalogue and the namespace in which a new view is placed
pub record Placed (s : Rows) (command : Command) (name : List ℕ) (levels : List (List ℕ)) (request : CreateView) (row : ViewRow) : Type 0 where
  pub catalog : CatalogRow
  pub catalog_is : catalog_named name s.content ≡ Some catalog
  pub namespace : NamespaceRow
  pub namespace_is : namespace_named catalog.id levels s.content ≡ Some namespace
  pub row_is : view_placed s command request (location_asked levels request.location request.name catalog) namespace ≡ row

pub placed-parts : (s : Rows) (command : Command) (name : List ℕ) (levels : List (List ℕ)) (request : CreateView) (row : ViewRow) → new_view s command name levels request ≡ Some row → Placed s command name levels request row
unfolding new_view
placed-parts s command name levels request row made = by (catalog_named name s.content) refl made
  where
    within : (catalog : CatalogRow) → catalog_named name s.content ≡ Some catalog → (found : Option NamespaceRow) → namespace_named catalog.id levels s.content ≡ found
        → option_map (view_placed s command request (location_asked levels request.location request.name catalog)) found ≡ Some row → Placed s command name levels request row
    within catalog there None is none = let contrary : None ≡ Some row = none in cc
    within catalog there (Some namespace) is placed = record {
      catalog = catalog;
      catalog_is = there;
      namespace = namespace;
      namespace_is = is;
      row_is = some_is (view_placed s command request (location_asked levels request.location request.name catalog) namespace) row placed;
    }

    by : (found : Option CatalogRow) → catalog_named name s.content ≡ found → option_and_then (view_in s command levels request) found ≡ Some row → Placed s command name levels request row
    by None is none = let contrary : None ≡ Some row = none in cc
    by (Some catalog) is placed = within catalog is (namespace_named catalog.id levels s.content) refl placed

-- a new view takes the next id
pub placed-id : (s : Rows) (command : Command) (name : List ℕ) (levels : List (List ℕ)) (request : CreateView) (row : ViewRow) → new_view s command name levels request ≡ Some row → row.id ≡ s.next_id
placed-id s command name levels request row made =
    ap (λ (one : ViewRow). one.id) (sym (placed-parts s command name levels request row made).row_is)

-- a new view is sound by itself
placed-sound : (s : Rows) (command : Command) (request : CreateView) (location : List (List ℕ)) (namespace : NamespaceRow) → time_of s command ≤ 2 ^ 62 → IsLocation location
    → IsSoundView (view_placed s command request location namespace)
unfolding metadata_at created_view
placed-sound s command request location namespace bound is = record {
  metadata = ∥∥₁_map request.formed (λ forms. record {
    valid = created_valid (uuid_of command.words.a command.words.b) (location_text location) request.schema request.view_version request.properties (time_of s command) (record { schema_form = forms.0; version_time = forms.1; time = omega (arith, bound) });
    few = lit≤ tt;
  });
  placed = parse_refusal-location_text location is;
}

-- the view that is renamed, the namespace that it gets into, and the catalogue of both
pub record Renamed (s : Rows) (name : List ℕ) (source destination : Identifier) (row : ViewRow) : Type 0 where
  pub catalog : CatalogRow
  pub catalog_is : catalog_named name s.content ≡ Some catalog
  pub old : ViewRow
  pub old_is : view_at catalog.id source.namespace source.name s.content ≡ Some old
  pub namespace : NamespaceRow
  pub namespace_is : namespace_named catalog.id destination.namespace s.content ≡ Some namespace
  pub row_is : renamed destination.name old namespace ≡ row

renamed-parts : (s : Rows) (name : List ℕ) (source destination : Identifier) (row : ViewRow) → renamed_view s name source destination ≡ Some row → Renamed s name source destination row
unfolding renamed_view view_row_at namespace_row_at
renamed-parts s name source destination row made = by (catalog_named name s.content) refl made
  where
    within : (catalog : CatalogRow) → catalog_named name s.content ≡ Some catalog
        → (found : Option ViewRow) → view_at catalog.id source.namespace source.name s.content ≡ found
        → (there : Option NamespaceRow) → namespace_named catalog.id destination.namespace s.content ≡ there
        → option_and_then (λ (old : ViewRow). option_map (renamed destination.name old) there) found ≡ Some row → Renamed s name source destination row
    within catalog is None none there at made = let contrary : None ≡ Some row = made in cc
    within catalog is (Some old) found None none made = let contrary : None ≡ Some row = made in cc
    within catalog is (Some old) found (Some namespace) at made = record {
      catalog = catalog;
      catalog_is = is;
      old = old;
      old_is = found;
      namespace = namespace;
      namespace_is = at;
      row_is = some_is (renamed destination.name old namespace) row made;
    }

    by : (found : Option CatalogRow) → catalog_named name s.content ≡ found
        → option_and_then (λ (old : ViewRow). option_map (renamed destination.name old) (option_and_then (λ (catalog : CatalogRow). namespace_named catalog.id destination.namespace s.content) found)) (option_and_then (λ (catalog : CatalogRow). view_at catalog.id source.namespace source.name s.content) found) ≡ Some row
        → Renamed s name source destination row
    by None is made = let contrary : None ≡ Some row = made in cc
    by (Some catalog) is made =
        within catalog is (view_at catalog.id source.namespace source.name s.content) refl (namespace_named catalog.id destination.namespace s.content) refl made

-- the view that is committed to, and its metadata after the updates
pub record Made (s : Rows) (command : Command) (name : List ℕ) (commit : ViewCommit) (row : ViewRow) : Type 0 where
  pub old : ViewRow
  pub old_is : view_row_at s name commit.identifier ≡ Some old
  pub made : ViewMetadata
  pub made_is : view_after old.metadata commit.updates (time_of s command) ≡ Ok made
  pub at : made_at s command name commit ≡ Some (record { before = old; made = made })
  pub row_is : committed commit old made ≡ row

pub made-parts : (s : Rows) (command : Command) (name : List ℕ) (commit : ViewCommit) (row : ViewRow) → replaced_view s command name commit ≡ Some row → Made s command name commit row
unfolding replaced_view made_at
made-parts s command name commit row made = by (view_row_at s name commit.identifier) refl made
  where
    of : (old : ViewRow) → view_row_at s name commit.identifier ≡ Some old → (outcome : Result ViewMetadata Place) → view_after old.metadata commit.updates (time_of s command) ≡ outcome
        → option_map (λ (one : MadeView). committed commit one.before one.made) (made_by old outcome) ≡ Some row → Made s command name commit row
    of old there (Err place) is none = let contrary : None ≡ Some row = none in cc
    of old there (Ok meta) is made = record {
      old = old;
      old_is = there;
      made = meta;
      made_is = is;
      at = ap (option_and_then (λ (one : ViewRow). made_by one (view_after one.metadata commit.updates (time_of s command)))) there ∙ ap (made_by old) is;
      row_is = some_is (committed commit old meta) row made;
    }

    by : (found : Option ViewRow) → view_row_at s name commit.identifier ≡ found
        → option_map (λ (one : MadeView). committed commit one.before one.made) (option_and_then (λ (old : ViewRow). made_by old (view_after old.metadata commit.updates (time_of s command))) found) ≡ Some row → Made s command name commit row
    by None is none = let contrary : None ≡ Some row = none in cc
    by (Some old) is made = of old is (view_after old.metadata commit.updates (time_of s command)) refl made

-- a view lies at a location after a commit to it: where it is moved, and where it stays
still-placed : (old : ViewRow) (made : ViewMetadata) → parse_refusal old.metadata.location ≡ None → misplaced old made ≡ None → parse_refusal made.location ≡ None
unfolding misplaced bad_text
still-placed old made placed passes = by (bytes_eq made.location old.metadata.location) refl passes
  where
    by : (same : Bool) → bytes_eq made.location old.metadata.location ≡ same → misplaced_if (not same) made.location ≡ None → parse_refusal made.location ≡ None
    by true is stays = ap parse_refusal ((bytes_eq-Decides made.location old.metadata.location).0 is) ∙ placed
    by false is moves = mapped-none (BadLocation 0) (parse_refusal made.location) moves

-- a view that is committed to is sound by itself
committed-sound : (time : ℕ) (commit : ViewCommit) (old : ViewRow) (made : ViewMetadata) → time ≤ 2 ^ 62 → IsSoundView old → view_after old.metadata commit.updates time ≡ Ok made → misplaced old made ≡ None
    → IsSoundView (committed commit old made)
committed-sound time commit old made bound sound told passes = record {
  metadata = ∥∥₁_elim sound.metadata ∥∥₁_prop (λ kept. ∥∥₁_map commit.formed (λ forms. record {
    valid = stays_valid old.metadata commit.updates time made kept.valid forms (omega (arith, bound)) told;
    few = keeps_at_most_hundred old.metadata commit.updates time made kept.valid kept.few forms (omega (arith, bound)) told;
  }));
  placed = still-placed old made sound.placed passes;
}

module _ (s : Rows) (command : Command) (sound : IsSound s) (within : IsWithin s command) where
  -- a view that is there is sound by itself, and its id is no principal's and no role's
  own-sound : (row : ViewRow) → row_of view_id row.id s.content.views ≡ Some row → IsSoundView row
  own-sound row own = found-holds IsSoundView (has_id view_id row.id) s.content.views row sound.orderly.content.views.each own

  own-apart : (row : ViewRow) → row_of view_id row.id s.content.views ≡ Some row → is_access_id row.id s.access ≡ false
  own-apart row own =
      found-holds (λ (one : ViewRow). is_access_id one.id s.access ≡ false) (has_id view_id row.id) s.content.views row sound.orderly.ties.ids_apart.views own

  -- a view that is put
  orderly-with_view : (row : ViewRow) → row.id ≡ s.next_id → knows namespace_id row.namespace s.content.namespaces ≡ true → part_named row.namespace row.name s.content ≡ None → IsSoundView row
      → IsOrderly (stamped s command (with_view s row))
  orderly-with_view row id there free itself =
      let pushed = content.pushed_view s.next_id s.content sound.orderly.content row (next_id-some s sound) id there free itself in
      let last = (new_rows_last s.next_id s.content sound.orderly.content).3 row id in
      let unknown = knows-below view_id s.next_id s.content.views (below-next view_id s.next_id s.content.views sound.orderly.content.views.numbered) in
      tables-orderly s command s.access (with_view s row).content (s.next_id + 1) sound within (omega arith) (access_more_ids s.next_id (s.next_id + 1) s.access (omega arith) sound.orderly.access)
      (subst (λ rows. IsSoundContent (s.next_id + 1) (record s.content { views = rows })) (sym last) pushed)
      (ties.put_view s.access s.content sound.orderly.ties row (λ old known. unknown-row old (ap (λ n. row_of view_id n s.content.views) (sym id) ∙ known) unknown) (unknown-later s sound row.id (omega (arith, id))))
      sound.orderly.tokens_fit
    where
      unknown-row : (old : ViewRow) → row_of view_id s.next_id s.content.views ≡ Some old → knows view_id s.next_id s.content.views ≡ false → catalog_of_namespace row.namespace s.content ≡ catalog_of_namespace old.namespace s.content
      unknown-row old known unknown = absurd (true≢false (sym (sym (is_some-row_of view_id s.next_id s.content.views) ∙ ap is_some known) ∙ unknown))

  pub orderly-create_view : (name : List ℕ) (levels : List (List ℕ)) (request : CreateView) → EachPasses (create_view s command name levels request).rules → IsOrderly (stamped s command (create_view s command name levels request).after)
  unfolding namespace_row_at
  orderly-create_view name levels request passes = orderly-done s command sound within (new_view s command name levels request) (with_view s) (λ row made.
      let parts = placed-parts s command name levels request row made in
      let location = location_asked levels request.location request.name parts.catalog in
      let at = ap (option_and_then (λ (catalog : CatalogRow). namespace_named catalog.id levels s.content)) parts.catalog_is ∙ parts.namespace_is in
      let taken = sym (ap (λ one. given one (λ (namespace : NamespaceRow). name_taken (part_named namespace.id request.name s.content) request.name)) at) ∙ passes.1.1.1.1.0 in
      let free = name-free (part_named parts.namespace.id request.name s.content) request.name taken in
      let is = asked-location levels request.location request.name parts.catalog (sym (ap (λ one. given one (bad_location levels request.location request.name)) parts.catalog_is) ∙ passes.1.1.1.1.1.0) in
      subst (λ one. IsOrderly (stamped s command (with_view s one))) parts.row_is (orderly-with_view (view_placed s command request location parts.namespace) refl (namespace-there s sound parts.catalog.id levels parts.namespace parts.namespace_is) free (placed-sound s command request location parts.namespace within.time is)))

  -- a view that is dropped
  pub orderly-drop_view : (name : List ℕ) (identifier : Identifier) → EachPasses (drop_view s command name identifier).rules → IsOrderly (stamped s command (drop_view s command name identifier).after)
  orderly-drop_view name identifier passes = orderly-done s command sound within (view_row_at s name identifier) (without_view s) (λ row is.
      tables-orderly s command (without_view s row).access (without_view s row).content s.next_id sound within (omega arith) ((dropped_grants s.next_id s.access sound.orderly.access).1 (securable.View row.id)) (content.dropped_view s.next_id s.content sound.orderly.content row.id)
      (ties.dropped_view s.access s.content sound.orderly.ties row.id) sound.orderly.tokens_fit)

  -- a view that is renamed
  pub orderly-rename_view : (name : List ℕ) (source destination : Identifier) → EachPasses (rename_view s command name source destination).rules → IsOrderly (stamped s command (rename_view s command name source destination).after)
  unfolding namespace_row_at view_row_at
  orderly-rename_view name source destination passes = orderly-done s command sound within (renamed_view s name source destination) (with_altered s) (λ row made.
      let parts = renamed-parts s name source destination row made in
      let new = renamed destination.name parts.old parts.namespace in
      let at = ap (option_and_then (λ (catalog : CatalogRow). namespace_named catalog.id destination.namespace s.content)) parts.catalog_is ∙ parts.namespace_is in
      let free = name-free (part_named parts.namespace.id destination.name s.content) destination.name (sym (ap (λ one. given one (λ (namespace : NamespaceRow). name_taken (part_named namespace.id destination.name s.content) destination.name)) at) ∙ passes.1.1.1.1.1.1.0) in
      let own = view-own s sound name source parts.old (ap (option_and_then (λ (catalog : CatalogRow). view_at catalog.id source.namespace source.name s.content)) parts.catalog_is ∙ parts.old_is) in
      let itself = own-sound parts.old own in
      let lies = view-lies s sound parts.catalog.id source.namespace source.name parts.old parts.old_is in
      let into = namespace-lies s sound parts.catalog.id destination.namespace parts.namespace parts.namespace_is in
      subst (λ one. IsOrderly (stamped s command (with_altered s one))) parts.row_is
      (tables-orderly s command s.access (with_altered s new).content s.next_id sound within (omega arith) sound.orderly.access
      (content.renamed_view s.next_id s.content sound.orderly.content new parts.old own free (namespace-there s sound parts.catalog.id destination.namespace parts.namespace parts.namespace_is) (record { metadata = itself.metadata; placed = itself.placed }))
      (ties.put_view s.access s.content sound.orderly.ties new (λ other known.
      into ∙ sym (ap (λ (one : ViewRow). catalog_of_namespace one.namespace s.content) (some_is other parts.old (sym known ∙ own)) ∙ lies)) (own-apart parts.old own))
      sound.orderly.tokens_fit))

  -- a view that is committed to
  pub orderly-replace_view : (name : List ℕ) (commit : ViewCommit) → EachPasses (replace_view s command name commit).rules → IsOrderly (stamped s command (replace_view s command name commit).after)
  orderly-replace_view name commit passes = orderly-done s command sound within (replaced_view s command name commit) (with_altered s) (λ row made.
      let parts = made-parts s command name commit row made in
      let new = committed commit parts.old parts.made in
      let own = view-own s sound name commit.identifier parts.old parts.old_is in
      let placed = sym (ap (λ one. given one (λ (one : MadeView). misplaced one.before one.made)) parts.at) ∙ passes.1.1.1.1.1.1.1.0 in
      let itself = committed-sound (time_of s command) commit parts.old parts.made within.time (own-sound parts.old own) parts.made_is placed in
      subst (λ one. IsOrderly (stamped s command (with_altered s one))) parts.row_is
      (tables-orderly s command s.access (with_altered s new).content s.next_id sound within (omega arith) sound.orderly.access
      (content.replaced_view s.next_id s.content sound.orderly.content new parts.old own refl refl itself)
      (ties.put_view s.access s.content sound.orderly.ties new (λ other known.
      ap (λ (one : ViewRow). catalog_of_namespace one.namespace s.content) (some_is parts.old other (sym own ∙ known))) (own-apart parts.old own))
      sound.orderly.tokens_fit))
