-- The changes of the actions on views, and that those of a view that is altered lead to the rows after.
use Rattle.std.proofs.Common.{◌≡◌, ℕ, ◌+◌, true, false, ◌&&◌, ◌==◌, not, nat_eq, List, [], ◌∷◌, filter, length, map, Ok, Some, is_some, refl, sym, ap, ◌∙◌, append-nil, true≢false, arith}
use Rattle.std.specs.Str.{bytes_eq}
use Rattle.std.proofs.lemmas.Bool.{eq-eqb, ne_eqb}
use Rattle.std.proofs.lemmas.List.{nil_from_length}
use Rattle.std.proofs.lemmas.Slice.Eq.{bytes_eq-Decides}
use Rattle.pol_access.specs.Order.{grants_in_order}
use Rattle.pol_access.specs.Referent.{grant_names}
use Rattle.pol_access.specs.declared.referent.Referent.TheVariants as referent
use Rattle.pol_access.specs.declared.securable.Securable.TheVariants as securable
use Rattle.pol_access.proofs.ReferentLemmas.{named_is_dropped}
use Rattle.pol_tables.specs.Same.{same}
use Rattle.pol_tables.specs.Table.{row_of, IdsDiffer}
use Rattle.pol_tables.proofs.ChangesLemmas.{table_changes-put_altered, table_changes-put_new, table_changes-take}
use Rattle.pol_tables.proofs.RisingLemmas.{IdsDiffer-rising}
use Rattle.pol_tables.proofs.SameLemmas.{same-differ, same-true}
use Rattle.pol_tables.proofs.TableLemmas.{is_some-row_of, rows_with-known, rows_with-same}
use Rattle.pol_commands.specs.declared.command.Command.{Command}
use Rattle.pol_commands.specs.declared.view_commit.ViewCommit.{ViewCommit}
use Rattle.pol_content.specs.declared.change.Change.TheVariants.{Time, NextId, PutView, DropView, PutGrant, DropGrant}
use Rattle.pol_content.specs.declared.rows.NamespaceRow.{NamespaceRow}
use Rattle.pol_view_rows.specs.Views.{view_id}
use Rattle.pol_view_rows.specs.contracts.row.ViewRow as view
use Rattle.pol_view_rows.specs.declared.row.ViewRow.{ViewRow}
use Rattle.pol_views.specs.Updates.{view_after}
use Rattle.pol_state.specs.Changes.{changes_between}
use Rattle.pol_state.specs.Rows.{Rows}
use Rattle.pol_state.specs.Sound.{IsSound}
use Rattle.pol_state.proofs.ChangesLemmas.{none, still, made-with_ids, made-in_place}
use Rattle.pol_rules.specs.Acting.{stamped}
use Rattle.pol_rules.specs.Rules.{time_of}
use Rattle.pol_rules.proofs.LeadsLemmas.{Leads, leads-one, no_changes}
use Rattle.pol_rules.proofs.SoundLemmas.{next-new}
use Rattle.pol_view_actions.specs.Altered.{with_altered}
use Rattle.pol_view_actions.specs.Creation.{with_view}
use Rattle.pol_view_actions.specs.Renaming.{renamed}
use Rattle.pol_view_actions.specs.Replacing.{committed, grown_if}
use Rattle.pol_view_actions.specs.Views.{without_view}

-- a list that isn't empty has a length
some-long : {U : Type 0} (list : List U) → (list ≡ [] → ⊥) → (length list == 0) ≡ false
some-long list some = ne_eqb (length list) 0 (λ zero. some (nil_from_length list zero))

module _ (s : Rows) (command : Command) (sound : IsSound s) where
  views-differ : IdsDiffer view_id s.content.views
  views-differ = IdsDiffer-rising view_id s.content.views sound.orderly.content.views.numbered.rise

  -- a view that takes the next id
  pub view_changes : (row : ViewRow) → row.id ≡ s.next_id → changes_between s (stamped s command (with_view s row)) ≡ Time (time_of s command) ∷ NextId (s.next_id + 1) ∷ PutView row ∷ []
  view_changes row id =
      let new = next-new view_id s.next_id row.id s.content.views sound.orderly.content.views.numbered id in
      made-with_ids s (stamped s command (with_view s row)) 1 (record none { views = PutView row ∷ [] }) (omega arith) refl refl (λ i. record (still s i) { views = table_changes-put_new view.the_row.coded view_id PutView DropView row s.content.views new i })

  -- a view that is taken away, with the grants on it
  pub dropped_view_changes : (row : ViewRow) → row_of view_id row.id s.content.views ≡ Some row
      → changes_between s (stamped s command (without_view s row)) ≡ Time (time_of s command) ∷ DropView row.id ∷ map DropGrant (grants_in_order (filter (grant_names s.access.catalog_roles (referent.Securable (securable.View row.id))) s.access.grants))
  dropped_view_changes row there =
      let named = named_is_dropped s.access (referent.Securable (securable.View row.id)) in
      let grants = map DropGrant (grants_in_order (filter (grant_names s.access.catalog_roles (referent.Securable (securable.View row.id))) s.access.grants)) in
      made-in_place s (stamped s command (without_view s row)) (record none { views = DropView row.id ∷ []; grants = grants }) refl refl (λ i. record (still s i) {
        views = table_changes-take view.the_row.coded view_id PutView DropView row.id row s.content.views views-differ there i;
        grants = named.2 PutGrant DropGrant i;
      }) ∙ ap (λ rest. Time (time_of s command) ∷ DropView row.id ∷ rest) (append-nil grants)

  -- a view that is put in its own place
  pub put_changes : (row old : ViewRow) → row_of view_id row.id s.content.views ≡ Some old → same view.the_row.coded row old ≡ false
      → changes_between s (stamped s command (with_altered s row)) ≡ Time (time_of s command) ∷ PutView row ∷ []
  put_changes row old found other =
      made-in_place s (stamped s command (with_altered s row)) (record none { views = PutView row ∷ [] }) refl refl (λ i. record (still s i) { views = table_changes-put_altered view.the_row.coded view_id PutView DropView row old s.content.views views-differ found other i })

  stays : (row : ViewRow) → row_of view_id row.id s.content.views ≡ Some row → with_altered s row ≡ s
  stays row found =
      ap (λ views. record s { content = record s.content { views = views } })
      (rows_with-known view_id row s.content.views (sym (is_some-row_of view_id row.id s.content.views) ∙ ap is_some found)
      ∙ rows_with-same view_id row s.content.views views-differ found)

  pub leads-put : (row old : ViewRow) → row_of view_id row.id s.content.views ≡ Some old → Leads s command (with_altered s row)
  leads-put row old found =
      leads-one s command (with_altered s row) (PutView row) true (same view.the_row.coded row old)
      (λ is. stays row (found ∙ ap Some (sym (same-true view.the_row.coded row old is)))) (λ other. put_changes row old found other) refl

  -- a view that gets a name that it doesn't have
  pub renamed_changes : (row : ViewRow) (namespace : NamespaceRow) (name : List ℕ) → row_of view_id row.id s.content.views ≡ Some row
      → (nat_eq namespace.id row.namespace && bytes_eq name row.name) ≡ false
      → changes_between s (stamped s command (with_altered s (renamed name row namespace))) ≡ Time (time_of s command) ∷ PutView (renamed name row namespace) ∷ []
  renamed_changes row namespace name found other =
      put_changes (renamed name row namespace) row found (same-differ view.the_row.coded (renamed name row namespace) row (λ is. true≢false (sym (both is) ∙ other)))
    where
      both : renamed name row namespace ≡ row → (nat_eq namespace.id row.namespace && bytes_eq name row.name) ≡ true
      both is =
          let ids = eq-eqb namespace.id row.namespace (ap (λ (one : ViewRow). one.namespace) is) in
          let names = (bytes_eq-Decides name row.name).1 (ap (λ (one : ViewRow). one.name) is) in
          λ i. ids i && names i

  -- a view that is committed to with updates is one version more, and so is another row
  pub replaced_changes : (commit : ViewCommit) (row after : ViewRow) → row_of view_id row.id s.content.views ≡ Some row → after ≡ committed commit row after.metadata → (commit.updates ≡ [] → ⊥)
      → changes_between s (stamped s command (with_altered s after)) ≡ Time (time_of s command) ∷ PutView after ∷ []
  replaced_changes commit row after found is some =
      put_changes after row (ap (λ (one : ViewRow). row_of view_id one.id s.content.views) is ∙ found) (same-differ view.the_row.coded after row (λ like. risen (sym (ap (λ (one : ViewRow). one.version) is) ∙ ap (λ (one : ViewRow). one.version) like)))
    where
      risen : grown_if (not (length commit.updates == 0)) row.version ≡ row.version → ⊥
      risen same =
          let more : row.version + 1 ≡ row.version = sym (ap (λ b. grown_if (not b) row.version) (some-long commit.updates some)) ∙ same in
          absurd (omega (arith, more))

  -- one that is committed to without updates stays as it is
  pub kept_changes : (commit : ViewCommit) (row after : ViewRow) → row_of view_id row.id s.content.views ≡ Some row → view_after row.metadata commit.updates (time_of s command) ≡ Ok after.metadata → after ≡ committed commit row after.metadata → commit.updates ≡ []
      → changes_between s (stamped s command (with_altered s after)) ≡ []
  unfolding view_after
  kept_changes commit row after found told is none =
      let same : after.metadata ≡ row.metadata = let both : view_after row.metadata [] (time_of s command) ≡ Ok after.metadata = ap (λ updates. view_after row.metadata updates (time_of s command)) (sym none) ∙ told in cc in
      let version : (committed commit row after.metadata).version ≡ row.version = ap (λ updates. grown_if (not (length updates == 0)) row.version) none in
      let whole : after ≡ row = is ∙ (λ i. record row { version = version i; metadata = same i }) in
      ap (λ (one : ViewRow). changes_between s (stamped s command (with_altered s one))) whole
      ∙ ap (λ (rows : Rows). changes_between s (stamped s command rows)) (stays row found)
      ∙ no_changes s command
