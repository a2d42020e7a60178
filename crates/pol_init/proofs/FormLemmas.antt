-- The changes that make a state anew put valid metadata alone.
use Rattle.std.proofs.Common.{◌≡◌, ℕ, Bool, true, false, cond, List, [], ◌∷◌, ◌++◌, map, refl, sym, subst}
use Rattle.std.specs.List.{AllByRecursion}
use Rattle.std.proofs.Math.Logic.{∥∥₁_elim, ∥∥₁_map, ∥∥₁_prop}
use Rattle.pol_changecodec.specs.Change.{IsSoundChange, changes}
use Rattle.pol_content.specs.declared.change.Change.{Change}
use Rattle.pol_content.specs.declared.change.Change.TheVariants.{NextId, NextSerial, PutCatalog, PutCatalogRole, PutGrant, PutJoin, PutMember, PutNamespace, PutPrincipal, PutPrincipalRole, PutSession, PutTable, PutToken, PutView, Time}
use Rattle.pol_forms.specs.Form.{IsFormOf}
use Rattle.pol_meta.specs.Valid.{IsValid}
use Rattle.pol_rules.proofs.LiveLemmas.{live-sound}
use Rattle.pol_rules.specs.Live.{live_part}
use Rattle.pol_state.specs.Changes.{changes_between, id_change, in_turn, serial_change}
use Rattle.pol_state.specs.Rows.{Rows, empty_state}
use Rattle.pol_state.specs.Sound.{IsSound}
use Rattle.pol_states.proofs.ListingLemmas.{from-empty, puts_of}
use Rattle.pol_table_rows.specs.Sound.{IsSoundTable}
use Rattle.pol_table_rows.specs.declared.row.TableRow.{TableRow}
use Rattle.pol_tables.proofs.ListLemmas.{each-all, each-append, each-map, each-weaken}
use Rattle.pol_view_rows.specs.Sound.{IsSoundView}
use Rattle.pol_view_rows.specs.declared.row.ViewRow.{ViewRow}
use Rattle.pol_views.specs.Valid.{IsValidView}
use Rattle.pol_init.specs.FirstRecord.{HasValid, IsFormWhereValid, body_of, whole_changes}

abbrev Each : List Change → Type 0
Each changes = AllByRecursion IsSoundChange changes

-- a counter
one-or-none : (b : Bool) (change : Change) → IsSoundChange change → Each (cond b [] (change ∷ []))
one-or-none true change sound = tt
one-or-none false change sound = (sound, tt)

counters-sound : (s : Rows) → Each (id_change empty_state s ++ serial_change empty_state s)
counters-sound s =
    each-append IsSoundChange (id_change empty_state s) (serial_change empty_state s) (one-or-none _ (NextId s.next_id) tt) (one-or-none _ (NextSerial s.next_serial) tt)

-- the puts of rows that have no metadata
plain : {R : Type 0} (put : R → Change) (rows : List R) → ((row : R) → IsSoundChange (put row)) → Each (map put rows)
plain put rows sound = each-map IsSoundChange put rows (each-all (λ row. IsSoundChange (put row)) rows sound)

joined : (xs ys : List Change) → Each xs → Each ys → Each (xs ++ ys)
joined xs ys = each-append IsSoundChange xs ys

puts-sound : (s : Rows) → HasValid s → Each (in_turn (puts_of s))
puts-sound s valid =
    let puts = puts_of s in
    joined puts.principals _ (plain PutPrincipal _ (λ row. tt))
    (joined puts.principal_roles _ (plain PutPrincipalRole _ (λ row. tt))
    (joined puts.catalogs _ (plain PutCatalog _ (λ row. tt))
    (joined puts.catalog_roles _ (plain PutCatalogRole _ (λ row. tt))
    (joined puts.namespaces _ (plain PutNamespace _ (λ row. tt))
    (joined puts.tables _ (each-map IsSoundChange PutTable s.content.tables valid.tables)
    (joined puts.views _ (each-map IsSoundChange PutView s.content.views valid.views)
    (joined puts.members _ (plain PutMember _ (λ row. tt))
    (joined puts.joins _ (plain PutJoin _ (λ row. tt))
    (joined puts.grants _ (plain PutGrant _ (λ row. tt))
    (joined puts.sessions puts.tokens (plain PutSession _ (λ row. tt)) (plain PutToken _ (λ row. tt))))))))))))

whole-sound : (s : Rows) → IsSound s → HasValid s → Each (whole_changes s)
unfolding whole_changes
whole-sound s sound valid =
    let live = live_part s in
    subst Each (sym (from-empty live (live-sound s sound)))
    (joined (Time live.time ∷ (id_change empty_state live ++ serial_change empty_state live)) (in_turn (puts_of live)) (tt, counters-sound live) (puts-sound live (record { tables = valid.tables; views = valid.views })))

-- what is written of the changes is their form, where each metadata is valid
pub form-told : (s : Rows) (list : List Change) (bytes : List ℕ) → IsSound s → list ≡ changes_between empty_state (live_part s) → (Each list → IsFormOf changes list bytes) → IsFormWhereValid s
unfolding whole_changes body_of
form-told s list bytes sound list_is form = λ valid.
    let each : Each list = subst Each (sym list_is) (whole-sound s sound valid) in
    (subst changes.holds list_is (form each).0, refl)

-- what holds of each hiddenly holds hiddenly of all
each-hidden : {X : Type 0} (P : X → Type 0) (xs : List X) → AllByRecursion (λ x. ∥ P x ∥₁) xs → ∥ AllByRecursion P xs ∥₁
each-hidden P [] all = ∣ tt ∣₁
each-hidden P (x ∷ xs) all = ∥∥₁_elim all.0 ∥∥₁_prop (λ here. ∥∥₁_map (each-hidden P xs all.1) (λ rest. (here, rest)))

valid-hidden : (s : Rows) → IsSound s → ∥ HasValid s ∥₁
valid-hidden s sound =
    let content = sound.orderly.content in
    let tables = each-hidden (λ (row : TableRow). IsValid row.metadata) s.content.tables (each-weaken IsSoundTable (λ row. ∥ IsValid row.metadata ∥₁) s.content.tables (λ row is. is.metadata) content.tables.each) in
    let views = each-hidden (λ (row : ViewRow). IsValidView row.metadata) s.content.views (each-weaken IsSoundView (λ row. ∥ IsValidView row.metadata ∥₁) s.content.views (λ row is. ∥∥₁_map is.metadata (λ kept. kept.valid)) content.views.each) in
    ∥∥₁_elim tables ∥∥₁_prop (λ tables. ∥∥₁_map views (λ views. record { tables = tables; views = views }))

-- so what is written of the changes of a sound state is their form
pub form-hidden : (s : Rows) → IsSound s → IsFormWhereValid s → ∥ IsFormOf changes (whole_changes s) (body_of s) ∥₁
form-hidden s sound form = ∥∥₁_map (valid-hidden s sound) form
