-- What is written of the changes that lead to a sound state is their form.
use Rattle.std.proofs.Common.{◌≡◌, ◌≢◌, ℕ, Bool, true, false, not, cond, List, [], ◌∷◌, ◌++◌, map, subst, sym, ◌∙◌}
use Rattle.std.proofs.Math.Logic.{∥∥₁_elim, ∥∥₁_map, ∥∥₁_prop}
use Rattle.std.specs.Coded.{Coded}
use Rattle.std.specs.List.{AllByRecursion}
use Rattle.std.specs.declared.cmp.Ordering.{Ordering}
use Rattle.pol_changecodec.specs.Change.{IsSoundChange, changes as changes_form}
use Rattle.pol_commands.specs.declared.command.Command.{Command}
use Rattle.pol_content.specs.declared.change.Change.{Change}
use Rattle.pol_content.specs.declared.change.Change.TheVariants.{DropCatalog, DropCatalogRole, DropGrant, DropJoin, DropMember, DropNamespace, DropPrincipal, DropPrincipalRole, DropTable, DropView, NextId, NextSerial, PutCatalog, PutCatalogRole, PutGrant, PutJoin, PutMember, PutNamespace, PutPrincipal, PutPrincipalRole, PutSession, PutTable, PutToken, PutView}
use Rattle.pol_machine.specs.Machine.{next_state}
use Rattle.pol_state.specs.Changes.{changes_between, headed, id_change, in_turn, row_changes, serial_change}
use Rattle.pol_state.specs.Rows.{Rows}
use Rattle.pol_state.specs.Sound.{IsSound}
use Rattle.pol_table_rows.specs.Sound.{IsSoundTable}
use Rattle.pol_tables.proofs.ListLemmas.{each-all, each-append, each-filter, each-map, each-weaken}
use Rattle.pol_tables.specs.Changes.{fact_changes, gone_ids, new_rows, table_changes}
use Rattle.pol_tables.specs.Facts.{holds}
use Rattle.pol_tables.specs.Order.{in_order}
use Rattle.pol_view_rows.specs.Sound.{IsSoundView}
use Rattle.pol_kept.specs.History.{AreFormed, IsFormed, changes_of, state_after, state_at}
use Rattle.pol_kept.specs.declared.entry.Entry.{Entry}

abbrev Keeps : Change → Type 0
Keeps change = ∥ IsSoundChange change ∥₁

abbrev Each : List Change → Type 0
Each changes = AllByRecursion Keeps changes

-- the changes of rows of a kind: what is put is among the new rows
of-rows : {R : Type 0} (code : Coded R) (key : R → ℕ) (put : R → Change) (drop : ℕ → Change) (old new : List R) → AllByRecursion (λ row. Keeps (put row)) new → ((id : ℕ) → Keeps (drop id)) →
    Each (table_changes code key put drop old new)
unfolding table_changes new_rows
of-rows code key put drop old new puts drops =
    each-append Keeps (map put (new_rows code old new)) (map drop (gone_ids key old new))
    (each-map Keeps put (new_rows code old new) (each-filter (λ row. Keeps (put row)) (λ row. not (holds code row old)) new puts))
    (each-map Keeps drop (gone_ids key old new) (each-all (λ id. Keeps (drop id)) (gone_ids key old new) drops))

of-facts : {T : Type 0} (code : Coded T) (cmp : T → T → Ordering) (put drop : T → Change) (old new : List T) → ((fact : T) → Keeps (put fact)) → ((fact : T) → Keeps (drop fact)) →
    Each (fact_changes code cmp put drop old new)
unfolding fact_changes
of-facts code cmp put drop old new puts drops =
    each-append Keeps (map put (in_order cmp (new_rows code old new))) (map drop (in_order cmp (new_rows code new old)))
    (each-map Keeps put (in_order cmp (new_rows code old new)) (each-all (λ fact. Keeps (put fact)) (in_order cmp (new_rows code old new)) puts))
    (each-map Keeps drop (in_order cmp (new_rows code new old)) (each-all (λ fact. Keeps (drop fact)) (in_order cmp (new_rows code new old)) drops))

of-new : {R : Type 0} (put : R → Change) (rows : List R) → ((row : R) → Keeps (put row)) → Each (map put rows)
of-new put rows puts = each-map Keeps put rows (each-all (λ row. Keeps (put row)) rows puts)

both : (xs ys : List Change) → Each xs → Each ys → Each (xs ++ ys)
both xs ys = each-append Keeps xs ys

rows-keep : (s t : Rows) → IsSound t → Each (in_turn (row_changes s t))
rows-keep s t sound =
    let content = sound.orderly.content in
    let made = row_changes s t in
    both made.principals _ (of-rows _ _ PutPrincipal DropPrincipal _ _ (each-all _ _ (λ row. ∣ tt ∣₁)) (λ id. ∣ tt ∣₁))
    (both made.principal_roles _ (of-rows _ _ PutPrincipalRole DropPrincipalRole _ _ (each-all _ _ (λ row. ∣ tt ∣₁)) (λ id. ∣ tt ∣₁))
    (both made.catalogs _ (of-rows _ _ PutCatalog DropCatalog _ _ (each-all _ _ (λ row. ∣ tt ∣₁)) (λ id. ∣ tt ∣₁))
    (both made.catalog_roles _ (of-rows _ _ PutCatalogRole DropCatalogRole _ _ (each-all _ _ (λ row. ∣ tt ∣₁)) (λ id. ∣ tt ∣₁))
    (both made.namespaces _ (of-rows _ _ PutNamespace DropNamespace _ _ (each-all _ _ (λ row. ∣ tt ∣₁)) (λ id. ∣ tt ∣₁))
    (both made.tables _ (of-rows _ _ PutTable DropTable _ _ (each-weaken IsSoundTable (λ row. Keeps (PutTable row)) t.content.tables (λ row is. is.metadata) content.tables.each) (λ id. ∣ tt ∣₁))
    (both made.views _ (of-rows _ _ PutView DropView _ _ (each-weaken IsSoundView (λ row. Keeps (PutView row)) t.content.views (λ row is. ∥∥₁_map is.metadata (λ kept. kept.valid)) content.views.each) (λ id. ∣ tt ∣₁))
    (both made.members _ (of-facts _ _ PutMember DropMember _ _ (λ row. ∣ tt ∣₁) (λ row. ∣ tt ∣₁))
    (both made.joins _ (of-facts _ _ PutJoin DropJoin _ _ (λ row. ∣ tt ∣₁) (λ row. ∣ tt ∣₁))
    (both made.grants _ (of-facts _ _ PutGrant DropGrant _ _ (λ row. ∣ tt ∣₁) (λ row. ∣ tt ∣₁))
    (both made.sessions made.tokens (of-new PutSession _ (λ row. ∣ tt ∣₁)) (of-new PutToken _ (λ row. ∣ tt ∣₁))))))))))))

-- a counter
one-or-none : (b : Bool) (change : Change) → Keeps change → Each (cond b [] (change ∷ []))
one-or-none true change keeps = tt
one-or-none false change keeps = (keeps, tt)

counters-keep : (s t : Rows) → Each (id_change s t ++ serial_change s t)
counters-keep s t = both (id_change s t) (serial_change s t) (one-or-none _ (NextId t.next_id) ∣ tt ∣₁) (one-or-none _ (NextSerial t.next_serial) ∣ tt ∣₁)

headed-keep : (time : ℕ) (counters rows : List Change) → Each counters → Each rows → Each (headed time counters rows)
headed-keep time counters [] first then = tt
headed-keep time counters (change ∷ rows) first then = (∣ tt ∣₁, both counters (change ∷ rows) first then)

all-keep : (s t : Rows) → IsSound t → Each (changes_between s t)
unfolding changes_between
all-keep s t sound = headed-keep t.time (id_change s t ++ serial_change s t) (in_turn (row_changes s t)) (counters-keep s t) (rows-keep s t sound)

each-hidden : (changes : List Change) → Each changes → ∥ AllByRecursion IsSoundChange changes ∥₁
each-hidden [] all = ∣ tt ∣₁
each-hidden (change ∷ changes) all = ∥∥₁_elim all.0 ∥∥₁_prop (λ here. ∥∥₁_map (each-hidden changes all.1) (λ rest. (here, rest)))

-- a command whose changes are written, where that tells their form
pub formed-by : (s : Rows) (command : Command) (changes : List Change) → changes ≡ changes_of s command → IsSound (next_state s command) →
    (changes ≢ [] → AllByRecursion IsSoundChange changes → changes_form.holds changes) → IsFormed s command
formed-by s command changes is sound form = record {
  form = λ some.
      ∥∥₁_map (each-hidden (changes_of s command) (all-keep s (next_state s command) sound)) (λ all.
      subst changes_form.holds is (form (λ none. some (sym is ∙ none)) (subst (AllByRecursion IsSoundChange) (sym is) all)));
  sound = sound;
}

-- no history, and a command more
pub formed-none : (s : Rows) → AreFormed s []
unfolding AreFormed
formed-none s = tt

pub formed-push : (s : Rows) (entries : List Entry) (entry : Entry) → AreFormed s entries → IsFormed (state_at s entries) entry.command → AreFormed s (entries ++ entry ∷ [])
unfolding AreFormed state_at
formed-push s [] entry formed one = (one, tt)
formed-push s (first ∷ entries) entry formed one = (formed.0, formed-push (state_after s first) entries entry formed.1 one)
