-- Stores that are made or opened.
use Rattle.std.proofs.Common.{◌≡◌, ◌≢◌, Option, ℕ, ◌+◌, ◌-◌, ◌≤◌, List, [], ◌∷◌, ◌++◌, length, refl, sym, ◌∙◌, ap, subst, inl, arith, append-nil, length-append}
use Rattle.std.specs.Int.{w64, to_be_bytes}
use Rattle.pol_changecodec.specs.Change.{changes as changes_form}
use Rattle.pol_content.specs.declared.change.Change.{Change}
use Rattle.pol_journal.specs.Format.{StandsFor, area_of, extent, framed, records_of}
use Rattle.pol_journal.specs.Journal.{IsAtRest, JournalState, SinceOpening}
use Rattle.pol_journal.proofs.FormatLemmas.{length-records}
use Rattle.pol_opening.specs.Opening.{Opens}
use Rattle.pol_records.specs.Holding.{Holds, RisesBy}
use Rattle.pol_rules.specs.Live.{live_part}
use Rattle.pol_state.specs.Changes.{changes_between}
use Rattle.pol_state.specs.Rows.{Rows, empty_state, fresh_state}
use Rattle.pol_state.specs.Sound.{IsSound}
use Rattle.pol_tables.specs.Changes.{new_rows, table_changes}
use Rattle.pol_kept.specs.History.{Log, records, size_of, state_at}
use Rattle.pol_kept.specs.Images.{KeepsImages}
use Rattle.pol_kept.specs.Opened.{Reopens, fresh_bodies}
use Rattle.pol_kept.specs.declared.entry.Entry.{Entry}
use Rattle.pol_kept.proofs.FormedLemmas.{formed-none}
use Rattle.pol_kept.proofs.RecordLemmas.{bodies-some, records-none}

-- a fresh state has changes, and all of it is live
fresh-some : (secret : List ℕ) → changes_between empty_state (fresh_state secret) ≢ []
unfolding changes_between empty_state fresh_state table_changes new_rows
fresh-some secret none = cc

fresh-live : (secret : List ℕ) → live_part (fresh_state secret) ≡ fresh_state secret
unfolding fresh_state
fresh-live secret = refl

-- the form of its changes is the one opening body
pub fresh-body : (secret : List ℕ) (s : Rows) (changes : List Change) (bytes : List ℕ) → s ≡ fresh_state secret → changes ≡ changes_between empty_state (live_part s) → bytes ≡ changes_form.write changes → bytes ∷ [] ≡ fresh_bodies secret
fresh-body secret s changes bytes s_is changes_are bytes_are =
    let all : changes ≡ changes_between empty_state (fresh_state secret) = changes_are ∙ ap (λ (rows : Rows). changes_between empty_state (live_part rows)) s_is ∙ ap (changes_between empty_state) (fresh-live secret) in
    ap (λ (body : List ℕ). body ∷ []) (bytes_are ∙ ap changes_form.write all)
    ∙ sym (bodies-some (changes_between empty_state (fresh_state secret)) (fresh-some secret))

-- the bytes of one record and a closed gate
pub area-is : (body area : List ℕ) → area ≡ (((([] ++ 1 ∷ []) ++ to_be_bytes w64 (length body)) ++ body) ++ 0 ∷ []) → area ≡ area_of (body ∷ [])
unfolding records_of framed
area-is body area is =
    is
    ∙ ap (λ (bytes : List ℕ). 1 ∷ (bytes ++ 0 ∷ [])) (sym (append-nil (to_be_bytes w64 (length body) ++ body)))

-- where a journal ends that has these bodies alone
pub area-end : (bodies : List (List ℕ)) (first : List ℕ) (s : Rows) → first ≡ area_of bodies → (63 + length first + 1) - size_of (records s []) ≡ extent bodies
area-end bodies first s is =
    ap (λ (written : List (List ℕ)). (63 + length first + 1) - size_of written) (records-none s)
    ∙ omega (arith, ap length is, length-append (records_of bodies) (0 ∷ []), length-records bodies)

-- the parts of a store with no history
state_at-none : (base : Rows) → state_at base [] ≡ base
unfolding state_at
state_at-none base = refl

pub first-invariant : (base state : Rows) (history : List Entry) (marks : List ℕ) (faults count gate : ℕ) → history ≡ [] → marks ≡ [] → state ≡ base → IsSound base → faults ≤ count
    → (state ≡ state_at base history) × IsSound state × RisesBy (length marks) faults count × (size_of (records base history) ≤ gate + 1)
first-invariant base state history marks faults count gate none no_marks same sound counted = (
  same ∙ sym (state_at-none base) ∙ ap (state_at base) (sym none),
  subst IsSound (sym same) sound,
  inl (omega (arith, ap length no_marks, counted)),
  omega (arith, ap (λ (entries : List Entry). size_of (records base entries)) none ∙ ap size_of (records-none base)),
)

module _ {D : Type 0} (seen : D → Option (List ℕ)) (may_leave : D → List ℕ → Type 0) (clock : D → ℕ) (left_since : D → ℕ → List ℕ → Type 0) (fault_count : D → ℕ) where
  -- a journal at rest on the opening bodies keeps them
  pub first-images : (opening : List (List ℕ)) (base : Rows) (journal : JournalState D)
      → Holds seen may_leave clock left_since fault_count opening [] [] journal
      → KeepsImages seen may_leave clock left_since fault_count opening base [] journal
  first-images opening base journal holds = record {
    lost = [];
    holds = subst (λ (written : List (List ℕ)). Holds seen may_leave clock left_since fault_count opening written [] journal) (sym (records-none base)) holds;
    commands = tt;
    formed = formed-none base;
  }

  -- a journal that was opened
  pub reopens : (file : List ℕ) (log : Log D) (s : Rows) (journal : JournalState D)
      → log ≡ record { base = s; history = []; marks = []; journal = journal }
      → Opens seen may_leave clock left_since fault_count file journal s
      → ((opening : List (List ℕ)) → IsAtRest seen may_leave opening journal → SinceOpening clock left_since fault_count (StandsFor journal.kind opening) journal
      → KeepsImages seen may_leave clock left_since fault_count opening s [] journal)
      → Reopens seen may_leave clock left_since fault_count file log
  reopens file log s journal log_is opens images =
      subst (λ (log : Log D). Reopens seen may_leave clock left_since fault_count file log) (sym log_is) (record {
        bodies = opens.bodies;
        some = opens.some;
        leads = opens.leads;
        stands = subst (λ kind. StandsFor kind opens.bodies file) opens.kind opens.end.stands;
        images = images opens.bodies opens.end.at_rest opens.end.since;
      })
