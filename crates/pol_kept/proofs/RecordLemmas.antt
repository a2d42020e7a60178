-- The records of a history with an entry more.
use Rattle.std.proofs.Common.{◌≡◌, ◌≢◌, ℕ, ◌+◌, ◌-◌, ◌≤◌, List, [], ◌∷◌, ◌++◌, length, refl, sym, ap, ◌∙◌, append_assoc, append-nil, arith}
use Rattle.std.proofs.lemmas.List.Sums.{sum_by-append}
use Rattle.pol_changecodec.specs.Change.{changes as changes_form}
use Rattle.pol_content.specs.declared.change.Change.{Change}
use Rattle.pol_state.specs.Rows.{Rows}
use Rattle.pol_kept.specs.History.{bodies_of, changes_of, records, size_of, state_after, state_at}
use Rattle.pol_kept.specs.declared.entry.Entry.{Entry}

-- they are those of the history, and that of the entry behind them
pub records-push : (s : Rows) (entries : List Entry) (entry : Entry) → records s (entries ++ entry ∷ []) ≡ records s entries ++ bodies_of (changes_of (state_at s entries) entry.command)
unfolding records state_at
records-push s [] entry = append-nil (bodies_of (changes_of s entry.command))
records-push s (first ∷ entries) entry =
    ap (λ (more : List (List ℕ)). bodies_of (changes_of s first.command) ++ more) (records-push (state_after s first) entries entry)
    ∙ sym (append_assoc (bodies_of (changes_of s first.command)) (records (state_after s first) entries) (bodies_of (changes_of (state_at (state_after s first) entries) entry.command)))

-- no history has no records
pub records-none : (s : Rows) → records s [] ≡ []
unfolding records
records-none s = refl

pub size-append : (bodies more : List (List ℕ)) → size_of (bodies ++ more) ≡ size_of bodies + size_of more
size-append bodies more = sum_by-append (λ (body : List ℕ). 9 + length body) bodies more

-- changes have one body
pub bodies-some : (changes : List Change) → changes ≢ [] → bodies_of changes ≡ changes_form.write changes ∷ []
bodies-some [] some = absurd (some refl)
bodies-some (change ∷ changes) some = refl

-- where a journal ended at the opening that had so much, and gets more
pub opened-still : (end had more new all : ℕ) → had ≤ end + 1 → new ≡ end + more → all ≡ had + more → (new + 1) - all ≡ (end + 1) - had
opened-still end had more new all within new_is all_is = omega arith
