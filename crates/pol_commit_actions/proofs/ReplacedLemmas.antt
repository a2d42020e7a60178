-- Tables after their commits stand in the places of those before.
use Rattle.std.proofs.Common.{◌≡◌, ℕ, ◌+◌, nat_eq, All, List, [], ◌∷◌, length, map, Some, Ok, refl, sym, ap, subst, ◌∙◌, arith}
use Rattle.std.specs.List.{IsDistinct}
use Rattle.std.proofs.lemmas.List.Elements.{All-cons, All-head, All-nil, All-tail}
use Rattle.pol_meta.specs.declared.metadata.TableMetadata.{TableMetadata}
use Rattle.pol_state.specs.Rows.{Rows}
use Rattle.pol_table_rows.specs.Tables.{table_id}
use Rattle.pol_tables.specs.Table.{row_of}
use Rattle.pol_commit_actions.specs.Outcome.{CommitTo, CommittedTable, all_committed, commit_outcome, committed, made_from, made_in, told_at}
use Rattle.pol_commit_actions.specs.Replaced.{AreReplaced, AreThere}
use Rattle.pol_commit_actions.proofs.OutcomeLemmas.{both-made, made-length, outcome-made, told-made}
use Rattle.pol_commit_actions.proofs.SingleLemmas.{version-kept}

-- the table of a commit is there, and that before a table is
abbrev IsOfState : Rows → CommitTo → Type 0
IsOfState s one = row_of table_id one.row.id s.content.tables ≡ Some one.row

abbrev pub WasOfState : Rows → CommittedTable → Type 0
WasOfState s one = row_of table_id one.before.id s.content.tables ≡ Some one.before

abbrev pub HasItsId : CommittedTable → Type 0
HasItsId one = one.after.id ≡ one.before.id

abbrev pub StaysWithVersion : CommittedTable → Type 0
StaysWithVersion one = one.after.version ≡ one.before.version → one.after ≡ one.before

all-there : (s : Rows) (commits : List CommitTo) (metas : List TableMetadata) → All (IsOfState s) commits → All (WasOfState s) (all_committed commits metas)
unfolding all_committed
all-there s [] metas there = All-nil (WasOfState s)
all-there s (one ∷ others) [] there = All-nil (WasOfState s)
all-there s (one ∷ others) (made ∷ metas) there =
    All-cons (WasOfState s) (committed one made) (all_committed others metas) (All-head (IsOfState s) one others there)
    (all-there s others metas (All-tail (IsOfState s) one others there))

own-ids : (commits : List CommitTo) (metas : List TableMetadata) → All HasItsId (all_committed commits metas)
unfolding all_committed
own-ids [] metas = All-nil HasItsId
own-ids (one ∷ others) [] = All-nil HasItsId
own-ids (one ∷ others) (made ∷ metas) =
    All-cons HasItsId (committed one made) (all_committed others metas) refl (own-ids others metas)

same-ids : (commits : List CommitTo) (metas : List TableMetadata) → length metas ≡ length commits → map (λ (one : CommittedTable). one.before.id) (all_committed commits metas) ≡ map (λ (one : CommitTo). one.row.id) commits
unfolding all_committed
same-ids [] metas paired = refl
same-ids (one ∷ others) [] paired = absurd (omega (arith, paired))
same-ids (one ∷ others) (made ∷ metas) paired =
    ap (λ ids. one.row.id ∷ ids) (same-ids others metas (omega (arith, paired)))

all-kept : (time table : ℕ) (commits : List CommitTo) (metas : List TableMetadata) → made_from time table commits ≡ Ok metas → All StaysWithVersion (all_committed commits metas)
unfolding made_from all_committed
all-kept time table [] metas told = All-nil StaysWithVersion
all-kept time table (one ∷ others) [] told = All-nil StaysWithVersion
all-kept time table (one ∷ others) (made ∷ metas) told =
    let parts = both-made (told_at table (made_in time one)) (made_from time (table + 1) others) (made ∷ metas) told in
    let first : parts.0 ≡ made = let both = parts.4 in cc in
    let rest : parts.1 ≡ metas = let both = parts.4 in cc in
    All-cons StaysWithVersion (committed one made) (all_committed others metas)
    (version-kept time one made (told-made table (made_in time one) made (parts.2 ∙ ap Ok first)))
    (all-kept time (table + 1) others metas (parts.3 ∙ ap Ok rest))

-- where the tables are there, each once, and the outcome is what is made of them
pub replaced : (s : Rows) (time : ℕ) (commits : List CommitTo) (metas : List TableMetadata) (tables : List CommittedTable) → AreThere s commits → IsDistinct nat_eq (map (λ (one : CommitTo). one.row.id) commits) → commit_outcome time commits ≡ Ok metas
    → tables ≡ all_committed commits metas → AreReplaced s tables
replaced s time commits metas tables there differ outcome is =
    let made = (outcome-made time commits metas outcome).1 in
    subst (AreReplaced s) (sym is) (record {
      there = all-there s commits metas there;
      ids = own-ids commits metas;
      differ = subst (IsDistinct nat_eq) (sym (same-ids commits metas (made-length time 0 commits metas made))) differ;
      kept = all-kept time 0 commits metas made;
    })
