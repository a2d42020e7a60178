-- The numbers of a sound state's tables are within their bounds.
use Rattle.std.proofs.Common.{◌≡◌, ℕ, zero, suc, ◌+◌, ◌<◌, ◌≤◌, ◌^◌, nat_lt, false, All, List, [], ◌∷◌, get_or, length, Some, sym, subst, arith}
use Rattle.std.specs.List.{list_any}
use Rattle.std.proofs.lemmas.Bool.{ltb-false}
use Rattle.std.proofs.lemmas.List.Elements.{All-head, All-tail}
use Rattle.pol_commands.specs.declared.reply.Quantity.TheVariants as quantity
use Rattle.pol_commands.specs.declared.reply.Refusal.TheVariants.{Limit}
use Rattle.pol_content.proofs.SoundLemmas.{each-fails}
use Rattle.pol_state.specs.Rows.{Rows}
use Rattle.pol_state.specs.Sound.{IsSound}
use Rattle.pol_state.proofs.BoundsLemmas.{each-within}
use Rattle.pol_rules.proofs.FoundLemmas.{found-holds}
use Rattle.pol_rules.proofs.RulesLemmas.{refused-not}
use Rattle.pol_table_rows.specs.Sound.{IsSoundTable}
use Rattle.pol_table_rows.specs.Tables.{table_id}
use Rattle.pol_table_rows.specs.declared.row.TableRow.{TableRow}
use Rattle.pol_tables.specs.Table.{has_id, row_of}
use Rattle.pol_commit_actions.specs.Outcome.{CommitTo}
use Rattle.pol_commit_actions.specs.Replaced.{AreThere}
use Rattle.pol_commit_actions.specs.Seen.{commit_to, commits_to}
use Rattle.pol_commit_actions.specs.declared.target.Target.{Target}

pub version-bound : (s : Rows) → IsSound s → (row : TableRow) → row_of table_id row.id s.content.tables ≡ Some row → row.version ≤ 2 ^ 62
version-bound s sound row own =
    let none = refused-not (list_any (λ (one : TableRow). nat_lt (2 ^ 62) one.version) s.content.tables) (Limit quantity.Version (2 ^ 62)) (each-within s sound).1.1.1.1.1.1.1.1.1.1.1.1.1.1.1.1.1.1.1.1.1.1.1.1.1.0 in
    ltb-false (2 ^ 62) row.version (found-holds (λ (one : TableRow). nat_lt (2 ^ 62) one.version ≡ false) (has_id table_id row.id) s.content.tables row (each-fails (λ (one : TableRow). nat_lt (2 ^ 62) one.version) s.content.tables none) own)

pub moves-within : (s : Rows) → IsSound s → (row : TableRow) → row_of table_id row.id s.content.tables ≡ Some row → row.moves ≤ 2 ^ 62 + 1
moves-within s sound row own =
    let itself = found-holds IsSoundTable (has_id table_id row.id) s.content.tables row sound.orderly.content.tables.each own in
    let moved = itself.moved in
    let version = version-bound s sound row own in
    omega (arith, moved, version)

-- the table of each commit is there
pub own-at : (P : CommitTo → Type 0) (targets : List Target) (i : ℕ) (target : Target) → All P (commits_to targets) → i < length targets → target ≡ get_or targets i target → P (commit_to target)
own-at P [] i target all inside is = absurd (omega (arith, inside))
own-at P (first ∷ targets) zero target all inside is =
    subst (λ one. P (commit_to one)) (sym is) (All-head P (commit_to first) (commits_to targets) all)
own-at P (first ∷ targets) (suc i) target all inside is =
    own-at P targets i target (All-tail P (commit_to first) (commits_to targets) all) (omega (arith, inside)) is

pub target-own : (s : Rows) (targets : List Target) (i : ℕ) (target : Target) → AreThere s (commits_to targets) → i < length targets → target ≡ get_or targets i target → row_of table_id target.row.now.id s.content.tables ≡ Some target.row.now
target-own s targets i target there inside is =
    own-at (λ (one : CommitTo). row_of table_id one.row.id s.content.tables ≡ Some one.row) targets i target there inside is
