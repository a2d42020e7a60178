-- What an entry more leads to.
use Rattle.std.proofs.Common.{◌≡◌, ℕ, ◌+◌, ◌≤◌, ◌^◌, List, [], ◌∷◌, ◌++◌, sym, ap, ◌∙◌}
use Rattle.std.proofs.lemmas.List.Sums.{fold_push}
use Rattle.pol_state.specs.Applied.{applied}
use Rattle.pol_state.specs.Changes.{changes_between}
use Rattle.pol_machine.specs.Machine.{next_state}
use Rattle.pol_state.specs.Rows.{Rows}
use Rattle.pol_rules.specs.Rules.{time_of}
use Rattle.pol_state.specs.Sound.{IsSound}
use Rattle.pol_content.specs.declared.change.Change.{Change}
use Rattle.pol_commands.specs.declared.command.Command.{Command}
use Rattle.pol_machine.proofs.DecisionLemmas.{changes-lead}
use Rattle.pol_kept.specs.History.{state_after, state_at}
use Rattle.pol_kept.specs.declared.entry.Entry.{Entry}
use Rattle.pol_kept.proofs.FullLemmas.{full-within}

-- a command's changes, at its time and with its charge, lead to the state after it
pub changes-enter : (s : Rows) (command : Command) (changes : List Change) (time : ℕ) → IsSound s → s.charged + command.charge ≤ 2 ^ 30 → changes ≡ changes_between s (next_state s command) → time ≡ time_of s command → applied changes time command.charge s ≡ next_state s command
changes-enter s command changes time sound room changes_are time_is =
    (λ i. applied (changes_are i) (time_is i) command.charge s) ∙ changes-lead s command sound (full-within s command.charge room)

-- the state at the end of a history with an entry more
pub state_at-push : (base s next : Rows) (history : List Entry) (entry : Entry) → s ≡ state_at base history → next ≡ next_state s entry.command → next ≡ state_at base (history ++ entry ∷ [])
unfolding state_at
state_at-push base s next history entry state_is next_is =
    next_is ∙ ap (λ rows. next_state rows entry.command) state_is ∙ sym (fold_push state_after base history entry)
