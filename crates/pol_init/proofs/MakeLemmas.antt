-- The changes of a command that isn't refused.
use Rattle.std.proofs.Common.{◌≡◌, ℕ, List, Option, Some, None, false, is_some, refl, sym, ap, ◌∙◌}
use Rattle.pol_commands.specs.Reply.{is_run_full}
use Rattle.pol_commands.specs.declared.command.Command.{Command}
use Rattle.pol_commands.specs.declared.reply.Refusal.{Refusal}
use Rattle.pol_content.specs.declared.change.Change.{Change}
use Rattle.pol_machine.proofs.DecisionLemmas.{changes-lead, full-told}
use Rattle.pol_machine.specs.Machine.{next_state}
use Rattle.pol_rules.specs.Rules.{run_full, time_of}
use Rattle.pol_state.specs.Applied.{applied}
use Rattle.pol_state.specs.Changes.{changes_between}
use Rattle.pol_state.specs.Rows.{Rows}
use Rattle.pol_state.specs.Sound.{IsSound}
use Rattle.pol_init.specs.SetUp.{IsPassed}

none-of : (found : Option Refusal) → false ≡ is_some found → found ≡ None
none-of None is = refl
none-of (Some why) is = cc

-- the run isn't full where a command is answered
open-run : (s : Rows) (command : Command) → IsPassed s command → run_full s command.charge ≡ None
open-run s command passed = none-of (run_full s command.charge) (sym (ap is_run_full passed.1) ∙ full-told s command)

-- so its changes lead to the state after it
pub changes-made : (s now : Rows) (command : Command) (changes : List Change) (time : ℕ) → IsSound s → IsPassed s command → now ≡ s → changes ≡ changes_between s (next_state s command) → time ≡ time_of s command
    → applied changes time command.charge now ≡ next_state s command
changes-made s now command changes time sound passed same changes_are time_is =
    (λ i. applied (changes_are i) (time_is i) command.charge (same i)) ∙ changes-lead s command sound (open-run s command passed)
