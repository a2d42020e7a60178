-- A run that is full makes no change.
use Rattle.std.proofs.Common.{◌≡◌, ℕ, ◌+◌, ◌<◌, ◌^◌, [], Option, Some, refl, ap, ◌∙◌}
use Rattle.std.proofs.lemmas.Bool.{lt-ltb}
use Rattle.pol_commands.specs.declared.command.Command.{Command}
use Rattle.pol_commands.specs.declared.command.Words4.{Words4}
use Rattle.pol_commands.specs.declared.reply.Refusal.{Refusal}
use Rattle.pol_commands.specs.declared.reply.Refusal.TheVariants.{RunFull}
use Rattle.pol_server.specs.History.{changes_of}
use Rattle.pol_server.specs.Machine.{next_by, next_state}
use Rattle.pol_routes.specs.Plan.{command_of}
use Rattle.pol_routes.specs.declared.plans.Planned.{Planned}
use Rattle.pol_rules.specs.Rules.{run_full}
use Rattle.pol_state.specs.Bounds.{refuse_if}
use Rattle.pol_state.specs.Changes.{changes_between}
use Rattle.pol_state.specs.Rows.{Rows}
use Rattle.pol_state.proofs.ChangesLemmas.{changes-timed}

-- the charge of a command is that of its plan
pub charge-planned : (plan : Planned) (moment : ℕ) (words : Words4) → (command_of plan moment words).charge ≡ plan.charge
unfolding command_of
charge-planned plan moment words = refl

full-above : (s : Rows) (charge : ℕ) → 2 ^ 30 < s.charged + charge → run_full s charge ≡ Some (RunFull s.charged charge)
unfolding run_full
full-above s charge above = ap (λ full. refuse_if full (RunFull s.charged charge)) (lt-ltb (2 ^ 30) (s.charged + charge) above)

next-full : (full : Option Refusal) (why : Refusal) (s next : Rows) → full ≡ Some why → next_by full s next ≡ s
next-full full why s next is = ap (λ full. next_by full s next) is

-- where the charges come to more than the bound of a run, a command changes nothing
pub full-still : (s : Rows) (command : Command) → 2 ^ 30 < s.charged + command.charge → changes_of s command ≡ []
unfolding next_state
full-still s command above =
    ap (λ next. changes_between s next) (next-full (run_full s command.charge) (RunFull s.charged command.charge) s _ (full-above s command.charge above))
    ∙ changes-timed s s.time s.charged
