-- A reply tells a full run exactly where the charges come to more than the bound of a run.
use Rattle.std.proofs.Common.{◌≡◌, ◌≢◌, ℕ, ◌+◌, ◌<◌, ◌≤◌, ◌^◌, ◌∷◌, None, Some, is_some, ap, sym, ◌∙◌, inl, inr, true≢false}
use Rattle.std.proofs.lemmas.Bool.{cases_lt, le-ltb, lt-ltb}
use Rattle.pol_machine.specs.Machine.{acting, reply_by, reply_of, rules_within}
use Rattle.pol_commands.specs.Reply.{is_run_full}
use Rattle.pol_state.specs.Rows.{Rows}
use Rattle.pol_state.specs.Bounds.{first_refusal, refuse_if}
use Rattle.pol_rules.specs.Rules.{run_full}
use Rattle.pol_commands.specs.declared.command.Command.{Command}
use Rattle.pol_commands.specs.declared.reply.Refusal.{Refusal}
use Rattle.pol_commands.specs.declared.reply.Refusal.TheVariants.{RunFull}
use Rattle.pol_commands.specs.declared.reply.Reply.TheVariants.{Refused}
use Rattle.pol_machine.proofs.DecisionLemmas.{full-told as run_full-told}

-- the run is full where the charges come to more than its bound, and nowhere else
full-above : (s : Rows) (charge : ℕ) → 2 ^ 30 < s.charged + charge → run_full s charge ≡ Some (RunFull s.charged charge)
unfolding run_full
full-above s charge above = ap (λ full. refuse_if full (RunFull s.charged charge)) (lt-ltb (2 ^ 30) (s.charged + charge) above)

pub full-within : (s : Rows) (charge : ℕ) → s.charged + charge ≤ 2 ^ 30 → run_full s charge ≡ None
unfolding run_full
full-within s charge within = ap (λ full. refuse_if full (RunFull s.charged charge)) (le-ltb (2 ^ 30) (s.charged + charge) within)

-- what a reply of a full run tells
pub record IsFullRun (s : Rows) (command : Command) (charged charge : ℕ) : Type 0 where
  pub charged_is : charged ≡ s.charged
  pub charge_is : charge ≡ command.charge
  pub above : 2 ^ 30 < s.charged + command.charge

refusal-is : (left right : Refusal) → Refused left ≡ Refused right → left ≡ right
refusal-is left right is = cc

module _ (s : Rows) (command : Command) where
  pub full-told : 2 ^ 30 < s.charged + command.charge → reply_of s command ≡ Refused (RunFull s.charged command.charge)
  unfolding reply_of
  full-told above =
      ap (λ full. reply_by (first_refusal (full ∷ rules_within (acting s command command.action))) (acting s command command.action).answer) (full-above s command.charge above)

  pub reply-full : (charged charge : ℕ) → reply_of s command ≡ Refused (RunFull charged charge) → IsFullRun s command charged charge
  reply-full charged charge is = elim (cases_lt (2 ^ 30) (s.charged + command.charge)) [
    | inl above ↦
        let told : RunFull s.charged command.charge ≡ RunFull charged charge = refusal-is (RunFull s.charged command.charge) (RunFull charged charge) (sym (full-told above) ∙ is) in
        record { charged_is = cc; charge_is = cc; above = above }
    | inr within ↦
        absurd (true≢false (sym (ap is_run_full is) ∙ run_full-told s command ∙ ap is_some (full-within s command.charge within)))
  ]

  -- where the reply doesn't tell a full run, there is room for the charge
  pub room-open : ((charged charge : ℕ) → reply_of s command ≢ Refused (RunFull charged charge)) → s.charged + command.charge ≤ 2 ^ 30
  room-open other = elim (cases_lt (2 ^ 30) (s.charged + command.charge)) [
    | inl above ↦ absurd (other s.charged command.charge (full-told above))
    | inr within ↦ within
  ]
