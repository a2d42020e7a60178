-- A command does the same in a state and in its live part, and so in states that agree.
use Rattle.std.proofs.Common.{◌≡◌, [], ◌∷◌, ◌++◌, Option, None, Some, sym, ap, subst, ◌∙◌}
use Rattle.pol_commands.specs.declared.command.Command.{Command}
use Rattle.pol_commands.specs.declared.reply.Refusal.{Refusal}
use Rattle.pol_state.specs.Changes.{changes_between}
use Rattle.pol_state.specs.Rows.{Rows}
use Rattle.pol_state.specs.Sound.{IsSound}
use Rattle.pol_state.proofs.ChangesLemmas.{changes-timed}
use Rattle.pol_rules.specs.Acting.{rows_by, stamped, Acting}
use Rattle.pol_rules.specs.Live.{live_part, Agree}
use Rattle.pol_state.specs.Bounds.{first_refusal}
use Rattle.pol_rules.specs.Rules.{run_full}
use Rattle.pol_rules.proofs.LiveLemmas.{live-agrees}
use Rattle.pol_rules.proofs.OwesLemmas.{owes-same, DoSame, Owes}
use Rattle.pol_machine.specs.Agree.{DoesAlike}
use Rattle.pol_machine.specs.Machine.{acting, next_by, next_state, reply_by, reply_of, rules_within}
use Rattle.pol_machine.proofs.OwesLemmas.{owes}

module _ (s : Rows) (sound : IsSound s) (command : Command) where
  abbrev live : Rows
  live = live_part s

  -- what is left by the first rule that fails
  left-by : (full first : Option Refusal) (after other : Rows) → DoSame s (stamped s command after) (stamped live command other) → DoSame s (next_by full s (stamped s command (rows_by first s after))) (next_by full live (stamped live command (rows_by first live other)))
  left-by (Some why) first after other same = record {
    changes = changes-timed s s.time s.charged ∙ sym (changes-timed live s.time s.charged);
    agree = sym (live-agrees s);
  }
  left-by None (Some why) after other same = (owes-same s command).same sound
  left-by None None after other same = same

  abbrev action : Acting
  action = acting s command command.action

  abbrev other : Acting
  other = acting live command command.action

  abbrev owed : Owes s command action other
  owed = owes s command command.action

  -- its rules are judged alike, and its bounds
  rules-alike : rules_within action ≡ rules_within other
  rules-alike = λ i. owed.fair.alike sound i ++ owed.rows.bounds sound i ∷ []

  ends : DoSame s (next_state s command) (next_state live command)
  unfolding next_state run_full
  ends =
      subst (λ rules. DoSame s (next_state s command) (next_by (run_full s command.charge) live (stamped live command (rows_by (first_refusal rules) live other.after)))) rules-alike
      (left-by (run_full s command.charge) (first_refusal (rules_within action)) action.after other.after (owed.rows.same sound))

  -- a command does the same in a state and in its live part
  live-alike : DoesAlike command s live
  unfolding reply_of run_full
  live-alike = record {
    reply = λ i. reply_by (first_refusal (run_full s command.charge ∷ rules-alike i)) (owed.answer sound i);
    changes = ends.changes;
    next = ends.agree;
  }

-- and in two states that agree
pub agreeing-alike : (s t : Rows) (command : Command) → IsSound s → IsSound t → Agree s t → DoesAlike command s t
agreeing-alike s t command sound also agree =
    let left = live-alike s sound command in
    let right = live-alike t also command in
    record {
      reply = left.reply ∙ ap (λ state. reply_of state command) agree ∙ sym right.reply;
      changes = left.changes ∙ ap (λ state. changes_between state (next_state state command)) agree ∙ sym right.changes;
      next = left.next ∙ ap (λ state. live_part (next_state state command)) agree ∙ sym right.next;
    }
