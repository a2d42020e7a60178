-- What a step tells, by the reply.
use Rattle.std.proofs.Common.{◌≡◌, ◌≢◌, ℕ, ◌+◌, ◌≤◌, ◌^◌, List, ◌++◌, map, refl, sym, ap, subst, ◌∙◌, arith}
use Rattle.pol_machine.specs.Machine.{reply_of}
use Rattle.pol_state.specs.Rows.{Rows}
use Rattle.pol_commands.specs.declared.command.Command.{Command}
use Rattle.pol_commands.specs.declared.reply.Refusal.TheVariants.{RunFull}
use Rattle.pol_commands.specs.declared.reply.Reply.{Reply}
use Rattle.pol_commands.specs.declared.reply.Reply.TheVariants.{Refused}
use Rattle.pol_content.specs.declared.change.Change.{Change}
use Rattle.pol_records.specs.Holding.{Lost, lost_behind}
use Rattle.pol_kept.specs.History.{Log, bodies_of, state_of}
use Rattle.pol_kept.specs.Stages.{IsEntered, lost_undone, stepped_by}
use Rattle.pol_kept.specs.Stepped.{IsDone, IsFull, lost_after}
use Rattle.pol_kept.specs.declared.undone.Undone.{Undone}
use Rattle.pol_kept.specs.declared.undone.Undone.TheVariants as undone
use Rattle.pol_kept.proofs.FullLemmas.{IsFullRun, reply-full, room-open}

-- a reply that doesn't tell a full run
abbrev pub IsOpen : Reply → Type 0
IsOpen reply = (charged charge : ℕ) → reply ≢ Refused (RunFull charged charge)

-- where it is the reply to a command, there is room for the charge
pub open-room : (s : Rows) (command : Command) (reply : Reply) → reply ≡ reply_of s command → IsOpen reply → s.charged + command.charge ≤ 2 ^ 30
open-room s command reply reply_is other = room-open s command (λ charged charge tells. other charged charge (reply_is ∙ tells))

module _ {D Out : Type 0} (Renders : Reply → Out → Type 0) (log : Log D) (s : Rows) (command : Command) (reply : Reply) (out : Out)
    (state_is : s ≡ state_of log) (reply_is : reply ≡ reply_of s command) (rendered : Renders (reply_of s command) out) where
  -- a reply that tells a full run
  pub full-told : (charged charge : ℕ) → reply ≡ Refused (RunFull charged charge) → IsFull Renders log log command charged charge out
  full-told charged charge tells =
      let replied : reply_of s command ≡ Refused (RunFull charged charge) = sym reply_is ∙ tells in
      let full : IsFullRun s command charged charge = reply-full s command charged charge replied in
      record {
        same = refl;
        charged_is = full.charged_is ∙ ap (λ (rows : Rows). rows.charged) state_is;
        charge_is = full.charge_is;
        full = omega arith;
        rendered = subst (λ one. Renders one out) replied rendered;
      }

  -- and any other, where the command was carried out
  pub done-told : (new : Log D) (number place : ℕ) → IsOpen reply → IsEntered log new number command place → IsDone Renders log new number command place out
  done-told new number place other entered = record {
    place_is = entered.place_is;
    enters = entered.enters;
    has_room = subst (λ (rows : Rows). rows.charged + command.charge ≤ 2 ^ 30) state_is (open-room s command reply reply_is other);
    fits = entered.fits;
    rendered = subst (λ (rows : Rows). Renders (reply_of rows command) out) state_is rendered;
  }

-- what a command that wasn't carried out leaves lost
pub lost-told : (Out : Type 0) (why : Undone) (written : List (List ℕ)) (made changes : List Change) (lost : List Lost) → made ≡ changes →
    lost_undone why written made lost ≡ lost_after {Out = Out} (stepped_by why) written changes lost
lost-told Out (undone.JournalFull end wanted) written made changes lost same = refl
lost-told Out undone.Unknown written made changes lost same = ap (λ (changes : List Change). lost ++ map (lost_behind written) (bodies_of changes)) same
lost-told Out undone.DiskFault written made changes lost same = refl
lost-told Out undone.OutOfMemory written made changes lost same = refl
