-- What an access tells of what the pass has seen: a step, whose reply is told apart where it allows the access.
use Rattle.std.specs.Prelude.{◌≡◌, ◌≢◌, ◌≤◌, ◌+◌, ◌^◌, ℕ, List, [], ◌∷◌, ◌++◌, length, Option, Some, None}
use Rattle.pol_kept.specs.Machine.{reply_of}
use Rattle.pol_commands.specs.declared.command.Action.{Action}
use Rattle.pol_commands.specs.declared.command.Action.TheVariants.{Access}
use Rattle.pol_commands.specs.declared.command.Command.{Command}
use Rattle.pol_commands.specs.declared.reply.Answer.TheVariants.{AccessAllowed}
use Rattle.pol_commands.specs.declared.reply.Reply.{Reply}
use Rattle.pol_commands.specs.declared.reply.Reply.TheVariants.{Answered}
use Rattle.pol_tokens.specs.declared.token.Act.{Act}
use Rattle.pol_kept.specs.History.{state_at}
use Rattle.pol_kept.specs.declared.entry.Entry.{Entry}
use Rattle.pol_kept.specs.declared.stepped.Stepped.TheVariants.{Done, RunFull, JournalFull, Unknown, DiskFault, OutOfMemory}
use Rattle.pol_shared.specs.Permits.{Permitted}
use Rattle.pol_shared.specs.Seen.{HasSeen, Seen, Stays}
use Rattle.pol_shared.specs.Stepped.{HasSpace, IsDoneIn, IsFullIn}
use Rattle.pol_shared.specs.declared.accessed.Accessed.{Accessed}
use Rattle.pol_shared.specs.declared.accessed.Accessed.TheVariants.{Allowed, Stepped}

-- an action that asks what a storage token opens
abbrev pub IsAccess : Action → Type 0
IsAccess action = (path : List (List ℕ)) × (act : Act) × (action ≡ Access path act)

-- the reply that allows an access
abbrev pub access_allowed : Reply
access_allowed = Answered AccessAllowed

-- any other reply, and what it is rendered as
abbrev pub RendersOther : {Out : Type 0} → (Reply → Out → Type 0) → Reply → Out → Type 0
RendersOther Renders reply out = (reply ≢ access_allowed) × Renders reply out

-- a reply that is rendered unless it allows an access
abbrev pub RendersUnlessAllowed : {Out : Type 0} → (Reply → Out → Type 0) → Reply → Option Out → Type 0
RendersUnlessAllowed Renders reply None = reply ≡ access_allowed
RendersUnlessAllowed Renders reply (Some out) = RendersOther Renders reply out

-- the access was allowed: what the pass had seen goes on by entries of others and then by the command, whose place the
-- permit tells, with the path and the act that the command asks for
pub record IsAllowedIn (old new : Seen) (command : Command) (permit : Permitted) : Type 0 where
  pub before : List Entry
  pub seen : HasSeen old (record old { front = before }) []
  pub place_is : permit.place ≡ length before
  pub asked : command.action ≡ Access permit.path permit.act
  pub enters : new ≡ record old { front = before ++ (record { number = old.number; command = command }) ∷ [] }
  pub has_room : (state_at old.base before).charged + command.charge ≤ 2 ^ 30
  pub has_space : HasSpace old before command
  pub replied : reply_of (state_at old.base before) command ≡ access_allowed

-- what each answer tells of what the pass had seen before and has seen after. An access changes no row, so that none is
-- refused for the journal
abbrev pub AccessesIn : {Out : Type 0} → (Reply → Out → Type 0) → Seen → Seen → Command → Accessed Out → Type 0
AccessesIn Renders old new command (Allowed permit) = IsAllowedIn old new command permit
AccessesIn Renders old new command (Stepped (Done place out)) = IsDoneIn (RendersOther Renders) old new command place out
AccessesIn Renders old new command (Stepped (RunFull charged charge out)) = IsFullIn (RendersOther Renders) old new command charged charge out
AccessesIn Renders old new command (Stepped (JournalFull end wanted)) = ⊥
AccessesIn Renders old new command (Stepped Unknown) = ⊥
AccessesIn Renders old new command (Stepped DiskFault) = ⊥
AccessesIn Renders old new command (Stepped OutOfMemory) = Stays old new
