-- An access changes no row.
use Rattle.std.proofs.Common.{◌≡◌, ℕ, ◌+◌, List, [], Option, Some, None, refl, ap, ◌∙◌}
use Rattle.pol_commands.specs.declared.command.Action.TheVariants.{Access}
use Rattle.pol_commands.specs.declared.command.Command.{Command}
use Rattle.pol_commands.specs.declared.reply.Refusal.{Refusal}
use Rattle.pol_kept.specs.History.{changes_of}
use Rattle.pol_kept.specs.Machine.{acting, rules_of}
use Rattle.pol_kept.proofs.DecisionLemmas.{changes-refused, next-answered}
use Rattle.pol_rules.specs.Acting.{stamped}
use Rattle.pol_rules.specs.Rules.{time_of}
use Rattle.pol_state.specs.Bounds.{first_refusal}
use Rattle.pol_state.specs.Changes.{changes_between}
use Rattle.pol_state.specs.Rows.{Rows}
use Rattle.pol_state.proofs.ChangesLemmas.{changes-timed}
use Rattle.pol_tokens.specs.declared.token.Act.{Act}

pub access-changes-nothing : (s : Rows) (command : Command) (path : List (List ℕ)) (act : Act) → command.action ≡ Access path act → changes_of s command ≡ []
access-changes-nothing s command path act is = by-first (first_refusal (rules_of s command)) refl
  where
    after : (acting s command command.action).after ≡ s
    after = ap (λ action. (acting s command action).after) is

    by-first : (first : Option Refusal) → first_refusal (rules_of s command) ≡ first → changes_of s command ≡ []
    by-first (Some why) fails = changes-refused s command why fails
    by-first None none =
        ap (changes_between s) (next-answered s command none)
        ∙ ap (λ rows. changes_between s (stamped s command rows)) after
        ∙ changes-timed s (time_of s command) (s.charged + command.charge)
