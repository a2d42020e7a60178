-- Asking what a storage token opens.
use Rattle.std.specs.Prelude.{ℕ, List, [], ◌∷◌, Some}
use Rattle.pol_commands.specs.declared.command.Command.{Command}
use Rattle.pol_commands.specs.declared.reply.Answer.TheVariants.{AccessAllowed}
use Rattle.pol_tokens.specs.declared.token.Act.{Act}
use Rattle.pol_tokens.specs.declared.token.TokenRow.{TokenRow}
use Rattle.pol_rules.specs.Acting.{Acting, reading}
use Rattle.pol_rules.specs.Rules.{given}
use Rattle.pol_token_rules.specs.Access.{token_borne, token_unknown, unopened}
use Rattle.pol_state.specs.Rows.{Rows}

-- whether the caller's storage token opens the path for the act; grants play no part here
abbrev pub access : Rows → Command → List (List ℕ) → Act → Acting
access s command path act =
    reading s (token_unknown s command ∷ given (token_borne s command) (λ (token : TokenRow). unopened token path act) ∷ []) (Some AccessAllowed)
