use Rattle.std.proofs.Common.{◌≡◌, None, Some, ◌∙◌, rules}
use Rattle.pol_tokens.specs.Tokens.{token_count}
use Rattle.pol_rules.specs.Rules.{time_of}
use Rattle.pol_token_rules.specs.Counts.{too_many_tokens}
use Rattle.pol_token_rules.proofs.HolderLemmas.{tokens-rule}
use Rattle.pol_token_rules.proofs.counts.tokens_open.Goals as goal

pub returns-in_err-few_enough : goal.returns-in_err-few_enough
returns-in_err-few_enough c =
    let s = c.args.asked.now.state.now.rows in
    let command = c.args.asked.now.command.now in
    let live : c.token_count.result ≡ token_count c.holder-principal.result (time_of s command) s.tokens =
    c.token_count.ensures ∙ (λ i. token_count c.holder-principal.result (c.time_of.ensures i) (c.tokens-tokens.ensures i)) in
    let told : too_many_tokens s command ≡ Some c.in_err-few_enough.field-0.0 = tokens-rule s command c.holder-principal.result c.token_count.result (Some c.in_err-few_enough.field-0.0) c.holder-principal.ensures live c.in_err-few_enough.ensures in
    search (rules, told)

pub returns : goal.returns
returns c =
    let s = c.args.asked.now.state.now.rows in
    let command = c.args.asked.now.command.now in
    let live : c.token_count.result ≡ token_count c.holder-principal.result (time_of s command) s.tokens =
    c.token_count.ensures ∙ (λ i. token_count c.holder-principal.result (c.time_of.ensures i) (c.tokens-tokens.ensures i)) in
    (tokens-rule s command c.holder-principal.result c.token_count.result None c.holder-principal.ensures live c.in_ok-few_enough.ensures.0, c.holder-principal.ensures)
