use Rattle.std.proofs.Common.{◌≡◌, ap, is_some, sym, ◌∙◌}
use Rattle.pol_token_rules.specs.Counts.{caller_holder, holder}
use Rattle.pol_token_rules.proofs.HolderLemmas.{asks-as}
use Rattle.pol_token_rules.proofs.counts.holder.Goals as goal

pub unwrap-requires : goal.unwrap-requires
unfolding holder
unwrap-requires c =
    let s = c.args.asked.now.state.now.rows in
    let command = c.args.asked.now.command.now in
    ap is_some (c.caller_holder.ensures ∙ ap (λ time. caller_holder s time command.caller) c.time_of-time.ensures) ∙ asks-as s c.requires.sound command c.requires.signed

pub returns : goal.returns
unfolding holder
returns c =
    let s = c.args.asked.now.state.now.rows in
    let command = c.args.asked.now.command.now in
    sym (c.caller_holder.ensures ∙ ap (λ time. caller_holder s time command.caller) c.time_of-time.ensures) ∙ c.unwrap.ensures
