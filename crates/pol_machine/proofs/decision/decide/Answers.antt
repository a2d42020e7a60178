use Rattle.std.proofs.Common.{◌≡◌, None, Some, Ok, Err, ap, sym, ◌∙◌}
use Rattle.pol_state.specs.Bounds.{first_refusal}
use Rattle.pol_state.specs.Changes.{changes_between}
use Rattle.pol_commands.specs.declared.reply.Reply.TheVariants.{Answered, Refused}
use Rattle.pol_rules.proofs.RulesLemmas.{refusal-stops}
use Rattle.pol_machine.specs.Machine.{rules_of, reply_with}
use Rattle.pol_machine.proofs.DecisionLemmas.{answer-is, bounds-judged, changes-refused, first-of, next-answered, reply-answered, reply-refused}
use Rattle.pol_machine.proofs.decision.decide.Goals as goal

pub returns-in-Err-clause-reply : goal.returns-in-Err-clause-reply
returns-in-Err-clause-reply c =
    c.refused.ensures.reply ∙ sym (reply-refused c.args.state.now.rows c.args.command.now c.in-Err.why (refusal-stops _ c.in-Err.why _ c.in-Err.ensures))

pub returns-in-Err-clause-changes : goal.returns-in-Err-clause-changes
returns-in-Err-clause-changes c =
    c.refused.ensures.changes ∙ sym (changes-refused c.args.state.now.rows c.args.command.now c.in-Err.why (refusal-stops _ c.in-Err.why _ c.in-Err.ensures))

pub returns-in-Ok-within_bounds-clause-reply : goal.returns-in-Ok-within_bounds-clause-reply
returns-in-Ok-within_bounds-clause-reply c =
    let s = c.args.state.now.rows in
    let command = c.args.command.now in
    let within = bounds-judged s command _ (Ok tt) c.requires.sound c.requires.moment c.in_default.ensures.0 c.in-Ok.ensures.0 c.in-Ok.ensures.2 c.in-Ok-within_bounds.ensures in
    let passed : first_refusal (rules_of s command) ≡ None = first-of s command None c.in_default.ensures.0 c.in-Ok.ensures.0 ∙ within.0 in
    ap reply_with c.in-Ok.ensures.1 ∙ sym (reply-answered s command passed)

pub returns-in-Ok-within_bounds-clause-changes : goal.returns-in-Ok-within_bounds-clause-changes
returns-in-Ok-within_bounds-clause-changes c =
    let s = c.args.state.now.rows in
    let command = c.args.command.now in
    let within = bounds-judged s command _ (Ok tt) c.requires.sound c.requires.moment c.in_default.ensures.0 c.in-Ok.ensures.0 c.in-Ok.ensures.2 c.in-Ok-within_bounds.ensures in
    let passed : first_refusal (rules_of s command) ≡ None = first-of s command None c.in_default.ensures.0 c.in-Ok.ensures.0 ∙ within.0 in
    c.in-Ok.ensures.2 ∙ ap (changes_between s) (sym (next-answered s command passed))

pub returns-in-Err-within_bounds-clause-reply : goal.returns-in-Err-within_bounds-clause-reply
returns-in-Err-within_bounds-clause-reply c =
    let s = c.args.state.now.rows in
    let command = c.args.command.now in
    let why = c.in-Err-within_bounds.why in
    let above = bounds-judged s command _ (Err why) c.requires.sound c.requires.moment c.in_default.ensures.0 c.in-Ok.ensures.0 c.in-Ok.ensures.2 c.in-Err-within_bounds.ensures in
    let fails : first_refusal (rules_of s command) ≡ Some why = first-of s command None c.in_default.ensures.0 c.in-Ok.ensures.0 ∙ above in
    c.refused-in-Err-within_bounds.ensures.reply ∙ sym (reply-refused s command why fails)

pub returns-in-Err-within_bounds-clause-changes : goal.returns-in-Err-within_bounds-clause-changes
returns-in-Err-within_bounds-clause-changes c =
    let s = c.args.state.now.rows in
    let command = c.args.command.now in
    let why = c.in-Err-within_bounds.why in
    let above = bounds-judged s command _ (Err why) c.requires.sound c.requires.moment c.in_default.ensures.0 c.in-Ok.ensures.0 c.in-Ok.ensures.2 c.in-Err-within_bounds.ensures in
    let fails : first_refusal (rules_of s command) ≡ Some why = first-of s command None c.in_default.ensures.0 c.in-Ok.ensures.0 ∙ above in
    c.refused-in-Err-within_bounds.ensures.changes ∙ sym (changes-refused s command why fails)

pub returns-in-Err-Refused-clause-reply : goal.returns-in-Err-Refused-clause-reply
returns-in-Err-Refused-clause-reply c =
    let s = c.args.state.now.rows in
    let command = c.args.command.now in
    let refused = rw c.in-Err-Refused.field-0-is at c.in-Err-Refused.ensures in
    let fails : first_refusal (rules_of s command) ≡ Some c.in-Err-Refused.why = first-of s command (Some c.in-Err-Refused.why) c.in_default.ensures.0 refused in
    c.refused-in-Err-Refused.ensures.reply ∙ sym (reply-refused s command c.in-Err-Refused.why fails)

pub returns-in-Err-Refused-clause-changes : goal.returns-in-Err-Refused-clause-changes
returns-in-Err-Refused-clause-changes c =
    let s = c.args.state.now.rows in
    let command = c.args.command.now in
    let refused = rw c.in-Err-Refused.field-0-is at c.in-Err-Refused.ensures in
    let fails : first_refusal (rules_of s command) ≡ Some c.in-Err-Refused.why = first-of s command (Some c.in-Err-Refused.why) c.in_default.ensures.0 refused in
    c.refused-in-Err-Refused.ensures.changes ∙ sym (changes-refused s command c.in-Err-Refused.why fails)

pub returns-in-Ok-within_bounds-clause-given : goal.returns-in-Ok-within_bounds-clause-given
returns-in-Ok-within_bounds-clause-given c answer told =
    sym c.in-Ok.ensures.1 ∙ ap Some (answer-is _ answer told)

pub returns-in-Err-clause-given : goal.returns-in-Err-clause-given
returns-in-Err-clause-given c answer told = let contrary : Refused c.in-Err.why ≡ Answered answer = sym c.refused.ensures.reply ∙ told in cc

pub returns-in-Err-within_bounds-clause-given : goal.returns-in-Err-within_bounds-clause-given
returns-in-Err-within_bounds-clause-given c answer told =
    let contrary : Refused c.in-Err-within_bounds.why ≡ Answered answer = sym c.refused-in-Err-within_bounds.ensures.reply ∙ told in cc

pub returns-in-Err-Refused-clause-given : goal.returns-in-Err-Refused-clause-given
returns-in-Err-Refused-clause-given c answer told =
    let contrary : Refused c.in-Err-Refused.why ≡ Answered answer = sym c.refused-in-Err-Refused.ensures.reply ∙ told in cc
