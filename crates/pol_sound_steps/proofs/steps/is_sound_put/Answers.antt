use Rattle.std.proofs.Common.{◌≡◌, true, sym, ap, subst, ◌∙◌}
use Rattle.pol_content.specs.declared.change.Change.{Change}
use Rattle.pol_sound_access.proofs.FoundLemmas.{if_ok}
use Rattle.pol_access_steps.specs.Counters.{counted}
use Rattle.pol_content_steps.specs.Properties.{may_put_namespace}
use Rattle.pol_sound_steps.specs.Steps.{may_issue, may_open}
use Rattle.pol_content_steps.proofs.PropertyLemmas.{put_namespace-sound}
use Rattle.pol_sound_steps.proofs.TokenLemmas.{issued-sound, opened-sound}
use Rattle.pol_state.specs.Applied.{changed}
use Rattle.pol_state.specs.Sound.{IsSound}
use Rattle.pol_sound_steps.proofs.steps.is_sound_put.Goals as goal

pub returns-in-PutSession : goal.returns-in-PutSession
returns-in-PutSession c =
    let s = c.args.state.now.rows in
    λ passes. subst (λ (put : Change). IsSound (changed (counted s c.args.counters) put)) (sym c.in-PutSession.is)
    (opened-sound s c.requires.sound c.args.counters c.requires.follows c.in-PutSession.row (sym (c.may_open.ensures ∙ ap (may_open s c.args.counters) c.row.ensures) ∙ passes))

pub returns-in-PutToken : goal.returns-in-PutToken
returns-in-PutToken c =
    let s = c.args.state.now.rows in
    λ passes. subst (λ (put : Change). IsSound (changed (counted s c.args.counters) put)) (sym c.in-PutToken.is)
    (issued-sound s c.requires.sound c.args.counters c.requires.follows c.in-PutToken.row (sym (c.may_issue.ensures ∙ ap (may_issue s c.args.counters) c.row-in-PutToken.ensures) ∙ passes))

pub returns-in-PutNamespace : goal.returns-in-PutNamespace
returns-in-PutNamespace c =
    let s = c.args.state.now.rows in
    if_ok (λ may. may ≡ may_put_namespace s c.args.counters c.row-in-PutNamespace.result.now) (λ sound. sound ≡ true → IsSound (changed (counted s c.args.counters) c.args.put.now)) c.may_put_namespace.result
    (λ may is passes. subst (λ (put : Change). IsSound (changed (counted s c.args.counters) put)) (sym c.in-PutNamespace.is)
    (put_namespace-sound s c.requires.sound c.args.counters c.requires.follows c.in-PutNamespace.row (sym (is ∙ ap (may_put_namespace s c.args.counters) c.row-in-PutNamespace.ensures) ∙ passes))) c.may_put_namespace.ensures
