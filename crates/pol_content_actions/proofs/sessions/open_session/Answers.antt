use Rattle.std.proofs.Common.{Some, [], ◌∷◌, ◌+◌, ap, sym, ◌∙◌}
use Rattle.pol_commands.specs.declared.reply.Answer.TheVariants.{SessionOpened}
use Rattle.pol_content.specs.declared.change.Change.TheVariants.{Time, NextSerial}
use Rattle.pol_content_actions.proofs.SessionsLemmas.{changes-acting, changes-made, none-refused}
use Rattle.pol_content_actions.proofs.sessions.open_session.Goals as goal

pub returns : goal.returns
returns c =
    let s = c.args.asked.now.state.now.rows in
    let command = c.args.asked.now.command.now in
    let scopes = c.args.scopes.now in
    let principal = c.in_ok-principal.field-0.now in
    let judged = rw (c.as_str.ensures, c.as_str-2.ensures) at c.in_ok-principal.ensures in
    let time_is = c.time_of-time.ensures in (
      none-refused s command scopes c.args.client_id.now c.args.secret.now principal judged.0 judged.1 c.in_ok-scopes_there.ensures.0 c.in_ok-sessions_open.ensures.0,
      ap (λ serial. Some (SessionOpened serial command.words.a command.words.b)) c.next_serial-serial.ensures,
      c.from.ensures ∙ c.in_ok-changes.ensures.items
          ∙ (λ i. Time c.time_of-time.result ∷ NextSerial (c.next_serial-serial.result + 1) ∷ c.in_ok-put.ensures i ∷ [])
          ∙ changes-made s command scopes principal c.next_serial-serial.result c.in_ok-scope.scope c.time_of-time.result c.next_serial-serial.ensures c.in_ok-scope.ensures time_is
          ∙ sym (changes-acting s command scopes c.args.client_id.now c.args.secret.now principal judged.0 judged.1 c.requires.sound),
    )
