use Rattle.std.proofs.Common.{◌++◌, false, Some, None, if◌then◌else◌, refl, sym, subst, ap, ◌∙◌}
use Rattle.pol_http.specs.Message.{print_message}
use Rattle.pol_http.specs.Next.{IsMessageAt}
use Rattle.pol_server.specs.Stores.{seen_of}
use Rattle.pol_server.specs.Serving.{Says, Standing, standing, told_text}
use Rattle.pol_server.specs.declared.served.Ending.TheVariants.{Closed}
use Rattle.pol_server.proofs.MovesLemmas.{moves-turn}
use Rattle.pol_server.proofs.connection.Connection.take_turn.Goals as goal

pub returns-clause-moves : goal.returns-clause-moves
returns-clause-moves g c =
    let message = c.requires.parts.0 in
    let at = c.requires.parts.1 in
    let ends = g.L.Linked.ends in
    let after : Standing = record {
      ends = ends c.say.new.link;
      seen = seen_of c.handle-handled.new.stores;
      places = c.push.new.self.items;
      buffer = c.advance.new.self.items;
      budget = c.args.self.now.budget;
      told = false;
    } in
    moves-turn (standing (ends c.args.link.now) (seen_of c.args.stores.now) c.args.self.now) after (ends c.handle-handled.new.link) message c.handle-handled.result.place _ c.args.head.now.closes c.say.result
    (c.handle-handled.ensures.handles message (subst (λ bytes. IsMessageAt bytes c.args.head.now c.args.body c.args.body.end message) (sym c.as_slice.ensures) at))
    at.reads.whole (at.reads.bytes_are ∙ ap (λ rest. print_message message ++ rest) (sym c.advance.ensures.items))
    c.in-Ok.ensures.items refl refl (ap told_text c.requires.parts.2) at.head_is.closes
    (subst (λ text. Says (ends c.handle-handled.new.link) (ends c.say.new.link) text (if c.args.head.now.closes then Some Closed else None) c.say.result) c.text_or_none.ensures
    (subst (λ done. Says (ends c.handle-handled.new.link) (ends c.say.new.link) c.text_or_none.result.now done c.say.result) c.ending_after.ensures c.say.ensures))
