use Rattle.std.proofs.Common.{Ok, Err, drop, refl, sym, subst, ap, ◌∙◌}
use Rattle.pol_http.specs.Message.{HasAskingHead}
use Rattle.pol_http.specs.Next.{IsMessageAt}
use Rattle.pol_server.specs.Stores.{seen_of}
use Rattle.pol_server.specs.Serving.{standing}
use Rattle.pol_server.proofs.MovesLemmas.{continues-telling, finishes-telling, message-asks, moves-after, told-or}
use Rattle.pol_server.proofs.connection.Connection.answer.Goals as goal

pub returns-in_default-clause-moves : goal.returns-in_default-clause-moves
returns-in_default-clause-moves g c =
    let ends = g.L.Linked.ends in
    let message = c.requires.parts.0 in
    let at = c.requires.parts.1 in
    let failed = c.in_default.ensures.failed in
    let kept = c.in_default.ensures.kept in
    let asking : HasAskingHead c.args.self.now.buffer.items = message-asks c.args.self.now.buffer.items message (drop c.args.body.end c.args.self.now.buffer.items) at.reads (sym at.head_is.asks ∙ failed.1) in
    finishes-telling (standing (ends c.args.link.now) (seen_of c.args.stores.now) c.args.self.now) (standing (ends c.tell.new.link) (seen_of c.args.stores.now) c.tell.new.self) (Err c.in_default.field-0) failed.2 refl
    (record { seen = refl; places = ap (λ self. self.places.items) kept; buffer = ap (λ self. self.buffer.items) kept; budget = ap (λ self. self.budget) kept })
    failed.0 (subst (λ self. HasAskingHead self.buffer.items) (sym kept) asking)

pub answer_told-requires-clause-parts : goal.answer_told-requires-clause-parts
answer_told-requires-clause-parts g c =
    let message = c.requires.parts.0 in
    let at = c.requires.parts.1 in
    let told = c.in-Ok.ensures.told in (
      message,
      subst (λ self. IsMessageAt self.buffer.items c.args.head.now c.args.body c.args.body.end message) (sym told) at,
      ap (λ self. self.told) told ∙ told-or c.args.self.now.buffer.items message (drop c.args.body.end c.args.self.now.buffer.items) c.args.self.now.told c.args.head.now.asks at.reads c.requires.told at.head_is.asks,
    )

pub returns-clause-moves : goal.returns-clause-moves
returns-clause-moves g c =
    let ends = g.L.Linked.ends in
    let told = c.in-Ok.ensures.told in
    moves-after c.answer_told.result (standing (ends c.args.link.now) (seen_of c.args.stores.now) c.args.self.now) (standing (ends c.tell.new.link) (seen_of c.args.stores.now) c.tell.new.self) (standing (ends c.answer_told.new.link) (seen_of c.answer_told.new.stores) c.answer_told.new.self)
    (continues-telling (standing (ends c.args.link.now) (seen_of c.args.stores.now) c.args.self.now) (standing (ends c.tell.new.link) (seen_of c.args.stores.now) c.tell.new.self) c.args.head.now.asks (Ok c.in-Ok.field-0) c.in-Ok.ensures.given refl
    (record { seen = refl; places = ap (λ self. self.places.items) told; buffer = ap (λ self. self.buffer.items) told; budget = ap (λ self. self.budget) told })
    (ap (λ self. self.told) told))
    c.answer_told.ensures.moves
