use Rattle.std.proofs.Common.{◌≢◌, [], true, Ok, Err, inl, inr, refl, sym, subst, ap, ◌∙◌}
use Rattle.pol_http.specs.Message.{HasAskingHead}
use Rattle.pol_server.specs.Link.{IsUnfinishedRest}
use Rattle.pol_server.specs.Serving.{standing, told_text}
use Rattle.pol_server.proofs.MovesLemmas.{asking-some, continues-telling, finishes-telling, moves-after, or-true}
use Rattle.pol_server.proofs.connection.Connection.go_on.Goals as goal

pub returns-in_default-clause-moves : goal.returns-in_default-clause-moves
returns-in_default-clause-moves g c = λ seen.
    let ends = g.L.Linked.ends in
    let failed = c.in_default.ensures.failed in
    let kept = c.in_default.ensures.kept in
    finishes-telling (standing (ends c.args.link.now) seen c.args.self.now) (standing (ends c.tell.new.link) seen c.tell.new.self) (Err c.in_default.field-0) failed.2 refl
    (record { seen = refl; places = ap (λ self. self.places.items) kept; buffer = ap (λ self. self.buffer.items) kept; budget = ap (λ self. self.budget) kept })
    failed.0 (subst (λ self. HasAskingHead self.buffer.items) (sym kept) c.requires.awaits.asking)

pub wait-requires-clause-unfinished : goal.wait-requires-clause-unfinished
wait-requires-clause-unfinished g c =
    let told = c.in-Ok.ensures.told in
    let awaits = c.requires.awaits in
    let text_is = ap (λ self. told_text self.told) told ∙ ap told_text (or-true c.args.self.now.told) in
    let unfinished : IsUnfinishedRest c.args.self.now.buffer.items (told_text c.tell.new.self.told) = record { no_message = awaits.no_message; not_refused = awaits.not_refused; told = inl (awaits.asking, text_is) } in
    subst (λ self. IsUnfinishedRest self.buffer.items (told_text c.tell.new.self.told)) (sym told) unfinished

pub wait-requires-clause-at_end : goal.wait-requires-clause-at_end
wait-requires-clause-at_end g c =
    inr (refl, subst (λ self. self.buffer.items ≢ []) (sym c.in-Ok.ensures.told) (asking-some c.args.self.now.buffer.items c.requires.awaits.asking))

pub returns-clause-moves : goal.returns-clause-moves
returns-clause-moves g c = λ seen.
    let ends = g.L.Linked.ends in
    let told = c.in-Ok.ensures.told in
    moves-after c.wait.result (standing (ends c.args.link.now) seen c.args.self.now) (standing (ends c.tell.new.link) seen c.tell.new.self) (standing (ends c.wait.new.link) seen c.wait.new.self)
    (continues-telling (standing (ends c.args.link.now) seen c.args.self.now) (standing (ends c.tell.new.link) seen c.tell.new.self) true (Ok c.in-Ok.field-0) c.in-Ok.ensures.given refl
    (record { seen = refl; places = ap (λ self. self.places.items) told; buffer = ap (λ self. self.buffer.items) told; budget = ap (λ self. self.budget) told })
    (ap (λ self. self.told) told))
    (c.wait.ensures.moves seen)
