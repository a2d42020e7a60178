use Rattle.std.proofs.Common.{◌≡◌, ◌∷◌, ◌∙◌, false, Some, rules, sym, ap}
use Rattle.atomic_table.specs.Table.{rest}
use Rattle.pol_turn.proofs.Keeps.{draws, looks}
use Rattle.pol_turn.proofs.turns.Turns.take.Goals as goal

pub fetch_add-ticket-requires : goal.fetch_add-ticket-requires
fetch_add-ticket-requires g c =
    let seat = c.pass.inside.seat in
    let free : seat.me.0.serves ≡ false = ap (λ k. k.has_turn) c.pass.view_is ∙ c.requires.free in (
      search rules,
      search rules,
      draws g.S.Standing.number g.S.Standing.items g.S.Standing.fixed c.self.inside.board.shared.key.value _ seat.id seat.me (c.pass.invariant.waits ∙ free) free c.pass.invariant.shut c.pass.invariant.spent,
    )

pub load-serving-requires : goal.load-serving-requires
load-serving-requires g c =
    let seat = c.loop.pass-inside.seat in
    let w = c.loop.invariant in (
      search rules,
      search rules,
      looks g.S.Standing.number g.S.Standing.items g.S.Standing.fixed c.self.inside.board.shared.key.value _ seat.id seat.me w.waits w.serves w.shut w.spent,
    )

pub exchange-requires : goal.exchange-requires
exchange-requires g c =
    let told = c.load-serving.ensures.2.0 (c.if-serving-ticket.true ∙ sym c.loop.invariant.drawn) in
    let out = ap (λ m. m.1) told.1 in
    (search rules, (Some told.0, out ∙ ap (λ l. (0, Some told.0) ∷ rest l) (sym out)))
