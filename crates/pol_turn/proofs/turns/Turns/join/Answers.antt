use Rattle.std.proofs.Common.{◌≡◌, ◌∙◌, false, rules, ap}
use Rattle.pol_turn.specs.Rule.{carried}
use Rattle.pol_turn.proofs.Keeps.{joins, settles}
use Rattle.pol_turn.proofs.turns.Turns.join.Goals as goal

pub join_seat-requires : goal.join_seat-requires
join_seat-requires g c =
    let seat = c.pass.inside.seat in
    let other = c.other.inside.seat in
    let first : seat.me.0.number ≡ 0 = ap (λ k. k.number) c.pass.view_is ∙ c.requires.founds in
    let free : seat.me.0.serves ≡ false = ap (λ k. k.has_turn) c.pass.view_is ∙ c.requires.free.0 in
    let free' : other.me.0.serves ≡ false = ap (λ k. k.has_turn) c.other.view_is ∙ c.requires.free.1 in (
      search rules,
      search rules,
      c.other.invariant.slot ∙ ap carried free',
      search rules,
      joins g.S.Standing.number g.S.Standing.items g.S.Standing.fixed c.self.inside.board.shared.key.value seat.id seat.me.0 other.id other.me.0 first c.pass.invariant.spent free c.other.invariant.spent (c.other.invariant.waits ∙ free'),
    )

pub load-requires : goal.load-requires
load-requires g c =
    let seat = c.join_seat.new.seat in (
      search rules,
      search rules,
      settles g.S.Standing.number g.S.Standing.items g.S.Standing.fixed c.self.inside.board.shared.key.value _ seat.id seat.me (ap (λ m. m.0.spent) c.join_seat.ensures.2 ∙ c.pass.invariant.spent),
    )
