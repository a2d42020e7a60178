use Rattle.std.proofs.Common.{◌≡◌, ◌∙◌, ◌+◌, ◌<◌, rules, ap, arith}
use Rattle.pol_turn.proofs.Keeps.{splits}
use Rattle.pol_turn.proofs.turns.Turns.split.Goals as goal

pub split_seat-seat-requires : goal.split_seat-seat-requires
split_seat-seat-requires g c =
    let seat = c.pass.inside.seat in
    let first : seat.me.0.number ≡ 0 = ap (λ k. k.number) c.pass.view_is ∙ c.requires.founds in
    let room : seat.me.0.made + 1 < 18446744073709551616 = let made = ap (λ k. k.made) c.pass.view_is in let r = c.requires.room in omega arith in (
      search rules,
      search rules,
      splits g.S.Standing.number g.S.Standing.items g.S.Standing.fixed c.self.inside.board.shared.key.value seat.id seat.me.0 first c.pass.invariant.spent room,
    )
