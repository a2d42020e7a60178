use Rattle.std.proofs.Common.{◌≡◌, ◌∷◌, [], ◌∙◌, rules, sym, subst, ap, List, ℕ, Option, Some, None, true}
use Rattle.atomic_table.specs.Table.{rest}
use Rattle.pol_turn.specs.Known.{AddsAtMostOne}
use Rattle.pol_turn.specs.Rule.{carried}
use Rattle.pol_turn.proofs.Keeps.{serves}
use Rattle.pol_turn.proofs.turns.Turns.give_back.Goals as goal

pub fetch_add-requires : goal.fetch_add-requires
fetch_add-requires g c =
    let number = g.S.Standing.number in
    let items = g.S.Standing.items in
    let fixed = g.S.Standing.fixed in
    let opened = c.self.inside.board.shared.key.value in
    let v = c.pass.inside.seat.me.0 in
    let x = c.args.held.value in
    let seat = c.exchange-taken.new.seat in
    let turn : v.serves ≡ true = ap (λ k. k.has_turn) c.pass.view_is ∙ c.requires.turn in
    let slot : c.pass.inside.seat.me.1 ≡ (0, None) ∷ [] = c.pass.invariant.slot ∙ ap carried turn in
    let me = c.exchange-taken.ensures.3 ∙ ap (λ (l : List (ℕ × Option g.row.S.Denot)). (v, (0, Some x) ∷ rest l)) slot in
    let added : AddsAtMostOne number v.number v.front (items x) = subst (λ k. AddsAtMostOne number k.number k.front (items x)) (sym c.pass.view_is) c.requires.items in
    let start : v.fixed ≡ Some (fixed x) = ap (λ k. k.lock.fixed) c.pass.view_is ∙ (ap (λ l. l.fixed) c.requires.lock ∙ sym c.requires.fixed) in (
      search rules,
      search rules,
      rw me (serves number items fixed opened _ seat.id v x turn c.pass.invariant.shut c.pass.invariant.spent added start),
    )
