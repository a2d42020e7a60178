use Rattle.std.proofs.Common.{◌≡◌, ◌∙◌, ◌+◌, length, IsTrue, IsNone, IfSome, Some, rules, sym, subst, ap}
use mathlib.Core.List.{IsPrefix}
use Rattle.pol_turn.specs.Known.{AccountsFor}
use Rattle.pol_turn.proofs.Keeps.{shuts, closes, closes_none, closes_some, Closes}
use Rattle.pol_turn.proofs.turns.Turns.close.Given as given
use Rattle.pol_turn.proofs.turns.Turns.close.Goals as goal

pub load-requires : goal.load-requires
load-requires g c =
    let seat = c.pass.inside.seat in (
      search rules,
      search rules,
      shuts g.S.Standing.number g.S.Standing.items g.S.Standing.fixed c.self.inside.board.shared.key.value _ seat.id seat.me c.pass.invariant.slot c.pass.invariant.shut c.pass.invariant.spent,
    )

-- what the slot had
end : (g : given.Over) (c : goal.After-free g) → Closes g.S.Standing.number g.S.Standing.items g.S.Standing.fixed c.pass.inside.seat.me.0 c.take-value.result
end g c =
    let number = g.S.Standing.number in
    let items = g.S.Standing.items in
    let fixed = g.S.Standing.fixed in
    let opened = c.self.inside.board.shared.key.value in
    let seat = c.pass.inside.seat in
    let known = c.pass.view_is in
    closes number items fixed opened c.load.new.seat.id seat.me.0 c.load.new.seat.me.0 _ _ c.take-value.result (ap (λ k. k.number) known ∙ c.requires.founds) c.pass.invariant.waits c.pass.invariant.spent (subst (λ k. length k.gathered + 1 ≡ k.made) (sym known) c.requires.joined) (ap (λ m. m.0) c.load.ensures.2) c.close_with-closed.ensures.values.2 c.take-value.ensures.value

pub returns-clause-none : goal.returns-clause-none
returns-clause-none g c =
    subst (λ k. (IsNone c.take-value.result → IsTrue k.has_turn) × (IsTrue k.has_turn → IsNone c.take-value.result)) c.pass.view_is
    (closes_none g.S.Standing.number g.S.Standing.items g.S.Standing.fixed c.pass.inside.seat.me.0 c.take-value.result (end g c))

pub returns-clause-front : goal.returns-clause-front
returns-clause-front g c =
    subst (λ k. IfSome c.take-value.result (λ value. IsPrefix k.front (g.S.Standing.items value))) c.pass.view_is
    (closes_some g.S.Standing.number g.S.Standing.items g.S.Standing.fixed c.pass.inside.seat.me.0 c.take-value.result _ (λ x e. e.2) (end g c))

pub returns-clause-fixed : goal.returns-clause-fixed
returns-clause-fixed g c =
    closes_some g.S.Standing.number g.S.Standing.items g.S.Standing.fixed c.pass.inside.seat.me.0 c.take-value.result (λ value. Some (g.S.Standing.fixed value) ≡ c.args.self.fixed)
    (λ x e. sym e.1 ∙ (ap (λ k. k.lock.fixed) c.pass.view_is ∙ ap (λ l. l.fixed) c.requires.lock)) (end g c)

pub returns-clause-accounts : goal.returns-clause-accounts
returns-clause-accounts g c =
    subst (λ k. IfSome c.take-value.result (λ value. AccountsFor g.S.Standing.number k (g.S.Standing.items value))) c.pass.view_is
    (closes_some g.S.Standing.number g.S.Standing.items g.S.Standing.fixed c.pass.inside.seat.me.0 c.take-value.result _ (λ x e. e.3) (end g c))
