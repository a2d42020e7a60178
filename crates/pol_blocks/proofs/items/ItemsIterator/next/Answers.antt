use Rattle.std.proofs.Common.{◌≡◌, ◌∙◌, ◌∷◌, [], ap, drop, length, rules, sym}
use Rattle.pol_blocks.specs.Blocks.{flat, number_of}
use Rattle.pol_blocks.proofs.Points.{first-left, item-there, none-left}
use Rattle.pol_blocks.proofs.items.ItemsIterator.next.Goals as goal

pub returns-in_err-item-clause-steps : goal.returns-in_err-item-clause-steps
returns-in_err-item-clause-steps g c =
    let list = c.self.inside.list.now in
    let none : c.args.self.now ≡ [] = sym c.self.view_is ∙ none-left (flat list) (number_of list c.self.inside.place) c.in_err-item.ensures in
    rw c.from_residual.ensures (none, none)

pub next-self-inside-requires-clause-item : goal.next-self-inside-requires-clause-item
next-self-inside-requires-clause-item g c = item-there c.self.inside.list.now c.self.inside.place c.in_ok-item.item.now c.self.invariant c.in_ok-item.ensures

pub returns-clause-steps : goal.returns-clause-steps
returns-clause-steps g c =
    let list = c.self.inside.list.now in
    let item = c.in_ok-item.item.now in
    sym c.self.view_is
    ∙ first-left (flat list) (number_of list c.self.inside.place) item c.in_ok-item.ensures
    ∙ ap (λ n. item ∷ drop n (flat list)) (sym c.next-self-inside.ensures.number)

pub returns-clause-goes : goal.returns-clause-goes
returns-clause-goes g c =
    let list = c.self.inside.list.now in
    let item = c.in_ok-item.item.now in
    let step : c.args.self.now ≡ item ∷ drop (number_of list c.next-self-inside.result) (flat list) =
    sym c.self.view_is
    ∙ first-left (flat list) (number_of list c.self.inside.place) item c.in_ok-item.ensures
    ∙ ap (λ n. item ∷ drop n (flat list)) (sym c.next-self-inside.ensures.number) in
    let shorter = ap length step in search rules
