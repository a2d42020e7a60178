use Rattle.std.proofs.Common.{◌≡◌, ◌∷◌, [], refl, Some}
use Rattle.pol_turn.proofs.Keeps.{opens}
use Rattle.pol_turn.proofs.Rests.{rests, founding_fair}
use Rattle.pol_turn.specs.Rule.{founding}
use Rattle.pol_turn.proofs.turns.Turns.new.Goals as goal

pub new-requires : goal.new-requires
new-requires g c =
    let opened = c.of-opened.result.value in
    let slots : c.push_reserved.new.self.items ≡ Some opened ∷ [] = rw (c.push_reserved.ensures.items, c.in-Ok.ensures.items, c.of-opened.ensures) refl in
    rw slots (opens g.S.Standing.number g.S.Standing.items g.S.Standing.fixed opened (rw c.of-opened.ensures c.requires))

pub invariant_of-result-in-Ok-new : goal.invariant_of-result-in-Ok-new
invariant_of-result-in-Ok-new g c =
    let number = g.S.Standing.number in
    let opened = c.of-opened.result.value in
    let v = founding (g.S.Standing.items opened) (g.S.Standing.fixed opened) in
    rests number 0 1 c.in-Ok-new.seat v [] c.in-Ok-new.ensures.ok.4 refl refl refl refl refl refl (founding_fair number (g.S.Standing.items opened) (g.S.Standing.fixed opened) (rw c.of-opened.ensures c.requires))
