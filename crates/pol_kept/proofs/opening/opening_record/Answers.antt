use Rattle.std.proofs.Common.{◌≡◌, List, ℕ, [], ◌∷◌, ◌++◌, ap, ◌∙◌}
use Rattle.pol_kept.proofs.OpenedLemmas.{area-is}
use Rattle.pol_kept.proofs.opening.opening_record.Goals as goal

pub returns : goal.returns
returns c =
    let gate : c.push.new.self.items ≡ [] ++ 1 ∷ [] = c.in_ok-push.ensures.items ∙ ap (λ (area : List ℕ). area ++ 1 ∷ []) c.new-area.ensures.items in
    area-is c.args.body.now c.push-2.new.self.items (
    c.in_ok-push-2.ensures.items
    ∙ ap (λ (area : List ℕ). area ++ 0 ∷ []) (
    c.in_ok-extend_from_slice-2.ensures.items
    ∙ ap (λ (area : List ℕ). area ++ c.args.body.now) (c.in_ok-extend_from_slice.ensures.items ∙ (λ i. gate i ++ c.to_be_bytes.ensures i))
    )
    )
