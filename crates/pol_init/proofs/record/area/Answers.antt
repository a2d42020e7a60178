use Rattle.std.proofs.Common.{List, [], ◌∷◌, ◌++◌, ℕ, ap, ◌∙◌}
use Rattle.pol_journal.specs.Format.{framed}
use Rattle.pol_init.proofs.JournalsLemmas.{area-one}
use Rattle.pol_init.proofs.record.area.Goals as goal

pub returns : goal.returns
returns c =
    c.in_ok-push.ensures.items
    ∙ ap (λ (l : List ℕ). l ++ 0 ∷ []) (c.in_ok-push_framed.ensures ∙ ap (λ (l : List ℕ). l ++ framed c.args.body.now) c.in_ok-area.ensures.items)
    ∙ area-one c.args.body.now
