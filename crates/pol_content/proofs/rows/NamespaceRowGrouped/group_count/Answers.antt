use Rattle.std.proofs.Common.{◌-◌, List, ℕ, length, ap, arith, sym, ◌∙◌}
use Rattle.pol_content.proofs.AboveLemmas.{count-above}
use Rattle.pol_content.proofs.rows.NamespaceRowGrouped.group_count.Goals as goal

pub returns-clause-all : goal.returns-clause-all
returns-clause-all c =
    ap (λ (levels : List (List ℕ)). length levels - 1) c.levels.ensures.value ∙ sym (count-above c.args.self.now)

pub returns-clause-few : goal.returns-clause-few
returns-clause-few c = omega (arith, count-above c.args.self.now, c.levels.ensures.named.bounded)
