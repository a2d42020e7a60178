use Rattle.std.proofs.Common.{rules, ◌≡◌, ◌+◌, ◌-◌, length, take, ap, ◌∙◌, arith}
use Rattle.pol_content.specs.Chain.{namespace_at}
use Rattle.pol_content.proofs.ChainLemmas.{push-falling}
use Rattle.pol_content.proofs.content.Content.push_namespaces.Goals as goal

pub loop-fewer-preserved : goal.loop-fewer-preserved
loop-fewer-preserved c differ =
    let levels = c.args.levels.now in
    let many = length levels - c.loop-fewer.fewer in
    let found : c.in_ok-found.found ≡ namespace_at c.args.catalog c.args.self.now.rows (take many levels) = search rules in
    push-falling (namespace_at c.args.catalog c.args.self.now.rows) (λ depth. take depth levels) many (length levels - (c.loop-fewer.fewer + 1)) (omega (arith, c.loop-fewer-test.true, ap length c.levels-depth.ensures.value)) c.in_ok-found.found found c.loop-fewer.chain.items _ (search rules) ∙ c.loop-fewer.invariant differ
