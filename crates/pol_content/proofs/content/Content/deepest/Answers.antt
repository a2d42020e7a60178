use Rattle.std.proofs.Common.{rules, ◌≡◌, ◌+◌, ◌-◌, length, take, None, Some, sym, ap, ◌∙◌, arith}
use Rattle.pol_content.specs.Chain.{first_or, namespace_at}
use Rattle.pol_content.proofs.ChainLemmas.{first-falling, none-falling}
use Rattle.pol_content.proofs.content.Content.deepest.Goals as goal

pub returns-in-Some : goal.returns-in-Some
returns-in-Some c differ =
    let levels = c.args.levels.now in
    let many = length levels - c.loop-fewer.fewer in
    let found : namespace_at c.args.catalog c.args.self.now.rows (take many levels) ≡ Some c.in-Some.namespace = search rules in
    first-falling (namespace_at c.args.catalog c.args.self.now.rows) (λ depth. take depth levels) many (many - 1) (omega (arith, c.loop-fewer-test.true, ap length c.levels-depth.ensures.value)) c.in-Some.namespace found c.args.catalog ∙ ap (first_or c.args.catalog) (c.loop-fewer.invariant differ)

pub loop-fewer-preserved : goal.loop-fewer-preserved
loop-fewer-preserved c differ =
    let levels = c.args.levels.now in
    let many = length levels - c.loop-fewer.fewer in
    let none : namespace_at c.args.catalog c.args.self.now.rows (take many levels) ≡ None = search rules in
    sym (none-falling (namespace_at c.args.catalog c.args.self.now.rows) (λ depth. take depth levels) many (length levels - (c.loop-fewer.fewer + 1)) (omega (arith, c.loop-fewer-test.true, ap length c.levels-depth.ensures.value)) none) ∙ c.loop-fewer.invariant differ
