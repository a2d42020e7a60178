use Rattle.std.proofs.Common.{rules, ◌+◌, ◌-◌, length, take, sym, ap, ◌∙◌, arith}
use Rattle.pol_content.specs.Content.{is_missing}
use Rattle.pol_content.proofs.NamesLemmas.{first-fails}
use Rattle.pol_content.proofs.content.Content.first_missing.Goals as goal

pub loop-depth-preserved : goal.loop-depth-preserved
loop-depth-preserved c =
    sym (first-fails (is_missing c.args.catalog c.args.self.now.rows) (λ depth. take depth c.args.levels.now) (c.loop-depth.depth + 1) (length c.args.levels.now - c.loop-depth.depth) (length c.args.levels.now - (c.loop-depth.depth + 1)) (omega (arith, c.loop-depth-test.true, ap length c.levels-depth-end.ensures.value)) (search rules)) ∙ c.loop-depth.invariant
