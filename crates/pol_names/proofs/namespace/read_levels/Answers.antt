use Rattle.std.proofs.Common.{◌≤◌, ◌+◌, arith, drop, length, subst}
use Rattle.std.proofs.lemmas.Result.{err_from_is_err_and}
use Rattle.pol_names.specs.Namespace.{texts}
use Rattle.pol_names.proofs.Levels.{HaveRead, have_read_more, next_at, refused_behind}
use Rattle.pol_names.proofs.namespace.read_levels.Goals as goal

pub returns-in_err-read_level-clause-refused : goal.returns-in_err-read_level-clause-refused
returns-in_err-read_level-clause-refused c =
    let p = err_from_is_err_and c.from_residual-in_err-read_level.result c.from_residual-in_err-read_level.ensures.1 in
    let bounded : length c.args.levels.now ≤ 16 = omega (arith, c.in_ok-judge_depth.ensures.bounded) in
    rw (p.1, p.2)
    (refused_behind c.args.levels.now c.loop-level.names.items (texts (drop (c.loop-level.level-index + 1) c.args.levels.now)) _ _
    (subst (λ rest. HaveRead (texts c.args.levels.now) c.loop-level.names.items rest) (next_at c.args.levels.now c.loop-level.level-index _ c.loop-level-test.true) c.loop-level.invariant)
    bounded c.in_err-read_level.ensures.refused)

pub loop-level-preserved : goal.loop-level-preserved
loop-level-preserved c =
    rw c.in_ok-read_level.ensures.read
    (have_read_more (texts c.args.levels.now) c.loop-level.names.items (texts (drop (c.loop-level.level-index + 1) c.args.levels.now)) _
    (subst (λ rest. HaveRead (texts c.args.levels.now) c.loop-level.names.items rest) (next_at c.args.levels.now c.loop-level.level-index _ c.loop-level-test.true) c.loop-level.invariant)
    c.in_ok-read_level.ensures.named)
