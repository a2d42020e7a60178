use Rattle.std.proofs.Common.{◌++◌, rules}
use Rattle.std.proofs.Output.{has_written_append}
use Rattle.pol_readers.specs.Path.{step_text}
use Rattle.pol_readers.proofs.PathLemmas.{one_step}
use Rattle.pol_readers.proofs.path.StepsDisplay.fmt.Goals as goal

pub loop-step-preserved : goal.loop-step-preserved
loop-step-preserved g c =
    λ plain.
    let so = c.loop-step.invariant plain in
    let step = c.in-Some.step.now in (
      so.0 ++ step_text step,
      has_written_append _ _ _ _ _ _ so.1 (search rules),
      one_step c.args.self.now.0.now c.loop-step.left.now c.in-Some.inner.now step so.0 c.in-Some.ensures.cases.0 so.2,
    )
