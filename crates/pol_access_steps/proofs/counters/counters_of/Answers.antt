use Rattle.pol_soundness.specs.Base.{PutsValid}
use Rattle.std.proofs.Common.{List, subst}
use Rattle.std.specs.List.{AllByRecursion}
use Rattle.pol_content.specs.declared.change.Change.{Change}
use Rattle.pol_access_steps.proofs.CountersLemmas.{one-set}
use Rattle.pol_access_steps.proofs.counters.counters_of.Goals as goal

pub loop-first-preserved : goal.loop-first-preserved
loop-first-preserved c =
    let is = c.in-Some.ensures.cases.0 in
    record {
      rows = one-set c.args.state.now.rows c.loop-first.counters c.in-Some-counters_after.after c.args.changes.now c.loop-first.left.now c.in-Some.rest.now c.in-Some.first.now c.loop-first.invariant.rows is c.in-Some-counters_after.ensures;
      valid = λ all. (subst (λ (some : List Change). AllByRecursion PutsValid some) is (c.loop-first.invariant.valid all)).1;
    }
