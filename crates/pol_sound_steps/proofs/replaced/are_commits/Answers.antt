use Rattle.std.proofs.Common.{refl, subst, arith}
use Rattle.pol_sound_steps.specs.Commits.{HaveLed}
use Rattle.pol_access_steps.specs.Counters.{counted}
use Rattle.pol_sound_steps.proofs.CommitLemmas.{all-led, id-bound, more-led, none-led}
use Rattle.pol_access_steps.proofs.CountersLemmas.{counted-sound}
use Rattle.pol_sound_steps.proofs.ItemsLemmas.{no-item}
use Rattle.pol_sound_steps.proofs.replaced.are_commits.Goals as goal

pub loop-first-init : goal.loop-first-init
loop-first-init c =
    let s = c.args.state.now.rows in
    let at = counted s c.args.counters in
    none-led s c.args.puts.now at (counted-sound s c.requires.sound c.args.counters c.requires.follows) refl c.requires.changes

pub overflow_add-least : goal.overflow_add-least
overflow_add-least c =
    let bound = id-bound c.args.state.now.rows c.requires.sound c.loop-first.least c.in-Some-committed.id c.in-Some.first.now c.in-Some-committed.ensures in
    omega (arith, bound)

pub loop-first-preserved : goal.loop-first-preserved
loop-first-preserved c =
    let s = c.args.state.now.rows in
    let at = counted s c.args.counters in
    more-led s c.args.puts.now at c.loop-first.least c.in-Some-committed.id c.in-Some.first.now c.in-Some.rest.now (subst (HaveLed s c.args.puts.now at c.loop-first.least) c.in-Some.ensures.cases.0 c.loop-first.invariant) c.in-Some-committed.ensures

pub returns : goal.returns
returns c =
    let s = c.args.state.now.rows in
    let at = counted s c.args.counters in
    λ is. all-led s c.args.puts.now at c.loop-first.least (subst (HaveLed s c.args.puts.now at c.loop-first.least) (no-item c.loop-first.left.now c.in_default.ensures.cases) c.loop-first.invariant)
