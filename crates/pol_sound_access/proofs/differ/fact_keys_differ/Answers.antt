use Rattle.pol_sound_access.proofs.DifferLemmas.{all-seen, distinct-keys, next-again, next-seen}
use Rattle.pol_sound_access.proofs.differ.fact_keys_differ.Goals as goal

pub returns-then-not-branch : goal.returns-then-not-branch
returns-then-not-branch g c =
    next-again g.K.Fact.coded g.R.Told.told c.args.facts c.loop-fact.fact-iterator c.next.new.self c.in-Some.fact.now c.loop-fact.seen.keys c.in_ok-is_new.field-0 c.loop-fact.invariant c.in-Some.ensures.steps c.in_ok-is_new.ensures.test c.if-not-branch.true

pub loop-fact-preserved : goal.loop-fact-preserved
loop-fact-preserved g c =
    next-seen g.K.Fact.coded g.R.Told.told c.args.facts c.loop-fact.fact-iterator c.next.new.self c.in-Some.fact.now c.loop-fact.seen.keys c.is_new.new.seen.keys c.loop-fact.invariant c.in-Some.ensures.steps (c.in_ok-is_new.ensures.seen c.if-not-branch.false)

pub returns : goal.returns
returns g c =
    all-seen g.K.Fact.coded g.R.Told.told c.args.facts c.loop-fact.fact-iterator c.loop-fact.seen.keys c.loop-fact.invariant c.in-None.ensures.steps.0 (distinct-keys g.K.Fact.coded _ g.met.K.Exact.compares_exactly g.met.K.Eq.laws _ c.len-seen.ensures.unique)
