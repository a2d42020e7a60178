use Rattle.std.proofs.Common.{◌≡◌, drop}
use Rattle.pol_views.specs.Updates.{after_each}
use Rattle.pol_views.proofs.commit.apply_each.Given as goal

abbrev pub invariant-loop-index : goal.invariant-loop-index
invariant-loop-index l = after_each l.moment 0 l.updates l.initial.draft ≡ after_each l.moment l.index (drop l.index l.updates) l.draft
