use Rattle.std.proofs.Common.{refl, ap, ◌∙◌}
use Rattle.std.specs.Cmp.Lexicographic.{lists_agrees}
use Rattle.std.specs.Ordering.{is_lt, is_some_and}
use Rattle.pol_locations.proofs.location_set.is_before.Goals as goal

pub returns : goal.returns
returns c = c.lt.ensures ∙ ap (is_some_and is_lt) (lists_agrees (λ x y. refl) c.args.member.now.location c.args.location.now)
