use Rattle.std.proofs.Common.{◌==◌, rules, tests}
use Rattle.std.specs.Str.{bytes_eq}
use Rattle.std.proofs.lemmas.Iterator.Search.{position_from_yields_List}
use Rattle.std.proofs.lemmas.Iterator.Splits.{YieldsList-from_slice_split}
use Rattle.pol_routes.specs.Segment.{place_of, slash}
use Rattle.pol_routes.proofs.segment.place_of.Goals as goal

pub returns : goal.returns
unfolding place_of
returns c =
    position_from_yields_List (λ segment. bytes_eq segment c.args.parameter.now) _ _ c.position.result c.position.ensures.ran
    (YieldsList-from_slice_split _ (λ byte. byte == slash) c.args.pattern.now c.split.ensures.rest c.split.ensures.done c.split.ensures.closure
    (λ x b q k. search (rules, tests)))
    (λ x b q k. search (rules, tests))
