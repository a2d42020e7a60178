use Rattle.std.proofs.Common.{◌≡◌, length, drop}
use Rattle.pol_routes.specs.Objects.{segment_texts}
use Rattle.pol_routes.specs.Segment.{segments}
use Rattle.pol_routes.proofs.ObjectLemmas.{read_on}
use Rattle.pol_routes.proofs.objects.segment_texts.Given as goal

abbrev pub invariant-loop-segment : goal.invariant-loop-segment
invariant-loop-segment l =
    let all = drop 2 (segments l.path) in segment_texts all ≡ read_on l.texts.items (drop (length l.yielded) all)
