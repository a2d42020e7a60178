use Rattle.std.proofs.Common.{◌≡◌, ◌∙◌, ◌≤◌, length, arith, subst, sym, ap}
use Rattle.pol_locations.specs.Location.{location_text, parts, texts}
use Rattle.pol_locations.proofs.Texts.{path_bounded, path_too_long}
use Rattle.pol_locations.proofs.location.read_path.Goals as goal

pub returns-then-path-clause-refused : goal.returns-then-path-clause-refused
returns-then-path-clause-refused c = path_too_long c.args.path.now (omega arith)

pub read_segments-requires : goal.read_segments-requires
read_segments-requires c =
    let same : texts c.as_slice.result.now ≡ parts c.args.path.now = ap texts c.as_slice.ensures.value ∙ c.in_ok-segments.ensures in
    subst (λ segments. length (location_text segments) ≤ 1024) (sym same) (path_bounded c.args.path.now (omega arith))
