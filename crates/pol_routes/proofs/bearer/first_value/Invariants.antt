use Rattle.std.proofs.Common.{◌≡◌, map, drop}
use Rattle.httparse.specs.Spans.{header_bytes}
use Rattle.pol_routes.specs.Bearer.{first_value}
use Rattle.pol_routes.proofs.bearer.first_value.Given as goal

abbrev pub invariant-loop-field : goal.invariant-loop-field
invariant-loop-field l =
    first_value l.name (map (header_bytes l.bytes) (drop l.field-index l.fields)) ≡ first_value l.name (map (header_bytes l.bytes) l.fields)
