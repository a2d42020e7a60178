use Rattle.std.proofs.Common.{◌≡◌, map, take, length, codes}
use Rattle.std.specs.Option.{option_to_list, option_map, IfSome}
use Rattle.httparse.specs.Spans.{header_bytes, span_bytes, IsWithin}
use Rattle.pol_http.specs.Fields.{values_of, is_coded}
use Rattle.pol_http.proofs.fields.framing.Given as goal

abbrev pub invariant-loop-field : goal.invariant-loop-field
invariant-loop-field l =
    let fields = map (header_bytes l.bytes) (take l.field-index l.fields) in
    (values_of (codes "content-length") fields ≡ option_to_list (option_map (span_bytes l.bytes) l.found))
    × IfSome l.found (IsWithin (length l.bytes))
    × (l.coded ≡ is_coded fields)
