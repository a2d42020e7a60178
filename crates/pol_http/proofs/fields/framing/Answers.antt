use Rattle.std.proofs.Common.{◌≡◌, ℕ, ◌<◌, true, List, Option, None, Some, map, get_or, take, length, codes, arith, refl, sym, ◌∙◌}
use Rattle.std.specs.Option.{is_some, option_to_list, option_map}
use Rattle.std.proofs.lemmas.Bool.{false≢true}
use Rattle.httparse.specs.declared.spans.HeaderSpan.{HeaderSpan}
use Rattle.httparse.specs.declared.spans.Span.{Span}
use Rattle.httparse.specs.Spans.{header_bytes, span_bytes}
use Rattle.pol_http.specs.Fields.{is_named, values_of, said_length}
use Rattle.pol_http.proofs.FieldLemmas.{content_length_twice}
use Rattle.pol_http.proofs.fields.framing.Goals as goal

-- the field at i is a second one where some value was found before
twice : (bytes : List ℕ) (fields : List HeaderSpan) (i : ℕ) (d : HeaderSpan) (found : Option Span)
    → i < length fields → is_named (codes "content-length") (header_bytes bytes (get_or fields i d)) ≡ true
    → is_some found ≡ true
    → values_of (codes "content-length") (map (header_bytes bytes) (take i fields)) ≡ option_to_list (option_map (span_bytes bytes) found)
    → said_length (map (header_bytes bytes) fields) ≡ None
twice bytes fields i d None inside named some once = absurd (false≢true some)
twice bytes fields i d (Some span) inside named some once =
    content_length_twice (codes "content-length") (header_bytes bytes) fields i d inside named (span_bytes bytes span) once

pub returns-then-is_some : goal.returns-then-is_some
returns-then-is_some c =
    rw (twice c.args.bytes.now c.args.fields.now c.loop-field.field-index _ c.loop-field.found (omega arith)
    (sym c.is_named.ensures ∙ c.if-is_named.true) (sym c.is_some.ensures ∙ c.if-is_some.true) c.loop-field.invariant.0) refl
