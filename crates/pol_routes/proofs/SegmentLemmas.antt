-- Segments that can be read, and segments that can't.
use Rattle.std.proofs.Common.{◌≡◌, ℕ, true, false, List, Some, None, Ok, Err, refl, sym, subst, ap}
use Rattle.std.specs.Str.{is_utf8}
use Rattle.percent_encoding.specs.Percent.{percent_decode}
use Rattle.pol_requests.proofs.RefusedLemmas.{refused}
use Rattle.pol_requests.specs.declared.refused.Unplanned.{Unplanned}
use Rattle.pol_requests.specs.Refused.{Meets, IsRefused}
use Rattle.pol_routes.proofs.FieldLemmas.{cond_none, cond_some}
use Rattle.pol_routes.specs.Form.{text_of}
use Rattle.pol_routes.specs.Segment.{has_whole_escapes, segment_text, unreadable_path}

-- what can't be read is told so
unread : (segment : List ℕ) (why : Unplanned) → segment_text segment ≡ Err unreadable_path → IsRefused unreadable_path why → Meets (segment_text segment) (Err why)
unread segment why is named = subst (λ expected. Meets expected (Err why)) (sym is) (refused _ unreadable_path why named)

-- an escape is cut short
pub not_whole : (segment : List ℕ) (why : Unplanned) → has_whole_escapes segment ≡ false → IsRefused unreadable_path why
    → Meets (segment_text segment) (Err why)
unfolding segment_text
not_whole segment why is named = unread segment why (rw is refl) named

-- the segment is a text
pub is_text : (segment text : List ℕ) → has_whole_escapes segment ≡ true → Some text ≡ text_of (percent_decode segment)
    → Meets (segment_text segment) (Ok text)
unfolding segment_text
is_text segment text whole found =
    let utf8 = cond_some (is_utf8 (percent_decode segment)) (percent_decode segment) text found in
    rw (whole, utf8.0) (ap Ok (sym utf8.1))

-- it isn't UTF-8 once decoded
pub is_no_text : (segment : List ℕ) (why : Unplanned) → has_whole_escapes segment ≡ true → None ≡ text_of (percent_decode segment)
    → IsRefused unreadable_path why → Meets (segment_text segment) (Err why)
unfolding segment_text
is_no_text segment why whole none named =
    let other = cond_none (is_utf8 (percent_decode segment)) (percent_decode segment) none in
    unread segment why (rw (whole, other) refl) named
