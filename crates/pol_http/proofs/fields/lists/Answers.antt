use Rattle.std.proofs.Common.{ℕ, List, rules, tests, ◌&&◌}
use Rattle.std.proofs.lemmas.Iterator.{YieldsList-from_slice}
use Rattle.std.proofs.lemmas.Iterator.Search.{any_from_yields_List}
use Rattle.httparse.specs.Spans.{header_bytes}
use Rattle.pol_http.specs.Fields.{is_named, has_member}
use Rattle.pol_http.proofs.fields.lists.Goals as goal
use Rattle.pol_http.proofs.FieldLemmas.{list_any-map}

pub returns : goal.returns
returns c =
    let test = λ (field : List ℕ × List ℕ). is_named c.args.name.now field && has_member c.args.word.now field.1 in
    rw list_any-map
    (any_from_yields_List (λ field. test (header_bytes c.args.bytes.now field)) _ _ _ c.any.ensures.ran
    (YieldsList-from_slice c.args.fields.now cc) (λ x b q k. search (rules, tests)))
