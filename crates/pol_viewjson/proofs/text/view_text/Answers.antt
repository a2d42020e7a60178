use Rattle.std.proofs.Common.{string_bytes}
use Rattle.std.proofs.lemmas.Str.{IsUtf8-string_bytes}
use Rattle.serde_json.specs.View.{view}
use Rattle.pol_viewjson.proofs.ReadLemmas.{text_is_read}
use Rattle.pol_viewjson.proofs.text.view_text.Goals as goal

pub returns-clause-reads_back : goal.returns-clause-reads_back
returns-clause-reads_back c = λ forms.
    text_is_read c.args.meta.now (view c.in_ok-value.value) (string_bytes c.in_ok-to_string.field-0) forms
    c.each_is_held.ensures c.in_ok-value.ensures.json (c.in_ok-value.ensures.nests forms) (IsUtf8-string_bytes c.in_ok-to_string.field-0)
    c.in_ok-to_string.ensures.reads_back
