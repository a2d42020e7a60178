use Rattle.std.proofs.Common.{◌≡◌, ◌++◌, rules}
use Rattle.pol_objects.proofs.Texts.{text-first}
use Rattle.pol_objects.proofs.content.together.Goals as goal

pub returns-clause-content : goal.returns-clause-content
returns-clause-content c =
    let is : c.from.result ≡ c.as_bytes-text.result.now ++ c.args.bytes.now = search rules in
    text-first c.as_bytes-text.result.now c.args.bytes.now c.from.result is c.as_bytes-text.ensures.utf8
