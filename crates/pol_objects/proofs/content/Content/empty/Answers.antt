use Rattle.std.proofs.Common.{[], arith, refl}
use Rattle.std.proofs.lemmas.Str.{is_utf8-from_IsUtf8}
use Rattle.pol_objects.proofs.content.Content.empty.Goals as goal

pub returns-clause-content : goal.returns-clause-content
returns-clause-content c = (omega arith, is_utf8-from_IsUtf8 [] ([], (refl, refl)))
