use Rattle.std.proofs.Common.{Some, None, lit<, ap, sym, ◌∙◌}
use Rattle.std.proofs.lemmas.Str.Pattern.{strip_suffix_char}
use Rattle.pol_locations.specs.Location.{trimmed}
use Rattle.pol_locations.proofs.Texts.{trimmed-other, trimmed-slash}
use Rattle.pol_locations.proofs.location.without_slash.Goals as goal

pub returns-in-Some : goal.returns-in-Some
returns-in-Some c =
    sym (ap trimmed (strip_suffix_char 0x2F c.args.path.now (Some c.in-Some.front) c.in-Some.ensures.cases (lit< tt)) ∙ trimmed-slash c.in-Some.front.now)

pub returns-in-None : goal.returns-in-None
returns-in-None c = sym (trimmed-other c.args.path.now (strip_suffix_char 0x2F c.args.path.now None c.in-None.ensures.cases (lit< tt)))
