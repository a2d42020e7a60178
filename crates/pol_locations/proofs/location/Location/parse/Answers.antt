use Rattle.std.proofs.Common.{◌≡◌, ◌∙◌, ap, subst}
use Rattle.std.proofs.lemmas.Result.{MatchResult-weaker, on_ok_weaker}
use Rattle.pol_locations.specs.Location.{IsLocation, IsLocationRefusal, parts, segments_of, trimmed}
use Rattle.pol_locations.proofs.Texts.{parse_passes, parse_refuses}
use Rattle.pol_locations.proofs.location.Location.parse.Goals as goal

pub returns-clause-passes : goal.returns-clause-passes
returns-clause-passes c =
    let same : parts c.without_slash.result.now ≡ segments_of c.args.text.now = ap parts (c.without_slash.ensures ∙ ap trimmed c.in-Some.ensures.1) in
    on_ok_weaker c.read_path.result (λ location. parse_passes c.args.text.now c.in-Some.ensures.0 (subst IsLocation same location)) c.read_path.ensures.located

pub returns-clause-refused : goal.returns-clause-refused
returns-clause-refused c =
    let same : parts c.without_slash.result.now ≡ segments_of c.args.text.now = ap parts (c.without_slash.ensures ∙ ap trimmed c.in-Some.ensures.1) in
    MatchResult-weaker c.read_path.result c.read_path.ensures.refused (λ location fine. fine)
    (λ why refused. parse_refuses c.args.text.now why c.in-Some.ensures.0 (subst (λ segments. IsLocationRefusal segments why) same refused))
