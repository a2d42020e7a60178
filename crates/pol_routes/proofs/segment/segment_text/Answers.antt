use Rattle.std.proofs.Common.{sym, ◌∙◌}
use Rattle.pol_routes.proofs.SegmentLemmas.{not_whole, is_text, is_no_text}
use Rattle.pol_routes.proofs.segment.segment_text.Goals as goal

pub returns-then-not-has_whole_escapes : goal.returns-then-not-has_whole_escapes
returns-then-not-has_whole_escapes c =
    not_whole c.args.segment.now c.unreadable.result (sym c.has_whole_escapes.ensures ∙ c.if-not-has_whole_escapes.true) c.unreadable.ensures

pub returns-in-Some : goal.returns-in-Some
returns-in-Some c =
    is_text c.args.segment.now c.in-Some.text (sym c.has_whole_escapes.ensures ∙ c.if-not-has_whole_escapes.false) (sym c.in-Some.is ∙ c.in_ok-text.ensures)

pub returns-in-None : goal.returns-in-None
returns-in-None c =
    is_no_text c.args.segment.now c.unreadable-in-None.result (sym c.has_whole_escapes.ensures ∙ c.if-not-has_whole_escapes.false)
    (sym c.in-None.is ∙ c.in_ok-text.ensures) c.unreadable-in-None.ensures
