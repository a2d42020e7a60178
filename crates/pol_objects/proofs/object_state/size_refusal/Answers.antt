use Rattle.pol_objects.proofs.Sizes.{fits, space_full, too_long}
use Rattle.pol_objects.proofs.object_state.size_refusal.Goals as goal

pub returns-then-length-gt-MAX_LENGTH : goal.returns-then-length-gt-MAX_LENGTH
returns-then-length-gt-MAX_LENGTH c = too_long c.args.counted c.args.length c.if-length-gt-MAX_LENGTH.true

pub returns-then-counted-gt-MAX_COUNTED : goal.returns-then-counted-gt-MAX_COUNTED
returns-then-counted-gt-MAX_COUNTED c =
    space_full c.args.counted c.args.length c.saturating_add-counted.result c.if-length-gt-MAX_LENGTH.false c.saturating_add-counted.ensures c.if-counted-gt-MAX_COUNTED.true

pub returns : goal.returns
returns c =
    fits c.args.counted c.args.length c.saturating_add-counted.result c.if-length-gt-MAX_LENGTH.false c.saturating_add-counted.ensures c.if-counted-gt-MAX_COUNTED.false
