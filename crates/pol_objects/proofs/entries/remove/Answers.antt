use Rattle.std.proofs.Common.{◌∙◌, ap, is_some, subst, sym}
use Rattle.std.specs.Ordering.{is_eq}
use Rattle.pol_blocks.specs.Blocks.{flat}
use Rattle.pol_objects.specs.Entries.{IsRising}
use Rattle.pol_objects.specs.Objects.{byte_order}
use Rattle.pol_objects.proofs.Searches.{remove-none, removed-rising, stands-found, stands-removed}
use Rattle.pol_objects.proofs.entries.remove.Goals as goal

pub returns-in_default-clause-without : goal.returns-in_default-clause-without
returns-in_default-clause-without c =
    sym (remove-none (λ key. is_eq (byte_order c.args.text.now key)) (flat c.args.entries.now) c.in_default.ensures)

pub returns-clause-taken : goal.returns-clause-taken
returns-clause-taken c = ap is_some (sym (stands-found c.args.text.now c.args.entries.now c.in-Some.place c.in-Some.ensures))

pub returns-clause-without : goal.returns-clause-without
returns-clause-without c =
    c.remove.ensures.without ∙ stands-removed c.args.text.now c.args.entries.now c.in-Some.place c.in-Some.ensures

pub returns-clause-rising : goal.returns-clause-rising
returns-clause-rising c =
    subst IsRising (sym c.remove.ensures.without)
    (removed-rising c.args.text.now c.args.entries.now c.in-Some.place c.in-Some.ensures.parting c.requires)
