use Rattle.std.proofs.Common.{◌∙◌, ap, option_map, sym}
use Rattle.pol_objects.proofs.Searches.{stands-found}
use Rattle.pol_objects.proofs.entries.share.Goals as goal

pub returns-clause-found : goal.returns-clause-found
returns-clause-found c =
    let at = c.in-Some.ensures in
    c.in_ok-share_at.ensures.bytes ∙ ap (option_map (λ e. e.1)) at.here
    ∙ sym (stands-found c.args.text.now c.args.entries.now c.in-Some.place at)
