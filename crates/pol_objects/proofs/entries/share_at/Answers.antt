use Rattle.std.proofs.Common.{◌≡◌, ◌∙◌, Some, ap, set}
use Rattle.std.specs.Prelude.{slice_get}
use Rattle.pol_blocks.specs.Blocks.{flat, number_of}
use Rattle.pol_objects.proofs.Searches.{put-back}
use Rattle.pol_objects.proofs.entries.share_at.Goals as goal

pub returns-clause-kept : goal.returns-clause-kept
returns-clause-kept c =
    let items = flat c.args.entries.now in
    let number = number_of c.args.entries.now c.args.place in
    let entry = c.share-entry.result.0 in
    let taken : Some entry ≡ slice_get items number = ap (λ e. Some e) c.share-entry.ensures.entry ∙ c.replace-entry.ensures.taken in
    c.replace.ensures.put
    ∙ (λ i. set (c.replace-entry.ensures.put i) (c.replace-entry.ensures.number i) entry)
    ∙ put-back items number c.empty.result entry taken
