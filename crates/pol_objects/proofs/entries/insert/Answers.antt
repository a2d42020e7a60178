use Rattle.std.proofs.Common.{◌∙◌, subst, sym}
use Rattle.pol_objects.specs.Entries.{IsParting, IsRising}
use Rattle.pol_objects.proofs.Searches.{inserted, inserted-rising}
use Rattle.pol_objects.proofs.entries.insert.Goals as goal

pub returns-clause-put : goal.returns-clause-put
returns-clause-put c =
    let old = c.args.entries.now in
    let place = c.place_of-place.result in
    let parting = subst (λ text. IsParting text old place) c.text.ensures c.place_of-place.ensures in
    c.in_ok-insert.ensures.inserted ∙ inserted c.args.entry.0 old place parting c.args.entry.1 c.requires.rising c.requires.new

pub returns-clause-rising : goal.returns-clause-rising
returns-clause-rising c =
    let old = c.args.entries.now in
    let place = c.place_of-place.result in
    let parting = subst (λ text. IsParting text old place) c.text.ensures c.place_of-place.ensures in
    subst IsRising (sym c.in_ok-insert.ensures.inserted) (inserted-rising c.args.entry.0 old place parting c.args.entry.1 c.requires.rising c.requires.new)
