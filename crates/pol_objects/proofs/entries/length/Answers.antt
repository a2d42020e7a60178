use Rattle.std.proofs.Common.{◌≡◌, ◌∙◌, Some, ap, option_copied, sym}
use Rattle.std.specs.Prelude.{slice_get}
use Rattle.pol_blocks.specs.Blocks.{flat, number_of}
use Rattle.pol_objects.proofs.Searches.{stands-length}
use Rattle.pol_objects.proofs.entries.length.Goals as goal

pub returns : goal.returns
returns c =
    let found : slice_get (flat c.args.entries.now) (number_of c.args.entries.now c.in_ok-place.place) ≡ Some c.in_ok-entry.entry.now = sym c.get.ensures ∙ ap option_copied c.in_ok-entry.was in
    stands-length c.args.text.now c.args.entries.now c.in_ok-place.place c.in_ok-place.ensures c.in_ok-entry.entry.now c.len.result found c.len.ensures
