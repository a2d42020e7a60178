use Rattle.std.proofs.Common.{◌≡◌, ◌∙◌, None, Some, ap, sym, true≢false, option_copied}
use Rattle.std.specs.Cmp.Lexicographic.{bytes_decides}
use Rattle.std.specs.Prelude.{slice_get}
use Rattle.pol_blocks.specs.Blocks.{flat, number_of}
use Rattle.pol_objects.proofs.Searches.{missing-here}
use Rattle.pol_objects.proofs.entries.seek.Goals as goal

pub returns-in_default : goal.returns-in_default
returns-in_default c =
    let none : slice_get (flat c.args.entries.now) (number_of c.args.entries.now c.place_of-place.result) ≡ None = sym c.get.ensures ∙ ap option_copied c.in_default.is in
    missing-here c.args.text.now c.args.entries.now c.place_of-place.result c.place_of-place.ensures c.requires (λ entry is own. cc)

pub returns-else-eq : goal.returns-else-eq
returns-else-eq c =
    let found : slice_get (flat c.args.entries.now) (number_of c.args.entries.now c.place_of-place.result) ≡ Some c.in-Some.entry.now = sym c.get.ensures ∙ ap option_copied c.in-Some.is in
    missing-here c.args.text.now c.args.entries.now c.place_of-place.result c.place_of-place.ensures c.requires
    (λ entry is own.
    let same : c.in-Some.entry.now ≡ entry = cc in
    true≢false (sym ((bytes_decides c.text.result.now c.args.text.now).1 (c.text.ensures ∙ ap (λ e. e.0) same ∙ sym own)) ∙ sym c.eq.ensures ∙ c.if-eq.false))
