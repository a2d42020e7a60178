use Rattle.std.proofs.Common.{◌≡◌, drop}
use Rattle.toml.specs.View.{items_view}
use Rattle.pol_declaration.specs.Forms.{items}
use Rattle.pol_declaration.proofs.ListLemmas.{after}
use Rattle.pol_declaration.proofs.form.read_items.Given as goal

abbrev pub invariant-loop-place : goal.invariant-loop-place
invariant-loop-place g l =
    items g.F.Form.shape 0 (items_view l.items.items)
    ≡ after l.read.items (items g.F.Form.shape l.place (items_view (drop l.place l.items.items)))
