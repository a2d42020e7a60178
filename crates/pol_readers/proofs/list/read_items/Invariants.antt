use Rattle.std.proofs.Common.{◌≡◌, drop}
use Rattle.serde_json.specs.View.{items_view}
use Rattle.pol_readers.specs.Forms.{items}
use Rattle.pol_readers.proofs.ListLemmas.{after}
use Rattle.pol_readers.proofs.list.read_items.Given as goal

abbrev pub invariant-loop-place : goal.invariant-loop-place
invariant-loop-place g l =
    items g.F.Form.shape.read 0 (items_view l.items.items)
    ≡ after l.read.items (items g.F.Form.shape.read l.place (items_view (drop l.place l.items.items)))
