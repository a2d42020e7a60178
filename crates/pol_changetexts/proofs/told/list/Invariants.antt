use Rattle.std.proofs.Common.{◌≡◌, ◌++◌, length, take, flat_map}
use Rattle.std.specs.Prelude.{decimal, string_bytes}
use Rattle.pol_changetexts.proofs.told.list.Given as goal

abbrev pub invariant-loop-item : goal.invariant-loop-item
invariant-loop-item g l =
    string_bytes l.told ≡ decimal (length l.items) ++ flat_map (λ item. l.mark ++ g.T.Told.text item) (take l.item-index l.items)
