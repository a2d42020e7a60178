use Rattle.std.proofs.Common.{◌≡◌, ◌+◌, ◌<◌, ℕ, All, List, get_or, length, take, subst}
use Rattle.std.proofs.lemmas.List.{take_more}
use Rattle.std.proofs.lemmas.List.Elements.{All-push}
use Rattle.pol_properties.specs.Properties.{KeysAscend}
use Rattle.pol_meta.specs.declared.snapshot.Snapshot.{Snapshot}
use Rattle.pol_metalaws.proofs.held.summaries_rise.Goals as goal

one_more : (xs : List Snapshot) (place : ℕ) (item : Snapshot) → place < length xs → item ≡ get_or xs place item
    → All (λ (snapshot : Snapshot). KeysAscend snapshot.summary) (take place xs) → KeysAscend item.summary
    → All (λ (snapshot : Snapshot). KeysAscend snapshot.summary) (take (place + 1) xs)
one_more xs place item inside is before rise =
    rw (take_more xs place item inside)
    (All-push (λ (snapshot : Snapshot). KeysAscend snapshot.summary) (take place xs) (get_or xs place item) before
    (subst (λ (snapshot : Snapshot). KeysAscend snapshot.summary) is rise))

pub loop-snapshot-preserved : goal.loop-snapshot-preserved
loop-snapshot-preserved c =
    one_more c.args.snapshots.now c.loop-snapshot.snapshot-index c.snapshot-item.result c.loop-snapshot-test.true
    c.snapshot-item.is
    c.loop-snapshot.invariant c.iter-pairs.ensures.ascend
