use Rattle.std.proofs.Common.{rules, ◌≡◌, ◌+◌, ◌<◌, ◌≤◌, ℕ, All, List, get_or, length, take, subst}
use Rattle.std.proofs.lemmas.List.{take_all, take_more}
use Rattle.std.proofs.lemmas.List.Elements.{All-push}
use Rattle.pol_views.specs.declared.version.ViewVersion.{ViewVersion}
use Rattle.pol_viewjson.specs.Laws.{IsHeldVersion}
use Rattle.pol_viewjson.proofs.held.versions_are_held.Goals as goal

one_more : (xs : List ViewVersion) (place : ℕ) (item : ViewVersion) → place < length xs → item ≡ get_or xs place item
    → All IsHeldVersion (take place xs) → IsHeldVersion item → All IsHeldVersion (take (place + 1) xs)
one_more xs place item inside is before held =
    rw (take_more xs place item inside)
    (All-push IsHeldVersion (take place xs) (get_or xs place item) before (subst IsHeldVersion is held))

pub loop-version-preserved : goal.loop-version-preserved
loop-version-preserved c =
    one_more c.args.versions.now c.loop-version.version-index c.version-item.result c.loop-version-test.true
    c.version-item.is c.loop-version.invariant c.is_held.ensures

pub returns : goal.returns
returns c =
    let past : length c.args.versions.now ≤ c.loop-version.version-index = search rules in
    subst (λ (xs : List ViewVersion). All IsHeldVersion xs) (take_all c.loop-version.version-index c.args.versions.now past)
    c.loop-version.invariant
