use Rattle.std.proofs.Common.{◌≡◌, ◌∙◌, ◌<◌, ◌-◌, ap, arith, length}
use Rattle.std.specs.Prelude.{Vec}
use Rattle.std.proofs.lemmas.List.{length-map}
use Rattle.pol_blocks.specs.Blocks.{block_at}
use Rattle.pol_blocks.proofs.Flats.{contents-at, spot-in-front}
use Rattle.pol_blocks.proofs.blocks.Blocks.spot.Goals as goal

pub returns : goal.returns
returns g c =
    let list = c.args.self.now in
    let place = c.args.place in
    let items = c.self.inside.parts.items in
    let behind : 0 < place.block = omega arith in
    let inside : place.block - 1 < length items = omega (arith, length-map items (λ (some : Vec _ _). some.items), ap length c.self.view_is, c.requires.within) in
    let read : c.index.result.now.items ≡ block_at list (place.block - 1) =
    contents-at items (place.block - 1) c.index.result.now inside c.index.ensures ∙ ap (λ some. block_at some (place.block - 1)) c.self.view_is in
    spot-in-front list place c.len-offset.result c.requires.within behind (omega arith) (c.len-offset.ensures ∙ c.index.result.now.ok.0 ∙ ap length read)
