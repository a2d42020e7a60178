use Rattle.std.proofs.Common.{◌≡◌, ◌∙◌, ◌<◌, ap, arith, get_or, length, subst, sym}
use Rattle.std.specs.Prelude.{Vec, slice_get}
use Rattle.std.proofs.lemmas.List.{length-map}
use Rattle.pol_blocks.specs.Blocks.{block_at}
use Rattle.pol_blocks.proofs.Flats.{contents-at, copied-get, get-at}
use Rattle.pol_blocks.proofs.blocks.Blocks.get.Goals as goal

pub returns : goal.returns
returns g c =
    let items = c.self.inside.parts.items in
    let list = c.args.self.now in
    let place = c.args.place in
    let block = c.in_ok-block.block.now in
    let inside : place.block < length items = subst (λ some. place.block < length some) c.deref.ensures.value c.in_ok-block.ensures.lookup.3.0 in
    let read : block ≡ get_or items place.block block = subst (λ some. block ≡ get_or some place.block block) c.deref.ensures.value c.in_ok-block.ensures.lookup.1 in
    let is : c.deref-2.result.now ≡ block_at list place.block =
    c.deref-2.ensures.value ∙ contents-at items place.block block inside read ∙ ap (λ some. block_at some place.block) c.self.view_is in
    let many : length items ≡ length list = sym (length-map items (λ (some : Vec _ _). some.items)) ∙ ap length c.self.view_is in
    let at : place.offset < length (block_at list place.block) = c.requires.inside (omega arith) in
    copied-get c.deref-2.result.now place.offset c.get-2.result c.get-2.ensures.lookup.3
    ∙ ap (λ some. slice_get some place.offset) is
    ∙ sym (get-at list place.block place.offset at)
